-- Demand 3 on the calls themselves: the pair of ends that the calls make follows the two ends on messages over the link's codec, call
-- by call, and so keeps what those keep. Read `demand_3`.
use Prim.Native.Nat.{ℕ}
use borrow.Author.Tests.{leb-true, le-ltb}
use lib.Dec.{leb}
use lib.ListN.{length}
use mathlib.Core.Bool.{Bool, true, false, not, false≢true}
use mathlib.Core.List.{List}
use mathlib.Core.Path.{◌≡◌, refl, ap, ◌∙◌}
use native.Mathlib.Omega.{arith}
use Rattle.ground.specs.Pick.{if}
use Rattle.link_rules.proofs.RuleLaws.{some_bytes}
use Rattle.link_rules.specs.Rules.{Linked, longest, turned, wrong_length}
use Rattle.link_rules.specs.declared.link.Link.{Link}
use Rattle.link_model.proofs.Coded.{coded_follower_demand}
use Rattle.demand_3.proofs.Follows.{Follows}
use Rattle.demand_3.proofs.Owing.{Owing, owing_same}
use Rattle.link_model.proofs.Counting.{coded_owing}
use Rattle.link_model.specs.Coded.{coded, request_of}
use Rattle.demand_3.specs.Demand.{Demand}
use Rattle.link_model.specs.Messages as message
use Rattle.link_telegrams.specs.Heard.{request_heard_of}
use Rattle.link_telegrams.specs.declared.heard.RequestHeard.{RequestHeard}
use Rattle.link_telegrams.specs.declared.heard.RequestHeard.TheVariants as heard
use Rattle.link_theorem.proofs.ResponderCalls as responder
use Rattle.link_theorem.proofs.Codec.{codec, codec_faithful, request_seen}
use Rattle.link_theorem.proofs.InitiatorCalls as initiator
use Rattle.link_theorem.proofs.Views.{initiator_seen, responder_seen, OfInitiator, OfResponder}
use Rattle.link_theorem.specs.OrderLink.{is_opening, order_link}

-- An opening is an opening.
opening_seen : (s : List ℕ) (h : RequestHeard) → is_opening h ≡ message.is_opening (request_of (request_seen s h))
opening_seen s heard.Opening = refl
opening_seen s (heard.Order b q) = refl
opening_seen s heard.Nothing = refl

-- The length of an order that may be submitted is none that the call refuses.
right_length : (n : ℕ) → if (leb 1 n) (leb n longest) false ≡ true → not (wrong_length n) ≡ true
right_length n e = go (leb 1 n) refl e
  where
    go : (t : Bool) → leb 1 n ≡ t → if t (leb n longest) false ≡ true → not (wrong_length n) ≡ true
    go true p h = ap not (some_bytes n (λ z. omega (arith, leb-true 1 n p, z)) ∙ le-ltb longest n (leb-true n longest h))
    go false p h = absurd (false≢true h)

module _ (link : Link) (linked : Linked link) where
  calls_follow : Follows (order_link link) (coded (codec link))
  calls_follow =
      record {
        view_initiator = initiator_seen;
        view_responder = responder_seen;
        view_telegram = λ s. s;
        view_room = λ buf. buf;
        view_submit = λ buf q. buf;
        view_answer = λ buf p. buf;
        SoundInitiator = OfInitiator link;
        SoundResponder = OfResponder (turned link);
        SoundTelegram = λ s. Unit {0};
        same_opens = λ s. opening_seen s (request_heard_of (turned link) s);
        same_enough = λ buf. refl;
        same_answerable = λ p e. e;
        enough_answer = λ buf p e f. e;
        same_orderable = λ q e. right_length (length q) e;
        enough_submit = λ buf q e f. e;
        made_initiator = initiator.made_seen link linked;
        made_sound = initiator.made_of_link link linked;
        submits = initiator.submit_same link linked;
        silence = initiator.silence_same link linked;
        initiator_hears = λ i buf s of h. initiator.hear_same link linked i buf s of;
        initiator_restarts = initiator.restart_same link linked;
        stray_to_initiator = λ i s of e. e;
        made_responder = responder.made_seen link linked;
        responder_sound = responder.made_of_link link linked;
        responder_hears = λ r buf s of h. responder.hear_same link linked r buf s of;
        answers = responder.answer_same link linked;
        responder_restarts = responder.restart_seen link linked;
        stray_to_responder = λ r s of e. e;
      }

  -- Demand 3, of the calls: for every list of calls of the two ends, with any bytes, rooms, restarts and records made anew, on
  -- document 01's line.
  pub demand_3 : Demand (order_link link)
  demand_3 = coded_follower_demand (codec link) (codec_faithful link linked) (order_link link) calls_follow

  -- when the responder's record owes a reply
  pub owing : Owing (order_link link)
  unfolding calls_follow
  owing = owing_same (order_link link) (coded (codec link)) calls_follow (λ s. tt) (coded_owing (codec link))
