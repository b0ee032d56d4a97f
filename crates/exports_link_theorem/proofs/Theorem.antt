-- Demand 3 of the exported calls: the pair of ends that they make follows the calls by value, call by call, each record seen in its bytes,
-- and so keeps what those keep. Read `demand_3`.
use Prim.Native.Nat.{ℕ}
use mathlib.Core.List.{List, []}
use mathlib.Core.Path.{◌≡◌, refl, subst⁻¹}
use lib.Dec.{lit≤}
use Rattle.demand_3.proofs.Follows.{Follows}
use Rattle.demand_3.proofs.Owing.{Owing, owing_same}
use Rattle.demand_3.proofs.Transfer.{demand_same}
use Rattle.demand_3.specs.Demand.{Demand}
use Rattle.exports_link.proofs.InitiatorLossless.{SmallOrder, initiator_again, submit_small, silence_small, hear_small, restart_small, made_small}
use Rattle.exports_link.proofs.ResponderLossless.{SizedRow, responder_again, blank_sized, hear_kept, answer_kept}
use Rattle.exports_link.specs.Calls.{new_call}
use Rattle.exports_link.specs.InitiatorBytes.{initiator_of}
use Rattle.exports_link.specs.InitiatorCalls.{koy_initiator_new}
use Rattle.exports_link.specs.ResponderBytes.{responder_of}
use Rattle.exports_link.specs.ResponderCalls.{koy_responder_new, koy_responder_restart}
use Rattle.exports_link_theorem.proofs.Crossings.{initiator_crossed, responder_crossed}
use Rattle.exports_link_theorem.proofs.Fair.{submit_fair, silence_fair, initiator_hear_fair, restart_fair, responder_hear_fair, answer_fair}
use Rattle.exports_link_theorem.specs.ExportedLink.{Found, exported_link}
use Rattle.initiator.proofs.RecordLaws as initiatorMaker
use Rattle.initiator.specs.Calls as initiator
use Rattle.initiator.specs.Records as initiatorRecords
use Rattle.initiator.specs.Records.{closed_of}
use Rattle.link_rules.proofs.RuleLaws.{linked_addresses, linked_turned}
use Rattle.link_rules.specs.Rules.{Linked, Permitted, turned}
use Rattle.link_rules.specs.declared.link.Link.{Link}
use Rattle.link_theorem.proofs.Theorem as byValue
use Rattle.link_theorem.specs.OrderLink.{order_link}
use Rattle.responder.proofs.RecordLaws as responderMaker
use Rattle.responder.specs.Calls as responder
use Rattle.responder.specs.Records as responderRecords
use Rattle.responder.specs.Records.{blank_of}

-- What a restart leaves is a blank record, and its bytes are again that.
pub restart_again : (state : List ℕ) → responder_of (koy_responder_restart state) ≡ responder.restart_of (responder_of state)
restart_again state = responder_again (responder.restart_of (responder_of state)) blank_sized

module _ (found : Found) (link : Link) (linked : Linked link) where
  pub initiator_made_lem :
      (n : ℕ) → Permitted n
      → initiator_of (koy_initiator_new found.initiator link.own.0 link.peer.0 n).state ≡ (initiatorRecords.made_of link n).end
  unfolding new_call
  initiator_made_lem n p =
      rw (initiatorMaker.made link n linked p)
      (initiator_again (closed_of link n) (lit≤ tt))

  pub turned_made : responderRecords.made_of (turned link) ≡ record { number = 0; end = blank_of (turned link) }
  turned_made = responderMaker.made (turned link) (linked_addresses (turned link) (linked_turned link linked))

  pub responder_made_lem :
      responder_of (koy_responder_new found.responder link.peer.0 link.own.0).state ≡ (responderRecords.made_of (turned link)).end
  unfolding new_call
  responder_made_lem = rw turned_made (responder_again (blank_of (turned link)) blank_sized)

  pub responder_made_sized : SizedRow (responderRecords.made_of (turned link)).end
  responder_made_sized = rw turned_made blank_sized

  abbrev pub calls_follow : Follows (exported_link found link) (order_link link)
  calls_follow =
      record {
        view_initiator = initiator_of;
        view_responder = responder_of;
        view_telegram = λ s. s;
        view_room = λ lent. lent.buffer;
        view_submit = λ lent q. lent.buffer;
        view_answer = λ lent p. lent.buffer;
        SoundInitiator = λ state. SmallOrder (initiator_of state);
        SoundResponder = λ state. SizedRow (responder_of state);
        SoundTelegram = λ s. Unit {0};
        same_opens = λ s. refl;
        same_enough = λ lent. refl;
        same_answerable = λ p e. e;
        enough_answer = λ lent p e f. e;
        same_orderable = λ q e. e;
        enough_submit = λ lent q e f. e;
        made_initiator = initiator_made_lem;
        made_sound = λ n p. subst⁻¹ SmallOrder (initiator_made_lem n p) (made_small link n);
        submits =
            λ state lent q z.
            let i = initiator_of state in
            initiator_crossed [] state lent.told z (initiator.submit_of i q lent.buffer) (submit_fair [] i q lent.buffer)
            (submit_small i z q lent.buffer);
        silence =
            λ state lent z.
            let i = initiator_of state in
            initiator_crossed [] state lent.told z (initiator.silence_of i lent.buffer) (silence_fair [] i lent.buffer)
            (silence_small i z lent.buffer);
        initiator_hears =
            λ state lent s z h.
            let i = initiator_of state in
            initiator_crossed s state lent.told z (initiator.hear_of i s lent.buffer) (initiator_hear_fair s i lent.buffer)
            (hear_small i z s lent.buffer);
        initiator_restarts =
            λ state z.
            let i = initiator_of state in
            initiator_crossed [] state found.told z (initiator.restart_of i) (restart_fair [] i) (restart_small i z);
        stray_to_initiator = λ state s z e. e;
        made_responder = responder_made_lem;
        responder_sound = subst⁻¹ SizedRow responder_made_lem responder_made_sized;
        responder_hears =
            λ state lent s z h.
            let r = responder_of state in
            responder_crossed s state lent.told z (responder.hear_of r s lent.buffer) (responder_hear_fair s r lent.buffer)
            (hear_kept r z s lent.buffer);
        answers =
            λ state lent p z.
            let r = responder_of state in
            responder_crossed [] state lent.told z (responder.answer_of r p lent.buffer) (answer_fair [] r p lent.buffer)
            (answer_kept r z p lent.buffer);
        responder_restarts = λ state z. (restart_again state, subst⁻¹ SizedRow (restart_again state) blank_sized);
        stray_to_responder = λ state s z e. e;
      }

  -- Demand 3, of the exported calls: for every list of calls of the two ends, with any bytes, buffers and told numbers, restarts and
  -- records made anew, whatever stood in memory before, on document 01's line.
  pub demand_3 : Demand (exported_link found link)
  demand_3 = demand_same (exported_link found link) (order_link link) calls_follow (byValue.demand_3 link linked)

  -- when the bytes of a responder's record owe a reply
  pub owing : Owing (exported_link found link)
  owing = owing_same (exported_link found link) (order_link link) calls_follow (λ s. tt) (byValue.owing link linked)
