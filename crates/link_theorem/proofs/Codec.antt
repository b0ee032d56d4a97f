-- The messages of the link as telegrams between two stations. What is put is got back by the end that it is for and is nothing to
-- the end that wrote it, and bytes that do not bear both addresses are nothing to either end.
use Rattle.std.proofs.Common.{None, Some}
use Prim.Native.Nat.{ℕ, ◌≤◌}
use mathlib.Core.Bool.{Bool, true, false, not, true≢false}
use mathlib.Core.List.{List, []}
use mathlib.Core.Path.{◌≡◌, refl, sym}
use native.Mathlib.Nat.{le_trans}
use lib.Dec.{eqb, leb, lit≤}
use lib.ListN.{length}
use borrow.Author.Tests.{leb-true, eqb-false}
use Rattle.ground.specs.Part.{shown_part}
use Rattle.ground.specs.Pick.{if}
use Rattle.ground.specs.declared.address.Address.{Address}
use Rattle.ground.specs.declared.part.Part.{Part}
use Rattle.codes.specs.RequestTypes.{request_number}
use Rattle.codes.specs.declared.function_code.FunctionCode.{FunctionCode}
use Rattle.codes.specs.declared.function_code.FunctionCode.TheVariants.{Request, Response}
use Rattle.codes.specs.declared.request_type.RequestType.TheVariants.{SrdLow}
use Rattle.initiator.specs.Calls.{wrong_order}
use Rattle.link_model.proofs.Ignored.{ignores_other}
use Rattle.link_model.specs.Coded.{an_opening, an_order, no_request, an_ok, a_reply, no_response, Codec, Faithful}
use Rattle.link_model.specs.Coded as coded
use Rattle.link_model.specs.Messages.{Bit, Message, opening, ok, order, reply, other}
use Rattle.link_rules.specs.Rules.{room, longest, Linked, turned}
use Rattle.link_rules.specs.declared.link.Link.{Link}
use Rattle.link_telegrams.proofs.HeardCases.{another_asked, not_the_peer}
use Rattle.link_telegrams.proofs.WrittenLaws.{opening_heard_lem, order_heard_lem, ok_heard_lem, reply_heard_lem, order_shown_lem, reply_shown, opening_echoed_lem, order_echoed_lem, ok_echoed_lem, reply_echoed_lem}
use Rattle.link_telegrams.specs.Headers.{opening_header, order_header, ok_header, reply_header}
use Rattle.link_telegrams.specs.Heard.{DataHeard, data_from, no_data, absent, read_in, data_to_of, srd_of, request_in, request_to_of, request_from, request_heard_of, reply_from, reply_heard_of}
use Rattle.link_telegrams.specs.declared.heard.ReplyHeard.{ReplyHeard}
use Rattle.link_telegrams.specs.declared.heard.ReplyHeard.TheVariants as reply_heard
use Rattle.link_telegrams.specs.declared.heard.RequestHeard.{RequestHeard}
use Rattle.link_telegrams.specs.declared.heard.RequestHeard.TheVariants as request_heard
use Rattle.link_theorem.proofs.Views.{bit_seen, bit_put, seen_put}
use Rattle.link_theorem.specs.OrderLink.{goes, bears_in, bears_both}
use Rattle.telegram.specs.Picture.{telegram_bytes}
use Rattle.telegram.specs.Reading.{Reading, whole, incomplete, refused, read_of}
use Rattle.telegram.specs.declared.kinds.Telegram.TheVariants.{Data, Token, ShortConfirmation}

-- what was heard, with the bytes of the part
abbrev pub request_seen : List ℕ → RequestHeard → coded.Request
request_seen s request_heard.Opening = an_opening
request_seen s (request_heard.Order b q) = an_order (bit_seen b) (shown_part q s)
request_seen s request_heard.Nothing = no_request

abbrev pub reply_seen : List ℕ → ReplyHeard → coded.Response
reply_seen s reply_heard.Ok = an_ok
reply_seen s (reply_heard.Reply p) = a_reply (shown_part p s)
reply_seen s reply_heard.Nothing = no_response

abbrev pub put_of : Link → Message → List ℕ
put_of link opening = telegram_bytes (opening_header link) []
put_of link ok = telegram_bytes (ok_header (turned link)) []
put_of link (order b q) = telegram_bytes (order_header link (bit_put b)) q
put_of link (reply p) = telegram_bytes (reply_header (turned link)) p
put_of link other = []

-- the codec of a link, as its initiator has it
abbrev pub codec : Link → Codec
codec link =
    record {
      Telegram = List ℕ;
      Room = List ℕ;
      enough = λ buf. leb room (length buf);
      orderable = λ q. not (wrong_order q);
      answerable = λ p. leb (length p) longest;
      put = put_of link;
      to_responder = λ s. request_seen s (request_heard_of (turned link) s);
      to_initiator = λ s. reply_seen s (reply_heard_of link s);
      StrayToInitiator = λ i s. bears_both link s ≡ false;
      StrayToResponder = λ r s. bears_both link s ≡ false;
    }

-- What holds of nothing, and of a telegram to us that another station sent, holds of any that does not go from the peer to us.
not_there :
    {D : Type 0} (P : D → Type 0) (i n : D) (t x y x' y' z : Bool) → (x ≡ false → P i) → P n
    → if t (if (if x y false) true (if x' y' false)) false ≡ false
    → P (if t (if (if y z false) i n) n)
not_there P i n true true true x' y' z f p e = absurd (true≢false e)
not_there P i n true true false x' y' z f p e = p
not_there P i n true false true x' y' true f p e = f refl
not_there P i n true false true x' y' false f p e = p
not_there P i n true false false x' y' z f p e = p
not_there P i n false x y x' y' z f p e = p

-- A request of another station is none of the peer's.
not_asked : (peer sa : Address) (fc : FunctionCode) (pdu : Part) → (sa.0 ≡ peer.0 → ⊥) → request_from peer (request_in (data_from sa fc pdu)) ≡ request_heard.Nothing
not_asked peer sa (Request f req) pdu d = go (eqb (request_number req) (request_number SrdLow))
  where
    go : (t : Bool) → request_from peer (if t (Some (sa, srd_of f pdu)) None) ≡ request_heard.Nothing
    go true = another_asked peer sa (srd_of f pdu) d
    go false = refl
not_asked peer sa (Response state s) pdu d = refl

module _ (a b : Address) (P : DataHeard → Type 0) (none : P no_data) where
  nothing_read :
      ((sa : Address) (fc : FunctionCode) (pdu : Part) → (sa.0 ≡ a.0 → ⊥) → P (data_from sa fc pdu))
      → (n : ℕ) (r : Reading) → bears_in n a b r ≡ false → P (read_in n b r)
  nothing_read f n (whole (Data d) total) e =
      not_there P (data_from d.h.sa d.h.fc d.pdu) no_data (eqb total n) (eqb d.h.sa.0 a.0) (eqb d.h.da.0 b.0) (eqb d.h.sa.0 b.0) (eqb d.h.da.0 a.0)
      (if (absent d.h.dsap) (absent d.h.ssap) false)
      (λ other. f d.h.sa d.h.fc d.pdu (eqb-false _ _ other)) none e
  nothing_read f n (whole (Token t) total) e = none
  nothing_read f n (whole ShortConfirmation total) e = none
  nothing_read f n incomplete e = none
  nothing_read f n (refused k) e = none

-- Bearing both addresses is the same either way round.
either_way : (t x y : Bool) → if t (if x true y) false ≡ false → if t (if y true x) false ≡ false
either_way true true y e = absurd (true≢false e)
either_way true false true e = absurd (true≢false e)
either_way true false false e = refl
either_way false x y e = refl

module _ (a b : Address) where
  bears_either_way : (n : ℕ) (r : Reading) → bears_in n a b r ≡ false → bears_in n b a r ≡ false
  bears_either_way n (whole (Data d) total) e =
      either_way (eqb total n) (goes a b d.h.da d.h.sa) (goes b a d.h.da d.h.sa) e
  bears_either_way n (whole (Token t) total) e = refl
  bears_either_way n (whole ShortConfirmation total) e = refl
  bears_either_way n incomplete e = refl
  bears_either_way n (refused k) e = refl

module _ (link : Link) (s : List ℕ) (e : bears_both link s ≡ false) where
  pub no_request_lem : request_heard_of (turned link) s ≡ request_heard.Nothing
  unfolding bears_both request_heard_of request_to_of data_to_of
  no_request_lem =
      nothing_read link.own link.peer (λ d. request_from link.own (request_in d) ≡ request_heard.Nothing) refl
      (λ sa fc pdu other. not_asked link.own sa fc pdu other) (length s) (read_of s) e

  pub no_reply : reply_heard_of link s ≡ reply_heard.Nothing
  unfolding bears_both reply_heard_of data_to_of
  no_reply =
      nothing_read link.peer link.own (λ d. reply_from link.peer d ≡ reply_heard.Nothing) refl
      (λ sa fc pdu other. not_the_peer link.peer sa fc pdu other) (length s) (read_of s)
      (bears_either_way link.own link.peer (length s) (read_of s) e)

module _ (link : Link) (linked : Linked link) where
  seven_bits : {n : ℕ} → n ≤ 125 → n ≤ 127
  seven_bits h = le_trans h (lit≤ tt)

  abbrev C : Codec
  C = codec link

  own_small : link.own.0 ≤ 127
  own_small = seven_bits linked.own_small

  peer_small : link.peer.0 ≤ 127
  peer_small = seven_bits linked.peer_small

  back : link.peer.0 ≡ link.own.0 → ⊥
  back e = linked.differ (sym e)

  order_got : (b : Bit) (q : List ℕ) → C.to_responder (C.put (order b q)) ≡ an_order b q
  order_got b q =
      rw (
        order_heard_lem link own_small peer_small (bit_put b) q,
        seen_put b,
        order_shown_lem link own_small peer_small (bit_put b) q,
      )

  reply_got : (p : List ℕ) → length p ≤ longest → C.to_initiator (C.put (reply p)) ≡ a_reply p
  reply_got p short =
      rw (
        reply_heard_lem (turned link) peer_small own_small p short,
        reply_shown (turned link) peer_small own_small p,
      )

  pub codec_faithful : Faithful C
  codec_faithful =
      record {
        opening_heard = rw (opening_heard_lem link own_small peer_small);
        order_heard = λ b q y. order_got b q;
        ok_heard = rw (ok_heard_lem (turned link) peer_small own_small);
        reply_heard = λ p y. reply_got p (leb-true _ _ y);
        opening_echoed = rw (opening_echoed_lem link own_small peer_small linked.differ);
        order_echoed = λ b q y. rw (order_echoed_lem link own_small peer_small linked.differ (bit_put b) q);
        ok_echoed = rw (ok_echoed_lem (turned link) peer_small own_small back);
        reply_echoed = λ p y. rw (reply_echoed_lem (turned link) peer_small own_small back p);
        stray_to_initiator = λ i s e. rw (no_reply link s e) (ignores_other i.tries i.phase);
        stray_to_responder = λ r s e. rw (no_request_lem link s e);
      }
