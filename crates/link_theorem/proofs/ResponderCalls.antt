-- Each call of a responder of the link is, through the view of its record, the call on messages: case by case of what is heard and
-- of the row. A telegram that it writes is the message put, since with 255 bytes of room the writer refuses none.
use Prim.Native.Nat.{ℕ, ◌≤◌}
use mathlib.Core.Bool.{Bool, true, false}
use mathlib.Core.List.{List, [], ◌++◌}
use mathlib.Core.Option.{some}
use mathlib.Core.Path.{◌≡◌, refl, ap}
use native.Mathlib.Nat.{add-sub_cancel_left, le_trans, min-le_left}
use native.Mathlib.Omega.{arith}
use lib.Dec.{leb, lit≤}
use lib.ListN.{length, drop, replicate, length-drop, length-take}
use lib.Seq.{length-take-le}
use borrow.Author.Tests.{leb-true, leb-false, le-ltb, lt-ltb}
use Rattle.ground.proofs.PartLaws.{shown_fits}
use Rattle.ground.specs.Part.{shown_part}
use Rattle.ground.specs.Pick.{if}
use Rattle.ground.specs.declared.part.Part.{Part}
use Rattle.initiator.specs.Calls.{wrong_order}
use Rattle.demand_3.proofs.Follows.{Same}
use Rattle.link_model.specs.Coded.{Codec, an_order, taken_of, put_turn, coded}
use Rattle.link_model.specs.Messages as said
use Rattle.link_model.specs.Responder as message
use Rattle.demand_3.specs.Turns.{nothing, Turn, refusing}
use Rattle.link_rules.proofs.RuleLaws.{linked_turned}
use Rattle.link_rules.specs.Rules.{room, longest, wrong_length, Linked, turned}
use Rattle.link_rules.specs.declared.link.Link.{Link}
use Rattle.link_telegrams.proofs.HeardLaws.{Within, RequestWithin, request_within}
use Rattle.link_telegrams.specs.Headers.{ok_header, reply_header}
use Rattle.link_telegrams.specs.Heard.{request_heard_of}
use Rattle.link_telegrams.specs.declared.headers.Bit.{Bit}
use Rattle.link_telegrams.specs.declared.headers.Bit.TheVariants.{Low, High}
use Rattle.link_telegrams.specs.declared.heard.RequestHeard.{RequestHeard}
use Rattle.link_telegrams.specs.declared.heard.RequestHeard.TheVariants as heard
use Rattle.link_theorem.proofs.Codec.{codec, put_of, request_seen}
use Rattle.link_theorem.proofs.EitherEnd.{written, both, with_room_lem}
use Rattle.link_theorem.proofs.Views.{bit_seen, state_seen, row_seen, responder_seen, OfResponder, of_responder}
use Rattle.link_theorem.specs.OrderLink.{turn_of, order_shown}
use Rattle.responder.proofs.RecordLaws as maker
use Rattle.responder_row.proofs.RowLaws.{held_answer}
use Rattle.responder.specs.Calls as call
use Rattle.responder.specs.Calls.{hear_of, answer_of, restart_of}
use Rattle.responder.specs.Records.{blank_of, made_of}
use Rattle.responder_row.specs.Rows.{held_of, same_bit, holding, row_hears, row_answers, answers_in, order_on, stored_bit}
use Rattle.responder_row.specs.declared.row.Row.{Row}
use Rattle.responder_row.specs.declared.row.RowState.{RowState}
use Rattle.responder_row.specs.declared.row.RowState.TheVariants.{Blank, Opened, Owes, Holds}
use Rattle.responder.specs.declared.state.Responder.{Responder}
use Rattle.telegram_tx.proofs.LengthLaws.{length_byte_is}

-- is it the stored bit, by the state of the row
abbrev again : RowState → Bit → Bool
again Blank b = false
again Opened b = same_bit High b
again (Owes c) b = same_bit c b
again (Holds c) b = same_bit c b

same_seen : (c b : Bit) → said.same (bit_seen c) (bit_seen b) ≡ same_bit c b
same_seen Low Low = refl
same_seen Low High = refl
same_seen High Low = refl
same_seen High High = refl

again_seen : (s : RowState) (p : List ℕ) (b : Bit) → message.same_bit (state_seen s p) (bit_seen b) ≡ again s b
again_seen Blank p b = refl
again_seen Opened p b = same_seen High b
again_seen (Owes c) p b = same_seen c b
again_seen (Holds c) p b = same_seen c b

-- The bytes of a part that lies within others are as many as it says.
shown_length : (p : Part) (s : List ℕ) → Within s p → length (shown_part p s) ≡ p.len
shown_length p s h = rw (shown_fits p s h, add-sub_cancel_left) (length-take-le p.len (drop p.start s) (rw length-drop (omega arith)))

-- A held reply of the link may be sent.
held_small : (s : RowState) (a : List ℕ) (l : ℕ) → l ≤ longest → length (held_of (record { state = s; held = a; len = l })) ≤ longest
held_small s a l h = le_trans (rw length-take (min-le_left l (length a))) h

module _ (link : Link) (linked : Linked link) where
  abbrev C : Codec
  C = codec link

  -- a call of the code is the call on messages, and leaves a responder of this link
  abbrev pub ResponderSame : Turn Responder (List ℕ) (List ℕ) → Turn message.Row (List ℕ) (List ℕ) → Type 0
  ResponderSame t u = Same responder_seen (λ s. s) (OfResponder (turned link)) (λ s. Unit {0}) t u

  -- any responder of this link
  abbrev with : Row → Responder
  with row = record { link = turned link; row = row }

  -- a row in this state
  abbrev at : RowState → List ℕ → ℕ → Row
  at st a l = record { state = st; held = a; len = l }

  module _ (s buf : List ℕ) (wide : room ≤ length buf) where
    ok_put :
        (row next : Row)
        → turn_of (order_shown s) (call.sends_ok (with row) next buf)
        ≡ record { next = with next; writes = some (put_of link said.ok); says = nothing }
    unfolding ok_header
    ok_put row next =
        written (order_shown s) (with row) (with next) (ok_header (turned link)) [] buf (le_trans linked.own_small (lit≤ tt)) (le_trans linked.peer_small (lit≤ tt)) (rw length_byte_is (omega arith)) wide

    reply_put :
        (row next : Row) (p : List ℕ) → length p ≤ longest
        → turn_of (order_shown s) (call.sends_reply (with row) next p buf)
        ≡ record { next = with next; writes = some (put_of link (said.reply p)); says = nothing }
    unfolding reply_header
    reply_put row next p short =
        written (order_shown s) (with row) (with next) (reply_header (turned link)) p buf (le_trans linked.own_small (lit≤ tt)) (le_trans linked.peer_small (lit≤ tt)) (rw length_byte_is (omega arith)) wide

    module _ (a : List ℕ) (l : ℕ) (small : l ≤ longest) where
      -- "FCV with no stored bit: nothing. Same bit: … Other bit: …"
      ordered :
          (st : RowState) (b : Bit) (q : Part) (t w : Bool) → again st b ≡ t
          → message.same_bit (row_seen (at st a l)) (bit_seen b) ≡ t → wrong_length q.len ≡ w → wrong_order (shown_part q s) ≡ w
          → ResponderSame
          (turn_of (order_shown s) (call.hear_in (order_on (stored_bit st) b q (at st a l)) (with (at st a l)) buf))
          (put_turn C (message.row_hears (row_seen (at st a l)) (taken_of C (row_seen (at st a l)) (an_order (bit_seen b) (shown_part q s)))))
      ordered Blank b q t true e m v u = rw u (record { same = refl; sound_next = of_responder Blank a l small; sound_writes = tt })
      ordered Blank b q t false e m v u = rw u (record { same = refl; sound_next = of_responder Blank a l small; sound_writes = tt })
      ordered Opened b q true w e m v u = rw (e, m, m) (record { same = refl; sound_next = of_responder Opened a l small; sound_writes = tt })
      ordered Opened b q false true e m v u = rw (e, m, v, u) (record { same = refl; sound_next = of_responder Opened a l small; sound_writes = tt })
      ordered Opened b q false false e m v u = rw (e, m, v, u, m) (record { same = refl; sound_next = of_responder (Owes b) a 0 (lit≤ tt); sound_writes = tt })
      ordered (Owes c) b q true w e m v u = rw (e, m, m) (record { same = refl; sound_next = of_responder (Owes c) a l small; sound_writes = tt })
      ordered (Owes c) b q false true e m v u = rw (e, m, v, u) (record { same = refl; sound_next = of_responder (Owes c) a l small; sound_writes = tt })
      ordered (Owes c) b q false false e m v u = rw (e, m, v, u, m) (record { same = refl; sound_next = of_responder (Owes b) a 0 (lit≤ tt); sound_writes = tt })
      ordered (Holds c) b q true w e m v u =
          rw (e, m, m, reply_put (at (Holds c) a l) (at (Holds c) a l) (held_of (at (Holds c) a l)) (held_small (Holds c) a l small))
          (record { same = refl; sound_next = of_responder (Holds c) a l small; sound_writes = tt })
      ordered (Holds c) b q false true e m v u = rw (e, m, v, u) (record { same = refl; sound_next = of_responder (Holds c) a l small; sound_writes = tt })
      ordered (Holds c) b q false false e m v u = rw (e, m, v, u, m) (record { same = refl; sound_next = of_responder (Owes b) a 0 (lit≤ tt); sound_writes = tt })

      -- "hears SRD low from its peer to itself", and goes by its row
      hears :
          (st : RowState) (h : RequestHeard) → RequestWithin s h
          → ResponderSame
          (turn_of (order_shown s) (call.hear_in (row_hears h (at st a l)) (with (at st a l)) buf))
          (put_turn C (message.row_hears (row_seen (at st a l)) (taken_of C (row_seen (at st a l)) (request_seen s h))))
      unfolding row_hears
      hears st heard.Opening within =
          rw (ok_put (at st a l) (at Opened a 0))
          (record { same = refl; sound_next = of_responder Opened a 0 (lit≤ tt); sound_writes = tt })
      hears st (heard.Order b q) within =
          ordered st b q (again st b) (wrong_length q.len) refl (again_seen st (held_of (at st a l)) b) refl
          (ap wrong_length (shown_length q s within))
      hears st heard.Nothing within =
          record { same = refl; sound_next = of_responder st a l small; sound_writes = tt }

      -- "the application then answers once, and that answer is held"; s is not looked at
      answers :
          (st : RowState) (p : List ℕ) (t : Bool) → leb (length p) longest ≡ t
          → ResponderSame
          (turn_of (order_shown s) (call.answer_in (answers_in st (at st a l) p) (with (at st a l)) p buf))
          (if t (put_turn C (message.row_answers (row_seen (at st a l)) p)) (refusing (row_seen (at st a l))))
      answers Blank p true e = record { same = refl; sound_next = of_responder Blank a l small; sound_writes = tt }
      answers Blank p false e = record { same = refl; sound_next = of_responder Blank a l small; sound_writes = tt }
      answers Opened p true e = record { same = refl; sound_next = of_responder Opened a l small; sound_writes = tt }
      answers Opened p false e = record { same = refl; sound_next = of_responder Opened a l small; sound_writes = tt }
      answers (Holds c) p true e = record { same = refl; sound_next = of_responder (Holds c) a l small; sound_writes = tt }
      answers (Holds c) p false e = record { same = refl; sound_next = of_responder (Holds c) a l small; sound_writes = tt }
      answers (Owes c) p true e =
          let short = leb-true (length p) longest e in
          rw (le-ltb longest (length p) short, reply_put (at (Owes c) a l) (holding c p (at (Owes c) a l)) p short)
          (record {
            same = rw (held_answer c p (at (Owes c) a l));
            sound_next = of_responder (Holds c) (p ++ drop (length p) a) (length p) short;
            sound_writes = tt;
          })
      answers (Owes c) p false e =
          rw (lt-ltb longest (length p) (leb-false (length p) longest e))
          (record { same = refl; sound_next = of_responder (Owes c) a l small; sound_writes = tt })

  pub hear_same :
      (r : Responder) (buf s : List ℕ) → OfResponder (turned link) r
      → ResponderSame (turn_of (order_shown s) (hear_of r s buf)) ((coded C).responder_hear (responder_seen r) buf s)
  unfolding hear_of
  hear_same r buf s (of_responder st a l small) =
      with_room_lem (order_shown s) responder_seen (OfResponder (turned link)) (with (at st a l)) buf _ _ (leb room (length buf)) refl (of_responder st a l small)
      (λ wide. hears s buf wide a l small st (request_heard_of (turned link) s) (request_within s (turned link)))

  pub answer_same :
      (r : Responder) (buf p : List ℕ) → OfResponder (turned link) r
      → ResponderSame (turn_of (order_shown []) (answer_of r p buf)) ((coded C).answer (responder_seen r) buf p)
  unfolding answer_of row_answers
  answer_same r buf p (of_responder st a l small) =
      rw (both (leb room (length buf)))
      (with_room_lem (order_shown []) responder_seen (OfResponder (turned link)) (with (at st a l)) buf _ _ (leb room (length buf)) refl (of_responder st a l small)
      (λ wide. answers [] buf wide a l small st p (leb (length p) longest) refl))

  -- "Restart forgets all"
  pub restart_seen :
      (r : Responder) → OfResponder (turned link) r
      → (responder_seen (restart_of r) ≡ message.new_row) × OfResponder (turned link) (restart_of r)
  restart_seen r (of_responder st a l small) = (refl, of_responder Blank (replicate longest 0) 0 (lit≤ tt))

  -- a record that is made remembers nothing
  made_blank : (made_of (turned link)).end ≡ blank_of (turned link)
  made_blank =
      maker.made_blank (turned link) (linked_turned link linked)

  pub made_seen : responder_seen (made_of (turned link)).end ≡ message.new_row
  made_seen = rw made_blank

  pub made_of_link : OfResponder (turned link) (made_of (turned link)).end
  made_of_link = rw made_blank (of_responder Blank (replicate longest 0) 0 (lit≤ tt))
