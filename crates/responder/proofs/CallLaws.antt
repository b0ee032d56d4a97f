-- Laws of the calls: each step of the code by what it answered. First of the whole record, then of a head and lent bytes, then of the two
-- together.
use Rattle.std.proofs.Common.{Err, Ok, Result}
use Prim.Native.Nat.{ℕ, ◌<◌, ◌≤◌}
use mathlib.Core.List.{List}
use mathlib.Core.Path.{◌≡◌, ◌∙◌, sym, ap}
use native.Mathlib.Omega.{arith}
use lib.ListN.{length}
use Rattle.ground.proofs.FrontLaws.{copied_fits}
use Rattle.ground.specs.Front.{copied_to}
use Rattle.ground.specs.Refusals as refusals
use Rattle.ground.specs.Refusals.{OrRefused, number_of}
use Rattle.ground.specs.declared.refusal.Refusal.{Refusal}
use Rattle.ground.specs.declared.returned.Returned.{Returned}
use Rattle.link_rules.specs.Rules.{longest, room}
use Rattle.link_telegrams.proofs.TurnLaws.{short_of_room, with_room_lem, short_of_lent, with_lent_lem, Stays, same_stays, writes_stays, room_stays}
use Rattle.link_telegrams.specs.Headers.{reply_header}
use Rattle.link_telegrams.specs.Heard.{request_heard_of}
use Rattle.link_telegrams.specs.Turns.{refusing}
use Rattle.link_telegrams.specs.declared.heard.RequestHeard.{RequestHeard}
use Rattle.responder.specs.Calls.{hear_in, hear_of, answer_in, answer_of, with_row, sends_reply, whole_of, hear_on, answer_on}
use Rattle.responder.specs.declared.head.ResponderHead.{ResponderHead}
use Rattle.responder.specs.declared.state.Responder.{Responder}
use Rattle.responder_row.proofs.RowLaws.{taken_fits}
use Rattle.responder_row.specs.Rows.{WholeTurn, row_hears, row_answers, row_of, shown_answered}
use Rattle.responder_row.specs.declared.head.RowHead.{RowHead}
use Rattle.responder_row.specs.declared.row.Row.{Row}

-- ---- the whole record

module _ (r : Responder) (s buf : List ℕ) where
  pub hear_short : length buf < room → hear_of r s buf ≡ refusing 10 r buf
  unfolding hear_of
  hear_short h = short_of_room r buf (hear_in (row_hears (request_heard_of r.link s) r.row) r buf) h

  -- with room the row goes by what was heard
  pub hear_goes :
      (heard : RequestHeard) (turn : WholeTurn) → room ≤ length buf → heard ≡ request_heard_of r.link s
      → turn ≡ row_hears heard r.row
      → hear_in turn r buf ≡ hear_of r s buf
  unfolding hear_of
  hear_goes heard turn h e f = rw (f, e) (sym (with_room_lem r buf (hear_in (row_hears (request_heard_of r.link s) r.row) r buf) h))

module _ (r : Responder) (p buf : List ℕ) where
  pub answer_short : length buf < room → answer_of r p buf ≡ refusing 10 r buf
  unfolding answer_of
  answer_short h = short_of_room r buf (answer_in (row_answers r.row p) r p buf) h

  -- with room the row takes the answer or refuses it
  pub answer_at : room ≤ length buf → answer_of r p buf ≡ answer_in (row_answers r.row p) r p buf
  unfolding answer_of
  answer_at h = with_room_lem r buf (answer_in (row_answers r.row p) r p buf) h

  -- a refused answer gives back the record
  answer_in_stays : (o : OrRefused Row) → Stays r (answer_in o r p buf)
  answer_in_stays (refusals.gives row) = writes_stays r (with_row r row) (reply_header r.link) p buf
  answer_in_stays (refusals.refused n) = same_stays r _ buf

  pub answer_stays : Stays r (answer_of r p buf)
  unfolding answer_of
  answer_stays = room_stays r buf (answer_in (row_answers r.row p) r p buf) (answer_in_stays (row_answers r.row p))

-- ---- a head and lent bytes

-- what is heard, by what is lent and by the room
module _ (head : ResponderHead) (held s buf : List ℕ) where
  pub hear_not_lent : length held < longest → refusing 10 (whole_of head held) buf ≡ hear_on head held s buf
  hear_not_lent h = sym (short_of_lent held (whole_of head held) buf (hear_of (whole_of head held) s buf) h)

  module _ (lent : longest ≤ length held) where
    same_hear : hear_of (whole_of head held) s buf ≡ hear_on head held s buf
    same_hear = sym (with_lent_lem held (whole_of head held) buf (hear_of (whole_of head held) s buf) lent)

    pub hear_no_room : length buf < room → refusing 10 (whole_of head held) buf ≡ hear_on head held s buf
    hear_no_room h = sym (hear_short (whole_of head held) s buf h) ∙ same_hear

    pub hear_lent :
        (heard : RequestHeard) (turn : WholeTurn) → room ≤ length buf → heard ≡ request_heard_of head.link s
        → turn ≡ row_hears heard (row_of head.row held)
        → hear_in turn (whole_of head held) buf ≡ hear_on head held s buf
    hear_lent heard turn h e f = hear_goes (whole_of head held) s buf heard turn h e f ∙ same_hear

-- what is answered, likewise
module _ (head : ResponderHead) (held p buf : List ℕ) where
  pub answer_not_lent : length held < longest → refusing 10 (whole_of head held) buf ≡ answer_on head held p buf
  answer_not_lent h = sym (short_of_lent held (whole_of head held) buf (answer_of (whole_of head held) p buf) h)

  module _ (lent : longest ≤ length held) where
    same_answer : answer_of (whole_of head held) p buf ≡ answer_on head held p buf
    same_answer = sym (with_lent_lem held (whole_of head held) buf (answer_of (whole_of head held) p buf) lent)

    pub answer_no_room : length buf < room → refusing 10 (whole_of head held) buf ≡ answer_on head held p buf
    answer_no_room h = sym (answer_short (whole_of head held) p buf h) ∙ same_answer

    -- the row took it or refused it
    module _ (enough : room ≤ length buf) (a : Returned (Result Unit Refusal) RowHead) (e : shown_answered a held p ≡ row_answers (row_of head.row held) p) where
      answer_goes : answer_in (shown_answered a held p) (whole_of head held) p buf ≡ answer_on head held p buf
      answer_goes =
          ap (λ (o : OrRefused Row). answer_in o (whole_of head held) p buf) e
          ∙ sym (answer_at (whole_of head held) p buf enough)
          ∙ same_answer

      -- what is taken has at most 246 bytes, so that it fits
      pub answer_taken :
          a.answer ≡ Ok tt
          → sends_reply (whole_of head held) (row_of a.after (copied_to held p)) p buf ≡ answer_on head held p buf
      answer_taken d =
          let fits = taken_fits (row_of head.row held) p _ (rw d at e) in
          rw (copied_fits held p (omega arith)) (rw d at answer_goes)

      pub answer_refused :
          (refusal : Refusal) → a.answer ≡ Err refusal
          → refusing (number_of refusal) (whole_of head held) buf ≡ answer_on head held p buf
      answer_refused refusal d = rw d at answer_goes

-- ---- the whole record through its head and its own array of held bytes

abbrev head_of : Responder → ResponderHead
head_of r = record { link = r.link; row = record { state = r.row.state; len = r.row.len } }

module _ (r : Responder) (head : ResponderHead) (held s buf : List ℕ)
    (e : head ≡ head_of r) (f : held ≡ r.row.held) (all : length held ≡ longest) where
  pub hear_whole : hear_on head held s buf ≡ hear_of r s buf
  hear_whole = sym (same_hear head held s buf (omega arith)) ∙ rw (e, f)

  pub answer_whole : answer_on head held s buf ≡ answer_of r s buf
  answer_whole = sym (same_answer head held s buf (omega arith)) ∙ rw (e, f)
