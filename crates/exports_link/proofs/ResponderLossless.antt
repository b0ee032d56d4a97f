-- A responder's record packed into bytes and unpacked is the same record. Its array has 246 bytes and its reply at most as many, which
-- every call keeps. Read `responder_again`, and the laws `-kept` at the end.
use Rattle.std.proofs.Common.{None, Option, Some}
use Prim.Native.Nat.{ℕ, ◌≤◌}
use mathlib.Core.Bool.{Bool, true, false}
use mathlib.Core.List.{List, []}
use mathlib.Core.Path.{◌≡◌, refl, sym}
use native.Mathlib.Omega.{arith}
use lib.Dec.{ltb, lit≤}
use lib.ListN.{length, length-append, length-drop, length-replicate}
use borrow.Author.Tests.{ltb-false}
use Rattle.ground.specs.Pick.{if}
use Rattle.ground.specs.Refusals as refusals
use Rattle.ground.specs.Refusals.{OrRefused}
use Rattle.ground.specs.declared.part.Part.{Part}
use Rattle.link_telegrams.specs.Headers.{ok_header, reply_header}
use Rattle.link_telegrams.specs.Heard.{request_heard_of}
use Rattle.link_telegrams.specs.declared.headers.Bit.{Bit}
use Rattle.link_telegrams.specs.declared.headers.Bit.TheVariants.{Low, High}
use Rattle.link_telegrams.specs.declared.heard.RequestHeard.{RequestHeard}
use Rattle.link_telegrams.specs.declared.heard.RequestHeard.TheVariants as heard
use Rattle.responder_row.proofs.RowLaws.{held_within}
use Rattle.responder.specs.Calls.{with_row, sends_reply, acts_of, hear_in, answer_in, hear_of, answer_of}
use Rattle.link_rules.specs.Rules.{longest, wrong_length}
use Rattle.link_telegrams.proofs.TurnLaws.{Keeps, kept, writes_keeps, room_keeps}
use Rattle.link_telegrams.specs.Turns.{Turn}
use Rattle.responder_row.specs.Rows.{WholeTurn, held_of, blank_row, stored_bit, same_bit, dropping, ignoring, again_on, other_on, order_on, row_hears, answers_in, row_answers, holding, row_after}
use Rattle.responder_row.specs.declared.row.Row.{Row}
use Rattle.responder_row.specs.declared.row.RowAction.{RowAction}
use Rattle.responder_row.specs.declared.row.RowAction.TheVariants as action
use Rattle.responder_row.specs.declared.row.RowState.{RowState}
use Rattle.responder_row.specs.declared.row.RowState.TheVariants.{Blank, Opened, Owes, Holds}
use Rattle.responder.specs.declared.state.Responder.{Responder}
use Rattle.exports_link.proofs.ByteLaws.{length_again}
use Rattle.exports_link.specs.Bytes.{length_byte}
use Rattle.exports_link.specs.ResponderBytes.{responder_of, responder_bytes}
use Rattle.link_numbers.specs.Numbers.{state_number, state_of}

-- the array has 246 bytes, and the reply at most as many
pub record Sized (row : Row) : Type 0 where
  pub array : length row.held ≡ longest
  pub reply : row.len ≤ longest

state_again : (s : RowState) → state_of (state_number s) ≡ s
unfolding state_of
state_again Blank = refl
state_again Opened = refl
state_again (Owes Low) = refl
state_again (Owes High) = refl
state_again (Holds Low) = refl
state_again (Holds High) = refl

reply_length_again : (row : Row) → Sized row → length_byte (length (held_of row)) ≡ row.len
reply_length_again row z =
    let e : length (held_of row) ≡ row.len = sym (held_within row (rw z.array z.reply)) in
    rw e (length_again row.len z.reply)

again_of_lem : (r : Responder) (s : RowState) (n : ℕ) → s ≡ r.row.state → n ≡ r.row.len → record { link = r.link; row = record { state = s; held = r.row.held; len = n } } ≡ r
again_of_lem r s n e f = rw (e, f)

-- Nothing of the record is lost.
pub responder_again : (r : Responder) → Sized r.row → responder_of (responder_bytes r) ≡ r
responder_again r z = again_of_lem r _ _ (state_again r.row.state) (reply_length_again r.row z)

pub blank_sized : Sized blank_row
blank_sized = record { array = length-replicate {A = ℕ} longest 0; reply = lit≤ tt }

module _ (row : Row) (z : Sized row) where
  dropped : (s : RowState) → Sized (record { state = s; held = row.held; len = 0 })
  dropped s = record { array = z.array; reply = lit≤ tt }

  again_sized : (s : RowState) → Sized (again_on s row).row
  again_sized Blank = z
  again_sized Opened = z
  again_sized (Owes b) = z
  again_sized (Holds b) = z

  picked : (t : Bool) (x y : WholeTurn) → Sized x.row → Sized y.row → Sized (if t x y).row
  picked true x y p q = p
  picked false x y p q = q

  order_sized : (s : Option Bit) (b : Bit) (q : Part) → Sized (order_on s b q row).row
  order_sized None b q = z
  order_sized (Some c) b q =
      picked (same_bit c b) (again_on row.state row) (other_on b q row) (again_sized row.state)
      (picked (wrong_length q.len) (ignoring row) (record { action = action.HandUp q; row = dropping row (Owes b) }) z (dropped (Owes b)))

  pub hears_sized : (r : RequestHeard) → Sized (row_hears r row).row
  unfolding row_hears
  hears_sized heard.Opening = dropped Opened
  hears_sized (heard.Order b q) = order_sized (stored_bit row.state) b q
  hears_sized heard.Nothing = z

  holding_sized : (b : Bit) (p : List ℕ) → length p ≤ longest → Sized (holding b p row)
  holding_sized b p h =
      record { array = rw (length-append, length-drop, z.array) (omega arith); reply = h }

  held_if : (b : Bit) (p : List ℕ) (t : Bool) → ltb longest (length p) ≡ t → Sized (row_after (if t (refusals.refused 9) (refusals.gives (holding b p row))) row)
  held_if b p true e = z
  held_if b p false e = holding_sized b p (ltb-false longest (length p) e)

  answers_in_lem : (s : RowState) (p : List ℕ) → Sized (row_after (answers_in s row p) row)
  answers_in_lem Blank p = z
  answers_in_lem Opened p = z
  answers_in_lem (Owes b) p = held_if b p (ltb longest (length p)) refl
  answers_in_lem (Holds b) p = z

  pub answers_sized : (p : List ℕ) → Sized (row_after (row_answers row p) row)
  unfolding row_answers
  answers_sized p = answers_in_lem row.state p

-- A call leaves a row of that size.
abbrev pub SizedRow : Responder → Type 0
SizedRow r = Sized r.row

abbrev pub Kept : Turn Responder Part → Type 0
Kept t = Keeps SizedRow t

as_kept : (t : Turn Responder Part) → Sized t.end.row → Kept t
as_kept t z = kept SizedRow t z

module _ (r : Responder) (z : Sized r.row) where
  reply_kept : (row : Row) (p b : List ℕ) → Sized row → Kept (sends_reply r row p b)
  reply_kept row p b g = writes_keeps SizedRow r z (with_row r row) (reply_header r.link) p b g

  acts_kept : (a : RowAction) (row : Row) (b : List ℕ) → Sized row → Kept (acts_of a r row b)
  acts_kept action.WriteOk row b g = writes_keeps SizedRow r z (with_row r row) (ok_header r.link) [] b g
  acts_kept action.WriteHeld row b g = reply_kept row (held_of row) b g
  acts_kept (action.HandUp q) row b g = as_kept _ g
  acts_kept action.Nothing row b g = as_kept _ g

  answer_in_lem : (o : OrRefused Row) (p b : List ℕ) → Sized (row_after o r.row) → Kept (answer_in o r p b)
  answer_in_lem (refusals.gives row) p b g = reply_kept row p b g
  answer_in_lem (refusals.refused n) p b g = as_kept _ z

  -- Every call keeps it.
  pub hear_kept : (s b : List ℕ) → Kept (hear_of r s b)
  unfolding hear_of
  hear_kept s b =
      let turn = row_hears (request_heard_of r.link s) r.row in
      room_keeps SizedRow r z b (hear_in turn r b)
      (acts_kept turn.action turn.row b (hears_sized r.row z (request_heard_of r.link s)))

  pub answer_kept : (p b : List ℕ) → Kept (answer_of r p b)
  unfolding answer_of
  answer_kept p b =
      room_keeps SizedRow r z b (answer_in (row_answers r.row p) r p b) (answer_in_lem (row_answers r.row p) p b (answers_sized r.row z p))
