-- Laws of a row and of the reply that it holds.
use Rattle.std.proofs.Common.{min, Err, Ok, Result}
use Rattle.std.proofs.lemmas.List.{length-take}
use Prim.Native.Nat.{ℕ, zero, suc, ◌<◌, ◌≤◌}
use mathlib.Core.Bool.{Bool, true, false}
use mathlib.Core.Path.{◌≡◌, refl, ◌∙◌, sym, ap}
use mathlib.Core.List.{List, [], ◌∷◌}
use native.Mathlib.Omega.{arith}
use lib.Dec.{ltb}
use lib.ListN.{length, take}
use lib.Seq.{length-take-le, take_all, take-append_seam}
use borrow.Author.Tests.{ltb-false, lt-ltb, le-ltb}
use Rattle.ground.specs.Pick.{if}
use Rattle.ground.specs.Refusals.{gives, refused, number_of}
use Rattle.ground.specs.declared.part.Part.{Part}
use Rattle.ground.specs.declared.refusal.Refusal.{Refusal}
use Rattle.ground.specs.declared.returned.Returned.{Returned}
use Rattle.link_rules.specs.Rules.{longest, wrong_length}
use Rattle.link_telegrams.specs.declared.headers.Bit.{Bit}
use Rattle.responder_row.specs.Rows.{WholeTurn, held_of, dropping, holding, ignoring, again_on, other_on, answers_in, row_answers, row_after, row_of, row_answered, shown_answered}
use Rattle.responder_row.specs.declared.head.RowHead.{RowHead}
use Rattle.responder_row.specs.declared.row.Row.{Row}
use Rattle.responder_row.specs.declared.row.RowAction.TheVariants as action
use Rattle.responder_row.specs.declared.row.RowState.{RowState}
use Rattle.responder_row.specs.declared.row.RowState.TheVariants.{Blank, Opened, Owes, Holds}

-- an order under the other bit: ignored by its length, or handed up
module _ (b : Bit) (q : Part) (row : Row) where
  pub other_ignored : wrong_length q.len ≡ true → other_on b q row ≡ ignoring row
  other_ignored e = rw e

  pub other_handed_up : wrong_length q.len ≡ false → other_on b q row ≡ record { action = action.HandUp q; row = dropping row (Owes b) }
  other_handed_up e = rw e

-- A turn that is right for the state that the head is in.
pub again_as :
    (head : RowHead) (held : List ℕ) (state : RowState) (turn : WholeTurn) → head.state ≡ state
    → turn ≡ again_on state (row_of head held)
    → turn ≡ again_on head.state (row_of head held)
again_as head held state turn e h = h ∙ sym (ap (λ (s : RowState). again_on s (row_of head held)) e)

-- What an answer to a head promises, of the held bytes and the answer's.
abbrev pub Answered : RowHead → List ℕ → List ℕ → Returned (Result Unit Refusal) RowHead → Type 0
Answered head held p a =
    (shown_answered a held p ≡ row_answers (row_of head held) p)
    × (row_answered a held p ≡ row_after (row_answers (row_of head held) p) (row_of head held))

-- An answer that is right for the state that the head is in.
module _ (head : RowHead) (state : RowState) (held p : List ℕ) (e : head.state ≡ state) where
  same : answers_in state (row_of head held) p ≡ row_answers (row_of head held) p
  unfolding row_answers
  same = sym (ap (λ (s : RowState). answers_in s (row_of head held) p) e)

  pub answer_refused :
      (a : Returned (Result Unit Refusal) RowHead) (refusal : Refusal) → a ≡ record { answer = Err refusal; after = head }
      → answers_in state (row_of head held) p ≡ refused (number_of refusal)
      → Answered head held p a
  answer_refused a refusal h k = rw (h, ← same, k) (refl, refl)

  pub answer_accepted :
      (b : Bit) (len : ℕ) → length p ≡ len → answers_in state (row_of head held) p ≡ gives (holding b p (row_of head held))
      → Answered head held p (record { answer = Ok tt; after = record { state = Holds b; len = len } })
  answer_accepted b len l k = rw (← l, ← same, k) (refl, refl)

-- The answer to an order, by its length.
module _ (b : Bit) (row : Row) (p : List ℕ) where
  pub answer_long : longest < length p → answers_in (Owes b) row p ≡ refused 9
  answer_long h = rw (lt-ltb _ _ h)

  pub answer_fits : length p ≤ longest → answers_in (Owes b) row p ≡ gives (holding b p row)
  answer_fits h = rw (le-ltb _ _ h)

-- An answer that is taken has at most 246 bytes.
module _ (row : Row) (p : List ℕ) (next : Row) where
  taken_if : (long : Bool) (x : Row) → ltb longest (length p) ≡ long → gives next ≡ if long (refused 9) (gives x) → length p ≤ longest
  taken_if true x t e = absurd cc
  taken_if false x t e = ltb-false _ _ t

  taken_in : (state : RowState) → gives next ≡ answers_in state row p → length p ≤ longest
  taken_in Blank e = absurd cc
  taken_in Opened e = absurd cc
  taken_in (Owes b) e = taken_if (ltb longest (length p)) (holding b p row) refl e
  taken_in (Holds b) e = absurd cc

  pub taken_fits : gives next ≡ row_answers row p → length p ≤ longest
  unfolding row_answers
  taken_fits e = taken_in row.state e

-- The first n bytes, counted and taken again.
taken_again : (n : ℕ) (l : List ℕ) → take (length (take n l)) l ≡ take n l
taken_again zero l = refl
taken_again (suc n) [] = refl
taken_again (suc n) (x ∷ l) = ap (λ (k : List ℕ). x ∷ k) (taken_again n l)

-- The held reply lies at the front of the held bytes.
module _ (row : Row) where
  held_shown : take (length (held_of row)) row.held ≡ held_of row
  held_shown = taken_again row.len row.held

  pub held_within : row.len ≤ length row.held → row.len ≡ length (held_of row)
  held_within h = sym (length-take-le row.len row.held h)

  pub held_whole : (n : ℕ) → length row.held ≡ n → n < row.len → n ≡ length (held_of row)
  held_whole n e h = rw (take_all row.len row.held (omega arith)) (sym e)

-- The part of the lent bytes that has as many as were asked for is the held reply.
module _ (head : RowHead) (held : List ℕ) (n : ℕ) (k : n ≡ length (held_of (row_of head held))) where
  pub held_part : take n held ≡ held_of (row_of head held)
  held_part = rw k (held_shown (row_of head held))

  pub part_counted : n ≡ length (take n held)
  part_counted = k ∙ sym (ap length held_part)

-- Of the lent bytes it has as many as its length says, or all of them.
pub held_counted : (head : RowHead) (held : List ℕ) (lent : ℕ) → length held ≡ lent → min head.len lent ≡ length (held_of (row_of head held))
held_counted head held lent e = rw (← e) (sym (length-take head.len held))

-- The answer that was accepted is the reply that is held.
pub held_answer : (b : Bit) (p : List ℕ) (row : Row) → held_of (holding b p row) ≡ p
held_answer b p row = take-append_seam p _
