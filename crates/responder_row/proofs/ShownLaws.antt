-- What is shown of a heard request and of an answer tells their values apart. Read `heard_injective`, `answered_injective`.
use Rattle.std.proofs.Common.{Err, Ok, Result}
use Prim.Native.Nat.{ℕ}
use mathlib.Core.List.{List}
use mathlib.Core.Path.{◌≡◌, refl, ap}
use Rattle.ground.proofs.RefusalLaws.{number_injective}
use Rattle.responder_row.specs.Rows.{shown_in, shown_heard, row_answered, shown_answered}
use Rattle.ground.specs.declared.returned.Returned.{Returned}
use Rattle.responder_row.specs.declared.head.RowHead.{RowHead}
use Rattle.responder_row.specs.declared.row.RowAction.{RowAction}
use Rattle.responder_row.specs.declared.row.Row.{Row}
use Rattle.ground.specs.declared.refusal.Refusal.{Refusal}

-- an answer to a row: the number tells the refusals apart, and no number is one that was done
in_injective : (a b : Result Unit Refusal) (p q : Row) → shown_in a p ≡ shown_in b q → a ≡ b
in_injective (Ok x) (Ok y) p q e = refl
in_injective (Ok x) (Err y) p q e = absurd cc
in_injective (Err x) (Ok y) p q e = absurd cc
in_injective (Err x) (Err y) p q e = ap Err (number_injective x y (cc))

-- the answer and the head behind what is shown of them, for any held bytes and any answer
pub answered_injective :
    (held p : List ℕ) (x y : Returned (Result Unit Refusal) RowHead) → shown_answered x held p ≡ shown_answered y held p
    → row_answered x held p ≡ row_answered y held p
    → x ≡ y
answered_injective held p x y e f i =
    record {
      answer = in_injective x.answer y.answer (row_answered x held p) (row_answered y held p) e i;
      after = record { state = (f i).state; len = (f i).len };
    }

pub heard_injective : (held : List ℕ) (x y : Returned RowAction RowHead) → shown_heard x held ≡ shown_heard y held → x ≡ y
heard_injective held x y e i = record { answer = (e i).action; after = record { state = (e i).row.state; len = (e i).row.len } }
