-- Our walk is one (`our_walk`), and there is no other: whatever keeps the demand gives for every byte string what ours gives (`one_walk`).
use Prim.Native.Nat.{ℕ}
use mathlib.Core.List.{List}
use mathlib.Core.Logic.{⊎_elim}
use mathlib.Core.Path.{◌≡◌, sym, ◌∙◌}
use Rattle.diagnostics.proofs.Theorems.{fault_exactly, row_or_fault, walk_exactly}
use Rattle.diagnostics.specs.Walk.{Walk, walk_of}
use Rattle.telegram.specs.Begins.{Bytes}
use Rattle.demand_2.specs.Walks.{IsWalk}

pub our_walk : IsWalk walk_of
our_walk =
    record {
      said = λ s bs byte. (walk_exactly s bs byte).0;
      walked = λ s bs byte. (walk_exactly s bs byte).1;
      faulted = λ s bs n byte. (fault_exactly s bs n byte).0;
      refused = λ s bs n byte. (fault_exactly s bs n byte).1;
    }

pub one_walk : {walk : List ℕ → Walk} → IsWalk walk → (s : List ℕ) → Bytes s → walk s ≡ walk_of s
one_walk is s byte =
    ⊎_elim
    (λ row. is.walked s _ byte row.1 ∙ sym (our_walk.walked s _ byte row.1))
    (λ fault. is.refused s _ _ byte fault.2 ∙ sym (our_walk.refused s _ _ byte fault.2))
    (row_or_fault s byte)
