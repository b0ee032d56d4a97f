-- Demand 2 of any walk over a diagnostics buffer: held against the rows of blocks, as the standard has them and document 01 wider, and against
-- document 01's faults, for every byte string.
use Rattle.std.specs.Prelude.{ℕ, List, ◌≡◌}
use Rattle.diagnostics.specs.Blocks.{Block, RowSays, document01}
use Rattle.diagnostics.specs.Faults.{Broken}
use Rattle.diagnostics.specs.Walk.{Walk, broken, whole as walkedWhole}
use Rattle.telegram.specs.Begins.{Bytes}

pub record IsWalk (walk : List ℕ → Walk) : Type 0 where
  -- Bytes are walked to a row of blocks and then the end exactly where they are that row.
  pub said : (s : List ℕ) (bs : List Block) → Bytes s → walk s ≡ record { blocks = bs; ending = walkedWhole } → RowSays document01 s bs
  pub walked : (s : List ℕ) (bs : List Block) → Bytes s → RowSays document01 s bs → walk s ≡ record { blocks = bs; ending = walkedWhole }
  -- Bytes are walked to a row of blocks and then refused with a number exactly where they are that row and then begin with that fault.
  pub faulted : (s : List ℕ) (bs : List Block) (n : ℕ) → Bytes s → walk s ≡ record { blocks = bs; ending = broken n } → Broken s bs n
  pub refused : (s : List ℕ) (bs : List Block) (n : ℕ) → Bytes s → Broken s bs n → walk s ≡ record { blocks = bs; ending = broken n }
