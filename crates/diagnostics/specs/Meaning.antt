-- What the rules of the walk mean for whoever walks, and for a body's modules. The theorems that tie the two are in proofs/Steps.antt,
-- Bodies.antt and Searches.antt.
use Rattle.std.specs.Prelude.{ℕ, zero, suc, ◌+◌, ◌-◌, ◌≤◌, ◌<◌, true, false, List, [], ◌∷◌, ◌≡◌, length, Option, Some, None}
use Rattle.ground.specs.Pick.{if}
use Rattle.diagnostics_blocks.specs.Modules.{bit_of, modules_of}
use Rattle.diagnostics.specs.Walk.{PlacedBlock, device_at, identifier_at, step_of}

-- a step moves on by at least one byte, and not past the end of what is walked
pub record Onward (s : List ℕ) (at : ℕ) : Type 0 where
  pub moves : at < (step_of s at).cursor
  pub within : (step_of s at).cursor ≤ length s

-- a step that is refused with a number: the number is 12, 13 or 14, and the cursor moves to the end
pub record ToTheEnd (s : List ℕ) (at n : ℕ) : Type 0 where
  pub inside : at < length s
  pub cursor_at : (step_of s at).cursor ≡ length s
  pub least : 12 ≤ n
  pub most : n ≤ 14

-- where a block has its body
pub data BodyOf : PlacedBlock → ℕ → ℕ → Type 0 where
  of_identifier : {start size : ℕ} → BodyOf (identifier_at start size) start size
  of_device : {start size : ℕ} → BodyOf (device_at start size) start size

-- a body begins behind the header, ends where the walk goes on, and lies within what is walked
pub record BodyWithin (s : List ℕ) (at start size : ℕ) : Type 0 where
  pub behind : start ≡ at + 1
  pub up_to : start + size ≡ (step_of s at).cursor
  pub within : start + size ≤ length s
  pub short : size ≤ 62

-- a module is the first set at or above a number
pub record FirstSet (body : List ℕ) (from m : ℕ) : Type 0 where
  pub above : from ≤ m
  pub is_set : bit_of body m ≡ true
  pub clear_before : (j : ℕ) → from ≤ j → j < m → bit_of body j ≡ false

-- those of k modules from a number that are set, rising
abbrev pub set_of_next : List ℕ → ℕ → ℕ → List ℕ
set_of_next body zero from = []
set_of_next body (suc k) from = if (bit_of body from) (from ∷ set_of_next body k (suc from)) (set_of_next body k (suc from))

-- the modules set at or above a number, rising
unfoldable pub set_from : List ℕ → ℕ → List ℕ
set_from body from = set_of_next body (modules_of body - from) from

-- what asking once gives: the first module set, and then those set above it
abbrev pub asked : List ℕ → Option ℕ → List ℕ
asked body None = []
asked body (Some m) = m ∷ set_from body (m + 1)
