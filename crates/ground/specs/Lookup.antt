-- The one of a row that has a given number.
use Rattle.std.specs.Prelude.{ℕ, List, [], ◌∷◌, eqb}
use Rattle.ground.specs.Pick.{if}

-- `is x` for the first x of the row whose number is n, and `nothing` where none has it
abbrev pub lookup : {A B : Type 0} → (A → ℕ) → (A → B) → B → List A → ℕ → B
lookup number is nothing [] n = nothing
lookup number is nothing (x ∷ xs) n = if (eqb n (number x)) (is x) (lookup number is nothing xs n)
