-- Whether a text begins with given bytes.
use Rattle.std.specs.Prelude.{Bool, true, false, List, [], ◌∷◌, ℕ, eqb}
use Rattle.ground.specs.Pick.{if}

-- whether the text begins with these bytes
unfoldable pub begins : List ℕ → List ℕ → Bool
begins [] text = true
begins (b ∷ bytes) [] = false
begins (b ∷ bytes) (x ∷ text) = if (eqb x b) (begins bytes text) false
