-- Rows of numbers that are bytes, by computing: `bytes`.
use Prim.Native.Nat.{ℕ}
use mathlib.Core.Bool.{Bool, true, false}
use mathlib.Core.List.{List, [], ◌∷◌}
use mathlib.Core.Path.{◌≡◌, refl}
use borrow.Author.Tests.{ltb-true}
use lib.Dec.{ltb}
use Rattle.ground.proofs.Injective.{zero_one}
use Rattle.ground.specs.Pick.{if}
use Rattle.telegram.proofs.ByteLaws.{empty_bytes, one_more_byte}
use Rattle.telegram.specs.Begins.{Bytes}

-- a row of numbers is one of bytes where each is below 256
abbrev pub small : List ℕ → Bool
small [] = true
small (b ∷ s) = if (ltb b 256) (small s) false

one_more : (b : ℕ) (s : List ℕ) (t : Bool) → ltb b 256 ≡ t → if t (small s) false ≡ true → (small s ≡ true → Bytes s) → Bytes (b ∷ s)
one_more b s true f g rest = one_more_byte b s (ltb-true b 256 f) (rest g)
one_more b s false f g rest = absurd (zero_one (cc))

-- So a row of numbers is seen to be bytes by computing: `bytes s refl`.
pub bytes : (s : List ℕ) → small s ≡ true → Bytes s
bytes [] e = empty_bytes
bytes (b ∷ s) e = one_more b s (ltb b 256) refl e (bytes s)
