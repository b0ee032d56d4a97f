-- The hexadecimal digits of some bytes and others: `hex_append`; and the loop that lays them down byte by byte.
use Prim.Native.Nat.{ℕ, ◌+◌, ◌<◌}
use mathlib.Core.List.{List, [], ◌∷◌, ◌++◌}
use mathlib.Core.Path.{◌≡◌, refl, ap}
use native.Mathlib.Numerals.{add-one}
use lib.ListN.{length, get_or, take}
use lib.Seq.{take-suc}
use Rattle.text.specs.Hex.{hex_byte, hex_of}
use Rattle.text.specs.Placed.{Placed}
use Rattle.text.proofs.PlacedLaws.{then}

pub hex_append : (p q : List ℕ) → hex_of (p ++ q) ≡ hex_of p ++ hex_of q
hex_append [] q = refl
hex_append (b ∷ p) q = ap (λ (k : List ℕ). hex_byte b ++ k) (hex_append p q)

-- with the digits of one byte more
pub hex_turn : {before after last : List ℕ} (bytes : List ℕ) {at next end : ℕ} (i : ℕ) → i < length bytes → Placed before at (hex_of (take i bytes)) next after
    → Placed after next (hex_byte (get_or bytes i 0)) end last
    → Placed before at (hex_of (take (i + 1) bytes)) end last
hex_turn bytes i h f g = rw (add-one i, take-suc bytes i 0 h, hex_append (take i bytes) (get_or bytes i 0 ∷ [])) (then f g)
