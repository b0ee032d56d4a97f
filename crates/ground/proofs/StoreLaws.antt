-- Laws of bytes stored one by one from a place on, `sets`: one row behind another, and a row at the front.
use mathlib.Core.Path.{◌≡◌, ap, ◌∙◌}
use mathlib.Core.List.{List, [], ◌∷◌, ◌++◌}
use Prim.Native.Nat.{ℕ, suc, ◌+◌, ◌≤◌}
use native.Mathlib.Nat.{zero-add}
use native.Mathlib.Omega.{arith}
use lib.ListN.{length, drop, set}
use lib.Seq.{sets, sets-eq}

-- One row of bytes, then another behind it: both together.
pub stores_then :
    (buffer : List ℕ) (at : ℕ) (p q : List ℕ)
    → sets (sets buffer at p) (at + length p) q ≡ sets buffer at (p ++ q)
stores_then buffer at [] q = ap (λ (k : ℕ). sets buffer k q) (omega arith)
stores_then buffer at (b ∷ p) q =
    ap (λ (k : ℕ). sets (sets (set buffer at b) (suc at) p) k q) (omega arith) ∙ stores_then (set buffer at b) (suc at) p q

-- At the front of a buffer with room for them: the bytes, then what stood behind them.
pub stores_front : (buffer p : List ℕ) → length p ≤ length buffer → sets buffer 0 p ≡ p ++ drop (length p) buffer
stores_front buffer p h = sets-eq p buffer 0 (omega arith) ∙ ap (λ (k : ℕ). p ++ drop k buffer) (zero-add (length p))
