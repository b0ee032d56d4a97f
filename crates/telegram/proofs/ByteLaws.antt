-- Laws of byte strings: which lists are bytes, and their first bytes.
use Prim.Native.Nat.{ℕ, zero, suc, ◌+◌, ◌<◌, ◌≤◌}
use mathlib.Core.List.{List, [], ◌∷◌, ◌++◌}
use mathlib.Core.Path.{◌≡◌, ◌∙◌, ap}
use native.Mathlib.Numerals.{add-one, add-two}
use native.Mathlib.Omega.{arith}
use lib.Dec.{lit<}
use lib.ListN.{length, drop, replicate}
use lib.Seq.{drop-cons, get_or-drop}
use Rattle.ground.specs.Part.{byte_at}
use Rattle.telegram.specs.Begins.{Bytes}

pub empty_bytes : Bytes []
empty_bytes i = lit< tt

pub one_more_byte : (b : ℕ) (s : List ℕ) → b < 256 → Bytes s → Bytes (b ∷ s)
one_more_byte b s h bytes zero = h
one_more_byte b s h bytes (suc i) = bytes i

pub append_bytes : (s t : List ℕ) → Bytes s → Bytes t → Bytes (s ++ t)
append_bytes [] t b c i = c i
append_bytes (x ∷ s) t b c zero = b zero
append_bytes (x ∷ s) t b c (suc i) = append_bytes s t (λ k. b (suc k)) c i

pub zero_bytes : (n : ℕ) → Bytes (replicate n 0)
zero_bytes zero i = lit< tt
zero_bytes (suc n) zero = lit< tt
zero_bytes (suc n) (suc i) = zero_bytes n i

pub drop_bytes : (n : ℕ) (s : List ℕ) → Bytes s → Bytes (drop n s)
drop_bytes n s byte i = rw (get_or-drop n s i 0) (byte (n + i))

-- A byte, two and three of them, and what stands behind.
pub one_byte : (s : List ℕ) (b : ℕ) → 1 ≤ length s → byte_at s 0 ≡ b → s ≡ b ∷ drop 1 s
one_byte s b h e = rw e at (drop-cons s 0 0 h)

pub two_more : (s : List ℕ) (i : ℕ) → i + 2 ≤ length s → drop i s ≡ byte_at s i ∷ byte_at s (i + 1) ∷ drop (i + 2) s
two_more s i h = rw (add-one, add-two) (drop-cons s i 0 (omega arith) ∙ ap (λ q. byte_at s i ∷ q) (drop-cons s (suc i) 0 (omega arith)))

pub three_bytes : (s : List ℕ) (b : ℕ) → 3 ≤ length s → byte_at s 0 ≡ b → s ≡ b ∷ byte_at s 1 ∷ byte_at s 2 ∷ drop 3 s
three_bytes s b h e = one_byte s b (omega arith) e ∙ ap (λ q. b ∷ q) (two_more s 1 h)
