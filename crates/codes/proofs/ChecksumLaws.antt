-- Laws of the checksum: of a list joined from two, and of a loop that adds byte by byte.
use Rattle.std.proofs.Common.{◌≡◌, ℕ, ◌+◌, ◌%◌, ◌<◌, ◌≤◌, List, [], ◌∷◌, ◌++◌, length, get_or, drop, sym, refl, ◌∙◌, add-zero, add_assoc, mod-lt, mod-eq_of_lt, zero-add, add-one, lit<, drop_of_length-le, drop-cons}
use native.Mathlib.Nat.{add-mod, mod-add-mod}
use Rattle.codes.specs.Checksums.{sum_of, checksum_of}

pub sum_append : (s t : List ℕ) → sum_of (s ++ t) ≡ sum_of s + sum_of t
unfolding sum_of
sum_append [] t = sym (zero-add (sum_of t))
sum_append (x ∷ s) t = rw (sum_append s t) (sym (add_assoc x (sum_of s) (sum_of t)))

pub checksum_append : (s t : List ℕ) → checksum_of (s ++ t) ≡ (checksum_of s + checksum_of t) % 256
unfolding checksum_of
checksum_append s t = rw (sum_append s t) (add-mod (sum_of s) (sum_of t) 256)

pub checksum_byte : (s : List ℕ) → checksum_of s < 256
unfolding checksum_of
checksum_byte s = mod-lt (sum_of s) (lit< tt)

-- A sum that was begun at 0 is the checksum.
pub summed_from_0 : (s : List ℕ) → (0 + sum_of s) % 256 ≡ checksum_of s
unfolding checksum_of
summed_from_0 s = rw zero-add

-- The sum so far and the bytes that are left add up to what it was begun at and the whole: at the start, with one byte
-- more passed, and at the end.
pub Summed : List ℕ → ℕ → ℕ → ℕ → Type 0
Summed s begun i sum = (sum + sum_of (drop i s)) % 256 ≡ (begun + sum_of s) % 256

pub sum_starts : (s : List ℕ) (begun : ℕ) → Summed s begun 0 begun
unfolding Summed
sum_starts s begun = refl

pub sum_goes_on : (s : List ℕ) (begun i sum : ℕ) → i < length s → Summed s begun i sum → Summed s begun (i + 1) ((sum + get_or s i 0) % 256)
unfolding Summed sum_of
sum_goes_on s begun i sum h e = rw (mod-add-mod, add-one, add_assoc) (rw (drop-cons s i 0 h) at e)

pub sum_ends : (s : List ℕ) (begun i sum : ℕ) → length s ≤ i → sum < 256 → Summed s begun i sum → sum ≡ (begun + sum_of s) % 256
unfolding Summed sum_of
sum_ends s begun i sum l h e = sym (mod-eq_of_lt h) ∙ rw (drop_of_length-le s {i = i} l, add-zero) at e

-- A sum that was begun at 0 ends as the checksum.
pub checksum_ends : (s : List ℕ) (i sum : ℕ) → length s ≤ i → sum < 256 → Summed s 0 i sum → sum ≡ checksum_of s
checksum_ends s i sum l h e = sum_ends s 0 i sum l h e ∙ summed_from_0 s
