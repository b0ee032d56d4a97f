-- The numbers of types and errors are those of the byte; and laws for the arms of a `match` that name no single number.
use mathlib.Core.Path.{◌≡◌, refl}
use Prim.Native.Nat.{ℕ, suc, ◌%◌, ◌≤◌, ◌<◌}
use native.Mathlib.Decide.{dec_le, dec_lt}
use native.Mathlib.Omega.{arith}
use borrow.Author.Tests.{eq-eqb, ne_eqb, le-leb, lt-leb}
use Rattle.diagnostics_blocks.specs.Channel.{error_of, named, error_number, reserved, type_of, vendor}

type_invalid_by : (n : ℕ) → Dec (0 < n) → (0 < n → n ≡ 7) → 7 ≡ type_of n
unfolding type_of
type_invalid_by n (yes p) h = rw (ne_eqb n 0 (λ e. omega arith), h p)
type_invalid_by n (no z) h = rw (eq-eqb n 0 (omega arith))

-- what is none of 1 to 6 is Invalid
pub type_invalid_lem : (n : ℕ) → (0 < n → n ≡ 7) → 7 ≡ type_of n
type_invalid_lem n h = type_invalid_by n (dec_lt 0 n) h

-- 16 and above are a vendor's
pub error_vendor : (n : ℕ) → 16 ≤ n → vendor n ≡ error_of n
unfolding error_of
error_vendor n h = rw (le-leb 16 n h)

-- five bits are at most 31
pub five_bits : (b : ℕ) → 31 < b % 32 → ⊥
five_bits b h = omega arith

past : (k : ℕ) {n : ℕ} → k < n → (n ≡ suc k → ⊥) → suc k < n
past k p h = omega arith

-- what is none of 1 to 9 lies above them, or is 0
above_nine : {n : ℕ} → 0 < n → (n ≡ 1 → ⊥) → (n ≡ 2 → ⊥) → (n ≡ 3 → ⊥) → (n ≡ 4 → ⊥) → (n ≡ 5 → ⊥) → (n ≡ 6 → ⊥) → (n ≡ 7 → ⊥)
    → (n ≡ 8 → ⊥) → (n ≡ 9 → ⊥)
    → 9 < n
above_nine p h₁ h₂ h₃ h₄ h₅ h₆ h₇ h₈ h₉ = past 8 (past 7 (past 6 (past 5 (past 4 (past 3 (past 2 (past 1 (past 0 p h₁) h₂) h₃) h₄) h₅) h₆) h₇) h₈) h₉

error_reserved_by : (n : ℕ) → n < 16 → Dec (0 < n) → (0 < n → 9 < n) → reserved n ≡ error_of n
unfolding error_of
error_reserved_by n h (yes p) g = rw (lt-leb 16 n h, ne_eqb n 0 (λ e. omega arith), lt-leb n 9 (g p))
error_reserved_by n h (no z) g = rw (lt-leb 16 n h, eq-eqb n 0 (omega arith))

-- below 16, what is none of 1 to 9 is reserved
pub error_reserved_lem : (n : ℕ) → n < 16 → (n ≡ 1 → ⊥) → (n ≡ 2 → ⊥) → (n ≡ 3 → ⊥) → (n ≡ 4 → ⊥) → (n ≡ 5 → ⊥) → (n ≡ 6 → ⊥) → (n ≡ 7 → ⊥)
    → (n ≡ 8 → ⊥) → (n ≡ 9 → ⊥)
    → reserved n ≡ error_of n
error_reserved_lem n h h₁ h₂ h₃ h₄ h₅ h₆ h₇ h₈ h₉ = error_reserved_by n h (dec_lt 0 n) (λ p. above_nine p h₁ h₂ h₃ h₄ h₅ h₆ h₇ h₈ h₉)

-- a type is its number, but that 0 is 7
pub type_kept : (n : ℕ) → 1 ≤ n → type_of n ≡ n
unfolding type_of
type_kept n h = rw (ne_eqb n 0 (λ e. omega arith))

pub type_zero_lem : type_of 0 ≡ 7
unfolding type_of
type_zero_lem = refl

-- 1 to 9 are named, 0 and 10 to 15 reserved, 16 and above a vendor's
pub data Sort (n : ℕ) : Type 0 where
  is_named : 1 ≤ n → n ≤ 9 → error_of n ≡ named n → Sort n
  is_reserved : n < 16 → (1 ≤ n → 10 ≤ n) → error_of n ≡ reserved n → Sort n
  is_vendor : 16 ≤ n → error_of n ≡ vendor n → Sort n

sort_by : (n : ℕ) → Dec (16 ≤ n) → Dec (1 ≤ n) → Dec (n ≤ 9) → Sort n
unfolding error_of
sort_by n (yes v) p q = is_vendor v (rw (le-leb 16 n v))
sort_by n (no v) (no z) q =
    let zero : n ≡ 0 = omega arith in
    is_reserved (omega arith) (λ p. omega arith) (rw zero)
sort_by n (no v) (yes p) (yes q) = is_named p q (rw (lt-leb 16 n (omega arith), ne_eqb n 0 (λ e. omega arith), le-leb n 9 q))
sort_by n (no v) (yes p) (no q) =
    is_reserved (omega arith) (λ p. omega arith)
    (rw (lt-leb 16 n (omega arith), ne_eqb n 0 (λ e. omega arith), lt-leb n 9 (omega arith)))

pub sort : (n : ℕ) → Sort n
sort n = sort_by n (dec_le _ _) (dec_le _ _) (dec_le _ _)

number_by : {n : ℕ} → Sort n → error_number (error_of n) ≡ n
number_by (is_named _ _ e) = rw e
number_by (is_reserved _ _ e) = rw e
number_by (is_vendor _ e) = rw e

-- an error's number is the byte's, whatever its sort
pub error_number_lem : (n : ℕ) → error_number (error_of n) ≡ n
error_number_lem n = number_by (sort n)
