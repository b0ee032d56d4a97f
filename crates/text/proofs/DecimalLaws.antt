-- Laws of decimal numbers: the rule by which the digits are found, how many there are, and that reading undoes writing.
use mathlib.Core.Path.{◌≡◌, refl, sym, ap, ap₂, ◌∙◌}
use mathlib.Core.Bool.{Bool, true, false}
use mathlib.Core.List.{List, [], ◌∷◌, ◌++◌, append_assoc, append-nil}
use Prim.Native.Nat.{ℕ, zero, suc, ◌+◌, ◌-◌, ◌*◌, ◌/◌, ◌%◌, ◌^◌, ◌≤◌, ◌<◌}
use native.Mathlib.Nat.{pow-suc}
use native.Mathlib.Decide.{dec_lt}
use native.Mathlib.Omega.{arith}
use borrow.Author.Tests.{lt-ltb, le-ltb, le-leb, leb-true}
use lib.Dec.{leb}
use lib.ListN.{length, get_or, length-append, get_or-append}
use Rattle.ground.proofs.PickLaws.{both_first, both_second}
use Rattle.ground.specs.Pick.{if}
use Rattle.text.specs.Decimal.{digit_of, digits, decimal_of, value_from, value_of, is_digit, digits_in}

-- ---- the rule

digits_small : (steps n : ℕ) → n < 10 → digits steps n ≡ digit_of n ∷ []
unfolding digits
digits_small zero n h = refl
digits_small (suc steps) n h = rw (lt-ltb n 10 h)

digits_large : (steps n : ℕ) → 10 ≤ n → digits (suc steps) n ≡ digits steps (n / 10) ++ digit_of (n % 10) ∷ []
unfolding digits
digits_large steps n h = rw (le-ltb n 10 h)

-- more steps than needed change nothing
digits_enough : (steps more n : ℕ) → n ≤ steps → n ≤ more → digits steps n ≡ digits more n
digits_enough zero more n h k = digits_small zero n (omega arith) ∙ sym (digits_small more n (omega arith))
digits_enough (suc steps) zero n h k = digits_small (suc steps) n (omega arith) ∙ sym (digits_small zero n (omega arith))
digits_enough (suc steps) (suc more) n h k = go (dec_lt n 10) (λ l. digits_enough steps more (n / 10) (omega arith) (omega arith))
  where
    go : Dec (n < 10) → (10 ≤ n → digits steps (n / 10) ≡ digits more (n / 10)) → digits (suc steps) n ≡ digits (suc more) n
    go (yes s) rest = digits_small (suc steps) n s ∙ sym (digits_small (suc more) n s)
    go (no l) rest =
        let h : 10 ≤ n = omega arith in
        digits_large steps n h ∙ ap (λ (ds : List ℕ). ds ++ digit_of (n % 10) ∷ []) (rest h) ∙ sym (digits_large more n h)

-- below ten: the one digit
pub decimal_small : (n : ℕ) → n < 10 → decimal_of n ≡ digit_of n ∷ []
unfolding decimal_of
decimal_small n h = digits_small n n h

-- from ten on: the digits of n / 10, then the last one
pub decimal_large : (n : ℕ) → 10 ≤ n → decimal_of n ≡ decimal_of (n / 10) ++ digit_of (n % 10) ∷ []
unfolding decimal_of
decimal_large zero h = let z : ⊥ = omega arith in absurd z
decimal_large (suc k) h =
    let n = suc k in
    digits_large k n h ∙ ap (λ (ds : List ℕ). ds ++ digit_of (n % 10) ∷ []) (digits_enough k (n / 10) (n / 10) (omega arith) (omega arith))

-- what holds of the numbers below ten, and of n where it holds of n / 10, holds of every number
pub by_digits : (P : ℕ → Type 0) → ((n : ℕ) → n < 10 → P n) → ((n : ℕ) → 10 ≤ n → P (n / 10) → P n) → (n : ℕ) → P n
by_digits P small large n = up_to n n (omega arith)
  where
    up_to : (bound n : ℕ) → n ≤ bound → P n
    up_to zero n h = small n (omega arith)
    up_to (suc bound) n h = go (dec_lt n 10) (λ l. up_to bound (n / 10) (omega arith))
      where
        go : Dec (n < 10) → (10 ≤ n → P (n / 10)) → P n
        go (yes s) rest = small n s
        go (no l) rest = large n (omega arith) (rest (omega arith))

-- ---- how many digits

-- below ten one, from ten on one more than n / 10 has
pub small_length : (n : ℕ) → n < 10 → length (decimal_of n) ≡ 1
small_length n h = rw (decimal_small n h)

pub large_length : (n : ℕ) → 10 ≤ n → length (decimal_of n) ≡ length (decimal_of (n / 10)) + 1
large_length n h = rw (decimal_large n h, length-append)

-- below 10 ^ (k + 1) there are at most k + 1
pub decimal_length : (k n : ℕ) → n < 10 ^ suc k → length (decimal_of n) ≤ suc k
decimal_length zero n h = omega (arith, small_length n h)
decimal_length (suc k) n h = go (dec_lt n 10) (decimal_length k (n / 10) (omega (arith, rw (pow-suc 10 (suc k)) at h)))
  where
    go : Dec (n < 10) → length (decimal_of (n / 10)) ≤ suc k → length (decimal_of n) ≤ suc (suc k)
    go (yes s) rest = omega (arith, small_length n s)
    go (no l) rest = omega (arith, large_length n (omega arith))

-- there is always one
pub decimal_some : (n : ℕ) → 0 < length (decimal_of n)
decimal_some = by_digits (λ n. 0 < length (decimal_of n))
    (λ n s. omega (arith, small_length n s))
    (λ n l p. omega (arith, large_length n l))

-- a number that fits 64 bits has at most 20
pub decimal_length_word : (n : ℕ) → n < 2 ^ 64 → length (decimal_of n) ≤ 20
decimal_length_word n h = decimal_length 19 n (omega arith)

-- ---- reading undoes writing

value_snoc : (v : ℕ) (ds : List ℕ) (d : ℕ) → value_from v (ds ++ d ∷ []) ≡ value_from v ds * 10 + (d - 48)
unfolding value_from
value_snoc v [] d = refl
value_snoc v (b ∷ ds) d = value_snoc (v * 10 + (b - 48)) ds d

-- the digits of n say n
pub decimal_value : (n : ℕ) → value_of (decimal_of n) ≡ n
unfolding value_from
decimal_value = by_digits (λ n. value_of (decimal_of n) ≡ n)
    (λ n s. rw (decimal_small n s) (omega arith))
    (λ n l e. rw (decimal_large n l, value_snoc, e) (omega arith))

-- ---- the digits that a text begins with

pub digit_is : (d : ℕ) → d < 10 → is_digit (digit_of d) ≡ true
unfolding is_digit
digit_is d h = rw (le-leb 48 (48 + d) (omega arith), le-leb (48 + d) 57 (omega arith))

pub digit_range : (b : ℕ) → is_digit b ≡ true → (48 ≤ b) × (b ≤ 57)
unfolding is_digit
digit_range b e = (leb-true 48 b (both_first (leb 48 b) (leb b 57) e), leb-true b 57 (both_second (leb 48 b) (leb b 57) e))

-- digits in front of a text are digits that it begins with
pub digits_in_front : (n : ℕ) (rest : List ℕ) → digits_in (decimal_of n ++ rest) ≡ decimal_of n ++ digits_in rest
unfolding digits_in
digits_in_front = by_digits (λ n. (rest : List ℕ) → digits_in (decimal_of n ++ rest) ≡ decimal_of n ++ digits_in rest)
    (λ n s rest. rw (decimal_small n s, digit_is n s))
    (λ n l p rest. simp (decimal_large n l, append_assoc) (rw (p (digit_of (n % 10) ∷ rest), digit_is (n % 10) (omega arith))))

-- the digits that a text begins with are digits throughout
pub digits_in_digits : (text : List ℕ) → digits_in (digits_in text) ≡ digits_in text
unfolding digits_in
digits_in_digits [] = refl
digits_in_digits (b ∷ text) = go (is_digit b) refl (digits_in_digits text)
  where
    go : (t : Bool) → is_digit b ≡ t → digits_in (digits_in text) ≡ digits_in text → digits_in (if t (b ∷ digits_in text) []) ≡ if t (b ∷ digits_in text) []
    go true e p = rw (e, p)
    go false e p = refl

-- of digits throughout, the first is one and the rest are too
pub digits_first : (b : ℕ) (bytes : List ℕ) → digits_in (b ∷ bytes) ≡ b ∷ bytes → (48 ≤ b) × (b ≤ 57)
unfolding digits_in
digits_first b bytes e = go (is_digit b) refl e
  where
    go : (t : Bool) → is_digit b ≡ t → if t (b ∷ digits_in bytes) [] ≡ b ∷ bytes → (48 ≤ b) × (b ≤ 57)
    go true p e = digit_range b p
    go false p e = let z : ◌≡◌ {A = ℕ} 0 1 = cc in omega arith

pub digits_rest : (b : ℕ) (bytes : List ℕ) → digits_in (b ∷ bytes) ≡ b ∷ bytes → digits_in bytes ≡ bytes
unfolding digits_in
digits_rest b bytes e = go (is_digit b) e
  where
    go : (t : Bool) → if t (b ∷ digits_in bytes) [] ≡ b ∷ bytes → digits_in bytes ≡ bytes
    go true e = cc
    go false e = cc

-- ---- digits without leading zeros are those of the number that they say

-- one digit behind a number that is not 0
decimal_step : (v b : ℕ) → 0 < v → 48 ≤ b → b ≤ 57 → decimal_of (v * 10 + (b - 48)) ≡ decimal_of v ++ b ∷ []
decimal_step v b h l u =
    decimal_large (v * 10 + (b - 48)) (omega arith)
    ∙ ap₂ (λ (n d : ℕ). decimal_of n ++ d ∷ []) (omega arith) (omega arith)

-- digits behind a number that is not 0
decimal_from : (v : ℕ) (bytes : List ℕ) → 0 < v → digits_in bytes ≡ bytes → decimal_of (value_from v bytes) ≡ decimal_of v ++ bytes
unfolding value_from
decimal_from v [] h e = sym (append-nil (decimal_of v))
decimal_from v (b ∷ bytes) h e =
    let d = digits_first b bytes e in
    decimal_from (v * 10 + (b - 48)) bytes (omega arith) (digits_rest b bytes e)
    ∙ rw (decimal_step v b h d.0 d.1) (append_assoc (decimal_of v) (b ∷ []) bytes)

-- one digit, or digits of which the first is not 0
pub decimal_one : (b : ℕ) → digits_in (b ∷ []) ≡ b ∷ [] → decimal_of (value_of (b ∷ [])) ≡ b ∷ []
unfolding value_from
decimal_one b e =
    let d = digits_first b [] e in
    decimal_small (0 * 10 + (b - 48)) (omega arith) ∙ ap (λ (x : ℕ). x ∷ []) (omega arith)

pub decimal_more : (b : ℕ) (bytes : List ℕ) → digits_in (b ∷ bytes) ≡ b ∷ bytes → (b ≡ 48 → ⊥) → decimal_of (value_of (b ∷ bytes)) ≡ b ∷ bytes
unfolding value_from
decimal_more b bytes e ne =
    let d = digits_first b bytes e in
    decimal_from (0 * 10 + (b - 48)) bytes (omega arith) (digits_rest b bytes e)
    ∙ ap (λ (ds : List ℕ). ds ++ bytes) (decimal_small (0 * 10 + (b - 48)) (omega arith))
    ∙ ap (λ (x : ℕ). x ∷ bytes) (omega arith)

-- the first digit of a number that is not 0 is not 0
pub decimal_head : (n : ℕ) → 0 < n → 48 < get_or (decimal_of n) 0 0
decimal_head = by_digits (λ n. 0 < n → 48 < get_or (decimal_of n) 0 0)
    (λ n s h. rw (decimal_small n s) (omega arith))
    (λ n l p h. rw (decimal_large n l, get_or-append (decimal_of (n / 10)) (digit_of (n % 10) ∷ []) 0 0 (decimal_some (n / 10))) (p (omega arith)))
