-- Laws of reading a decimal number. Read `number_written` and `number_read`: a number is read just where it is written. Before them the digits at a
-- place, byte by byte, and when they are a number's.
use mathlib.Core.Path.{◌≡◌, refl, sym, ap, ◌∙◌}
use mathlib.Core.Bool.{Bool, true, false, not}
use mathlib.Core.List.{List, [], ◌∷◌, ◌++◌, append-nil}
use Prim.Native.Nat.{ℕ, suc, ◌+◌, ◌-◌, ◌*◌, ◌≤◌, ◌<◌, min}
use native.Mathlib.Decide.{dec_le, dec_lt}
use native.Mathlib.Nat.{add-zero}
use native.Mathlib.Numerals.{add-one}
use native.Mathlib.Omega.{arith}
use borrow.Author.Tests.{eqb-true, eqb-false, eq-eqb, leb-true, le-leb, lt-leb}
use lib.Dec.{leb, eqb}
use lib.ListN.{length, get_or, drop, length-drop, drop_of_length-le}
use lib.Seq.{drop-cons, drop-drop, get_or-drop}
use Rattle.ground.proofs.PickLaws.{both_first, both_second}
use Rattle.ground.specs.Pick.{if}
use Rattle.std.specs.Prelude.{None, Option, Some}
use Rattle.text.specs.declared.decimal.Number.{Number}
use Rattle.text.specs.Decimal.{decimal_of, digits, number_at, value_from, value_of, is_digit, digits_in, same, is_decimal}
use Rattle.text.specs.Leaves.{DigitsRead}
use Rattle.text.proofs.DecimalLaws.{decimal_one, decimal_more, decimal_head, decimal_value, digits_in_front, small_length}

-- ---- the digits at a place

pub digits_turn : (text : List ℕ) (at : ℕ) → at < length text → is_digit (get_or text at 0) ≡ true
    → digits_in (drop at text) ≡ get_or text at 0 ∷ digits_in (drop (at + 1) text)
unfolding digits_in
digits_turn text at h e = rw (drop-cons text at 0 h, e, add-one at)

pub digits_stop : (text : List ℕ) (at : ℕ) → at < length text → is_digit (get_or text at 0) ≡ false → digits_in (drop at text) ≡ []
unfolding digits_in
digits_stop text at h e = rw (drop-cons text at 0 h, e)

pub digits_beyond : (text : List ℕ) (at : ℕ) → length text ≤ at → digits_in (drop at text) ≡ []
unfolding digits_in
digits_beyond text at h = rw (drop_of_length-le text h)

-- the first of the digits at a place is the byte there
pub digits_head : (text : List ℕ) (at : ℕ) → 0 < length (digits_in (drop at text)) → get_or (digits_in (drop at text)) 0 0 ≡ get_or text at 0
unfolding digits_in
digits_head text at h = go (drop at text) h ∙ get_or-drop at text 0 0 ∙ ap (λ (k : ℕ). get_or text k 0) (add-zero at)
  where
    go : (s : List ℕ) → 0 < length (digits_in s) → get_or (digits_in s) 0 0 ≡ get_or s 0 0
    go [] h = refl
    go (b ∷ s) h = first (is_digit b) h
      where
        first : (t : Bool) → 0 < length (if t (b ∷ digits_in s) []) → get_or (if t (b ∷ digits_in s) []) 0 0 ≡ b
        first true h = refl
        first false h = let z : ⊥ = omega arith in absurd z

-- digits stand within the text
digits_short : (s : List ℕ) → length (digits_in s) ≤ length s
unfolding digits_in
digits_short [] = omega arith
digits_short (b ∷ s) = go (is_digit b) (digits_short s)
  where
    go : (t : Bool) → length (digits_in s) ≤ length s → length (if t (b ∷ digits_in s) []) ≤ suc (length s)
    go true p = omega arith
    go false p = omega arith

pub digits_within : (text : List ℕ) (at : ℕ) → 0 < length (digits_in (drop at text)) → at + length (digits_in (drop at text)) ≤ length text
digits_within text at h = omega (arith, digits_short (drop at text), length-drop at text)

-- ---- the number that they say, no further than a cap

value_grows : (v : ℕ) (bytes : List ℕ) → v ≤ value_from v bytes
unfolding value_from
value_grows v [] = omega arith
value_grows v (b ∷ bytes) = omega (arith, value_grows (v * 10 + (b - 48)) bytes)

pub capped : (v cap : ℕ) (bytes : List ℕ) → min (value_from (min v cap) bytes) cap ≡ min (value_from v bytes) cap
capped v cap bytes = go (dec_le v cap)
  where
    go : Dec (v ≤ cap) → min (value_from (min v cap) bytes) cap ≡ min (value_from v bytes) cap
    go (yes h) = ap (λ (x : ℕ). min (value_from x bytes) cap) (omega arith)
    go (no h) = omega (arith, value_grows v bytes, value_grows (min v cap) bytes)

-- ---- when they are a number's

pub same_refl : (xs : List ℕ) → same xs xs ≡ true
unfolding same
same_refl [] = refl
same_refl (x ∷ xs) = rw (eq-eqb x x refl) (same_refl xs)

pub same_true : (xs ys : List ℕ) → same xs ys ≡ true → xs ≡ ys
unfolding same
same_true [] [] e = refl
same_true [] (y ∷ ys) e = cc
same_true (x ∷ xs) [] e = cc
same_true (x ∷ xs) (y ∷ ys) e =
    rw (eqb-true x y (both_first (eqb x y) (same xs ys) e)) (ap (λ (l : List ℕ). y ∷ l) (same_true xs ys (both_second (eqb x y) (same xs ys) e)))

-- the digits of a number are a decimal, and what is a decimal is the digits of the number that it says
pub decimal_is : (n : ℕ) → is_decimal (decimal_of n) ≡ true
unfolding is_decimal
decimal_is n = rw (decimal_value n) (same_refl (decimal_of n))

pub decimal_was : (bytes : List ℕ) → is_decimal bytes ≡ true → bytes ≡ decimal_of (value_of bytes)
unfolding is_decimal
decimal_was bytes e = same_true bytes (decimal_of (value_of bytes)) e

is_decimal_lem : (bytes : List ℕ) → decimal_of (value_of bytes) ≡ bytes → is_decimal bytes ≡ true
unfolding is_decimal
is_decimal_lem bytes e = rw e (same_refl bytes)

-- no digit
pub no_digit : (bytes : List ℕ) → length bytes ≡ 0 → is_decimal bytes ≡ false
unfolding is_decimal same decimal_of digits value_from
no_digit [] e = refl
no_digit (b ∷ bytes) e = let z : ⊥ = omega arith in absurd z

-- one digit
pub one_digit : (bytes : List ℕ) → digits_in bytes ≡ bytes → length bytes ≡ 1 → is_decimal bytes ≡ true
one_digit [] e h = let z : ⊥ = omega arith in absurd z
one_digit (b ∷ []) e h = is_decimal_lem (b ∷ []) (decimal_one b e)
one_digit (b ∷ d ∷ bytes) e h = let z : ⊥ = omega arith in absurd z

-- several digits: the first decides
zero_first : (bytes : List ℕ) → 1 < length bytes → get_or bytes 0 0 ≡ 48 → is_decimal bytes ≡ true → ⊥
zero_first bytes h z e = go (dec_lt 0 (value_of bytes))
  where
    was : bytes ≡ decimal_of (value_of bytes)
    was = decimal_was bytes e

    go : Dec (0 < value_of bytes) → ⊥
    go (yes p) = omega (arith, decimal_head (value_of bytes) p, ap (λ (l : List ℕ). get_or l 0 0) was)
    go (no p) = omega (arith, small_length (value_of bytes) (omega arith), ap length was)

pub several_digits : (bytes : List ℕ) → digits_in bytes ≡ bytes → 1 < length bytes → is_decimal bytes ≡ not (eqb (get_or bytes 0 0) 48)
several_digits [] e h = let z : ⊥ = omega arith in absurd z
several_digits (b ∷ bytes) e h = go (eqb b 48) refl (is_decimal (b ∷ bytes)) refl
  where
    go : (t : Bool) → eqb b 48 ≡ t → (u : Bool) → is_decimal (b ∷ bytes) ≡ u → u ≡ not t
    go true p true q = absurd (zero_first (b ∷ bytes) h (eqb-true b 48 p) q)
    go true p false q = refl
    go false p true q = refl
    go false p false q = sym q ∙ is_decimal_lem (b ∷ bytes) (decimal_more b bytes e (eqb-false b 48 p))

-- ---- what the loop over the digits keeps

-- what the digits at `at` say is what those at `next` say, read on from `value`, up to one above the limit
pub record DigitsLeft (text : List ℕ) (at limit value next : ℕ) : Type 0 where
  pub number : min (value_from value (digits_in (drop next text))) (limit + 1) ≡ min (value_of (digits_in (drop at text))) (limit + 1)
  pub place : next + length (digits_in (drop next text)) ≡ at + length (digits_in (drop at text))
  pub bound : value ≤ limit + 1

-- where no digit is left, the digits are read
pub left_end : {text : List ℕ} {at limit value next : ℕ} → DigitsLeft text at limit value next → digits_in (drop next text) ≡ []
    → DigitsRead text at limit (record { value = value; next = next })
unfolding value_from
left_end {value = value} k e = record {
  number = omega (arith, k.bound, rw e at k.number);
  place = omega (arith, rw e at k.place);
}

-- one digit more is read
pub left_turn : {text : List ℕ} {at limit value next longer : ℕ} → DigitsLeft text at limit value next
    → next < length text
    → is_digit (get_or text next 0) ≡ true
    → longer ≡ min (value * 10 + (get_or text next 0 - 48)) (limit + 1)
    → DigitsLeft text at limit longer (next + 1)
unfolding value_from
left_turn {text} {limit = limit} {value = value} {next = next} k h e l =
    let one = digits_turn text next h e in
    record {
      number = rw (l, capped) (rw one at k.number);
      place = omega (arith, rw one at k.place);
      bound = omega arith;
    }

-- ---- the number at a place

pub number_none : (text : List ℕ) (at limit : ℕ) → is_decimal (digits_in (drop at text)) ≡ false → number_at text at limit ≡ None
unfolding number_at
number_none text at limit e = rw e

module _ {text : List ℕ} {at limit value next : ℕ} (k : DigitsRead text at limit (record { value = value; next = next }))
    (e : is_decimal (digits_in (drop at text)) ≡ true) where
  pub number_above : limit < value → number_at text at limit ≡ None
  unfolding number_at
  number_above h =
      let v : ℕ = value_of (digits_in (drop at text)) in
      let above : leb v limit ≡ false = lt-leb v limit (omega (arith, k.number)) in
      rw (e, above)

  pub number_found : value ≤ limit → number_at text at limit ≡ Some (record { value = value; next = next })
  unfolding number_at
  number_found h =
      let v : ℕ = value_of (digits_in (drop at text)) in
      let is : v ≡ value = omega (arith, k.number) in
      let within : leb v limit ≡ true = le-leb v limit (omega arith) in
      rw (e, within, is, ← k.place)

-- the digits that a text begins with, and what stands behind them, are the text
digits_split : (text : List ℕ) → text ≡ digits_in text ++ drop (length (digits_in text)) text
unfolding digits_in
digits_split [] = refl
digits_split (b ∷ text) = go (is_digit b) (digits_split text)
  where
    go : (t : Bool) → text ≡ digits_in text ++ drop (length (digits_in text)) text
        → b ∷ text ≡ if t (b ∷ digits_in text) [] ++ drop (length (if t (b ∷ digits_in text) [])) (b ∷ text)
    go true p = ap (λ (l : List ℕ). b ∷ l) p
    go false p = refl

-- the number written at a place, with no further digit behind it, is read there
pub number_written : (text : List ℕ) (at n limit : ℕ) (rest : List ℕ)
    → drop at text ≡ decimal_of n ++ rest → digits_in rest ≡ [] → n ≤ limit
    → number_at text at limit ≡ Some (record { value = n; next = at + length (decimal_of n) })
unfolding number_at
number_written text at n limit rest e stop h =
    let found : digits_in (drop at text) ≡ decimal_of n = ap digits_in e ∙ digits_in_front n rest ∙ rw stop (append-nil (decimal_of n)) in
    rw (found, decimal_is n, decimal_value n, le-leb n limit h)

-- the number that is read at a place is written there, and no further digit stands behind it
pub record NumberRead (text : List ℕ) (at limit n next : ℕ) : Type 0 where
  pub within : n ≤ limit
  pub written : drop at text ≡ decimal_of n ++ drop next text
  pub place : next ≡ at + length (decimal_of n)

pub number_read : (text : List ℕ) (at limit n next : ℕ) → number_at text at limit ≡ Some (record { value = n; next = next }) → NumberRead text at limit n next
unfolding number_at
number_read text at limit n next e =
    let bytes = digits_in (drop at text) in
    go bytes refl (is_decimal bytes) refl (leb (value_of bytes) limit) refl e
  where
    go : (bytes : List ℕ) → digits_in (drop at text) ≡ bytes → (s : Bool) → is_decimal bytes ≡ s → (t : Bool) → leb (value_of bytes) limit ≡ t
        → if {A = Option Number} s (if t (Some (record { value = value_of bytes; next = at + length bytes })) None) None ≡ Some (record { value = n; next = next })
        → NumberRead text at limit n next
    go bytes d true p true q e =
        let was : bytes ≡ decimal_of (value_of bytes) = decimal_was bytes p in
        let same : ◌≡◌ {A = Number} (record { value = value_of bytes; next = at + length bytes }) (record { value = n; next = next }) = cc in
        let value : value_of bytes ≡ n = ap (λ (m : Number). m.value) same in
        let place : at + length bytes ≡ next = ap (λ (m : Number). m.next) same in
        let found : bytes ≡ decimal_of n = was ∙ ap decimal_of value in
        record {
          within = rw value at (leb-true (value_of bytes) limit q);
          written = digits_split (drop at text) ∙ rw (d, drop-drop (length bytes) at text, place, found);
          place = sym place ∙ ap (λ (l : List ℕ). at + length l) found;
        }
    go bytes d true p false q e = let z : ◌≡◌ {A = ℕ} 0 1 = cc in absurd (omega arith)
    go bytes d false p t q e = let z : ◌≡◌ {A = ℕ} 0 1 = cc in absurd (omega arith)
