-- Decimal numbers: the digits 0 to 9 as the bytes 48 to 57, the most significant first, without leading zeros. Read `decimal_of`, a number as it is
-- written, and `number_at`, the number that is read at a place.
use Rattle.std.specs.Prelude.{Bool, true, false, List, [], ◌∷◌, ◌++◌, ℕ, zero, suc, ◌+◌, ◌-◌, ◌*◌, ◌/◌, ◌%◌, length, drop, eqb, leb, ltb, Option, Some, None}
use Rattle.ground.specs.Pick.{if}
use Rattle.text.specs.declared.decimal.Number.{Number}

-- the byte of a digit 0 to 9
abbrev pub digit_of : ℕ → ℕ
digit_of d = 48 + d

-- the digits of n, of which there are at most steps + 1: those of n / 10, then the last one
unfoldable pub digits : ℕ → ℕ → List ℕ
digits zero n = digit_of n ∷ []
digits (suc steps) n = if (ltb n 10) (digit_of n ∷ []) (digits steps (n / 10) ++ digit_of (n % 10) ∷ [])

-- n in decimal; n steps are more than enough (decimal_small and decimal_large of proofs/DecimalLaws.antt are its rule)
unfoldable pub decimal_of : ℕ → List ℕ
decimal_of n = digits n n

-- the number that a row of digits says, read on from v
unfoldable pub value_from : ℕ → List ℕ → ℕ
value_from v [] = v
value_from v (b ∷ bytes) = value_from (v * 10 + (b - 48)) bytes

-- the number that a row of digits says
abbrev pub value_of : List ℕ → ℕ
value_of bytes = value_from 0 bytes

-- whether a byte is one of the digits 0 to 9
unfoldable pub is_digit : ℕ → Bool
is_digit b = if (leb 48 b) (leb b 57) false

-- the digits that a text begins with
unfoldable pub digits_in : List ℕ → List ℕ
digits_in [] = []
digits_in (b ∷ text) = if (is_digit b) (b ∷ digits_in text) []

-- whether two rows of bytes are the same
unfoldable pub same : List ℕ → List ℕ → Bool
same [] [] = true
same [] (y ∷ ys) = false
same (x ∷ xs) [] = false
same (x ∷ xs) (y ∷ ys) = if (eqb x y) (same xs ys) false

-- whether digits are those of a number without leading zeros: those of the number that they say
unfoldable pub is_decimal : List ℕ → Bool
is_decimal bytes = same bytes (decimal_of (value_of bytes))

-- the number from 0 to a limit whose decimal the digits at a place are, and the place behind them
unfoldable pub number_at : List ℕ → ℕ → ℕ → Option Number
number_at text at limit =
    let bytes = digits_in (drop at text) in
    if (is_decimal bytes)
    (if (leb (value_of bytes) limit) (Some (record { value = value_of bytes; next = at + length bytes })) None)
    None
