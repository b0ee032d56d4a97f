-- What private functions promise each other. Nothing here has to be believed: no promise of a public call cites it.
use Rattle.std.specs.Prelude.{◌≡◌, List, ℕ, ◌+◌, min, length, drop}
use Rattle.text.specs.declared.decimal.Number.{Number}
use Rattle.text.specs.Decimal.{value_of, digits_in}

-- the digits at a place: the number that they say, one above the limit at most, and the place behind them
pub record DigitsRead (text : List ℕ) (at limit : ℕ) (n : Number) : Type 0 where
  pub number : n.value ≡ min (value_of (digits_in (drop at text))) (limit + 1)
  pub place : n.next ≡ at + length (digits_in (drop at text))
