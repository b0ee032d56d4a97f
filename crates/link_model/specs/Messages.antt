-- Document 01, "The order link": what the two ends say to each other, without addresses, delimiters and function codes.
use Rattle.std.specs.Prelude.{Bool, true, false}
use Rattle.demand_3.specs.Turns.{Bytes}

-- the bit of an order, FCV being set: Low is 0, High is 1
pub data Bit : Type 0 where
  low high : Bit

-- "Cycle": Low to High, High to Low
abbrev pub cycled : Bit → Bit
cycled low = high
cycled high = low

-- is it the same bit
abbrev pub same : Bit → Bit → Bool
same low low = true
same low high = false
same high low = false
same high high = true

-- what is said on the link
pub data Message : Type 0 where
  -- First, empty PDU
  opening : Message
  -- the opening's reply: status Ok, empty
  ok : Message
  -- an order under its bit
  order : Bit → Bytes → Message
  -- the order's reply: status DataLow
  reply : Bytes → Message
  -- anything else that an end can hear: no message of this link
  other : Message

-- is it an opening
abbrev pub is_opening : Message → Bool
is_opening opening = true
is_opening ok = false
is_opening (order b p) = false
is_opening (reply p) = false
is_opening other = false
