-- Document 01, "Responder": the cabinet's rules, on messages and on the row alone: what it remembers of one head end.
use Rattle.std.specs.Prelude.{Bool, true, false}
use Rattle.std.proofs.Math.Option.{none, some}
use Rattle.link_model.specs.Messages.{Bit, high, same, Message, opening, ok, order, reply, other}
use Rattle.demand_3.specs.Turns.{Bytes, nothing, tells, Turn, refusing, ignoring}

-- what the responder remembers: the stored bit, whether a reply is owed, and the held reply
pub data Row : Type 0 where
  -- no stored bit
  blank : Row
  -- bit 1 stored by an opening, nothing owed, nothing held
  opened : Row
  -- the bit of the order handed up, its reply owed
  owes : Bit → Row
  -- the bit of the order handed up, its reply held
  holds : Bit → Bytes → Row

-- a call of the responder: it may write a message, and may hand an order up
abbrev pub RowTurn : Type 0
RowTurn = Turn Row Message Bytes

-- an order under another bit than the stored one: "store the bit, drop the held reply and hand the order up"
abbrev pub hands_up : Bit → Bytes → RowTurn
hands_up b q = record { next = owes b; writes = none; says = tells q }

-- an order, by the stored bit; the test says whether the order's bit is the same. "FCV with no stored bit: nothing.
-- Same bit: the held reply again, nothing where none is held. Other bit: … hand the order up"
abbrev pub ordered_on : Bool → Row → Bit → Bytes → RowTurn
ordered_on again blank b q = ignoring blank
ordered_on true opened b q = ignoring opened
ordered_on false opened b q = hands_up b q
ordered_on true (owes c) b q = ignoring (owes c)
ordered_on false (owes c) b q = hands_up b q
ordered_on true (holds c p) b q = record { next = holds c p; writes = some (reply p); says = nothing }
ordered_on false (holds c p) b q = hands_up b q

-- is it the stored bit
abbrev pub same_bit : Row → Bit → Bool
same_bit blank b = false
same_bit opened b = same high b
same_bit (owes c) b = same c b
same_bit (holds c p) b = same c b

-- "First and empty: store bit 1, drop an owed or held reply, answer"; an order as above; "All else: nothing"
abbrev pub row_hears : Row → Message → RowTurn
row_hears r opening = record { next = opened; writes = some ok; says = nothing }
row_hears r ok = ignoring r
row_hears r (order b q) = ordered_on (same_bit r b) r b q
row_hears r (reply p) = ignoring r
row_hears r other = ignoring r

-- "the application then answers once, and that answer is held"; refused when none is owed
abbrev pub row_answers : Row → Bytes → RowTurn
row_answers blank p = refusing blank
row_answers opened p = refusing opened
row_answers (owes b) p = record { next = holds b p; writes = some (reply p); says = nothing }
row_answers (holds b r) p = refusing (holds b r)

-- "Restart forgets all"; a new row remembers nothing
abbrev pub new_row : Row
new_row = blank
