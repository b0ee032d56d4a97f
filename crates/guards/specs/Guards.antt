-- What an end is lent beside its record: a guard. Stamps are the driver's: of any clock or count that never goes back.
-- Read `is_stale`, `stamp_after`, `number_after`.
use Rattle.std.specs.Prelude.{ℕ, ◌+◌, Bool, List, eqb, leb, ltb, get_or}
use Rattle.ground.specs.Pick.{if}

-- the stamp of the end's last call that wrote a telegram, or of its making
abbrev pub last_of : List ℕ → ℕ
last_of guard = get_or guard 0 0

-- the number of the order that a responder handed up last; before the first one it is the stamp of its making, so that the numbers of a record made
-- anew do not begin again where the clock goes on
abbrev pub handed_of : List ℕ → ℕ
handed_of guard = get_or guard 1 0

-- not received after that call: written before the end's own last telegram, for all that can be told
abbrev pub is_stale : List ℕ → ℕ → Bool
is_stale guard received = leb received (last_of guard)

-- the greater of two stamps: a clock that went back does not let in again what was shut out
abbrev pub later_of : ℕ → ℕ → ℕ
later_of last moment = if (ltb last moment) moment last

-- a number goes on at 0 behind the greatest that 64 bits hold
abbrev pub next_of : ℕ → ℕ
next_of n = if (ltb n 18446744073709551615) (n + 1) 0

-- the stamp after a call of this code: 102 is a telegram written
abbrev pub stamp_after : ℕ → ℕ → ℕ → ℕ
stamp_after code last moment = if (eqb code 102) (later_of last moment) last

-- the number after a call of this code: 106 is an order handed up
abbrev pub number_after : ℕ → ℕ → ℕ
number_after code handed = if (eqb code 106) (next_of handed) handed

-- the number that is told: 0 where no order is handed up
abbrev pub number_told : ℕ → ℕ → ℕ
number_told code handed = if (eqb code 106) (next_of handed) 0
