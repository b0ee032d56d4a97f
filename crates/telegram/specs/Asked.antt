-- How many bytes a byte string asks for by its own bytes, `asked_of`: 1, 3, 6, then a data telegram's total. Bytes are incomplete exactly where there
-- are fewer (`incomplete_exactly` of proofs/AskedLaws.antt), so that a reader of portions knows what it waits for.
use Rattle.std.specs.Prelude.{ℕ, not, ◌&&◌, ◌||◌, List, eqb, ltb, length}
use Rattle.codes.specs.Delimiters.{SD2, SD4}
use Rattle.ground.specs.Part.{byte_at}
use Rattle.ground.specs.Pick.{if}
use Rattle.telegram.specs.Reading.{starts, starts_data, total_at}

unfoldable pub asked_of : List ℕ → ℕ
asked_of s =
    -- a first byte
    if (eqb (length s) 0) 1
    -- "SD4: under 3 bytes incomplete"
    (if (starts s SD4) 3
    -- a confirmation, and a byte that begins no telegram, are told by that byte
    (if (not (starts_data (byte_at s 0))) 1
    -- "under 6 bytes: incomplete"
    (if (ltb (length s) 6) 6
    -- the lengths of an SD2 telegram that is refused for them tell no total
    (if (starts s SD2 && (not (eqb (byte_at s 1) (byte_at s 2)) || ltb (byte_at s 1) 3)) 6
    -- "under the total: incomplete. Totals: SD1 6, SD3 14, SD2 L + 6"
    (total_at s)))))
