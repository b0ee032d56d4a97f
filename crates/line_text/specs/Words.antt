-- The words of a line: what is read, what is left of the line behind it, and which fault is answered. A fault leaves what was read until then
-- behind. Read `word_read` and `word_left`; `number_read`, `byte_read`, `room_read` and `bytes_read` say what a word is read as.
use Rattle.std.specs.Prelude.{List, [], ◌∷◌, ℕ, zero, suc, ◌+◌, ◌-◌, ◌*◌, ◌&&◌, drop, take, eqb, ltb, leb, Option, Some, None, Result, Ok, Err}
use Rattle.std.specs.List.{position_or_len}
use Rattle.ground.specs.Pick.{if}
use Rattle.text.specs.Decimal.{number_at, same}
use Rattle.text.specs.declared.decimal.Number.{Number}
use Rattle.line_text.specs.declared.words.Fault.{Fault}
use Rattle.line_text.specs.declared.words.Fault.TheVariants.{WordMissing, BadNumber, Above255, BadBytes, BytesTooLong, RoomTooLarge, TooManyWords}

-- how many bytes stand before the first space, or in the line where it has none
abbrev pub word_len : List ℕ → ℕ
word_len line = position_or_len (λ b. eqb b 32) line

-- the bytes before the first space, and what stands from it on
abbrev pub word_in : List ℕ → List ℕ
word_in line = take (word_len line) line

abbrev pub behind_word : List ℕ → List ℕ
behind_word line = drop (word_len line) line

-- the word behind a space: there is none where the line does not begin with one
abbrev pub word_read : List ℕ → Result (List ℕ) Fault
word_read [] = Err WordMissing
word_read (b ∷ line) = if (eqb b 32) (Ok (word_in line)) (Err WordMissing)

-- what is left of the line behind that word: all of it where there is none
abbrev pub word_left : List ℕ → List ℕ
word_left [] = []
word_left (b ∷ line) = if (eqb b 32) (behind_word line) (b ∷ line)

-- behind the last word the line ends
abbrev pub end_read : List ℕ → Result Unit Fault
end_read [] = Ok tt
end_read (b ∷ line) = Err TooManyWords

-- the next step where there was no fault
abbrev pub and_then : {A B : Type 0} → Result A Fault → (A → Result B Fault) → Result B Fault
and_then (Ok x) step = step x
and_then (Err fault) step = Err fault

-- nothing stands behind a number in its word
abbrev pub ended : List ℕ → Result Unit Fault
ended [] = Ok tt
ended (b ∷ rest) = Err BadNumber

-- what was read, where nothing stands behind it
abbrev pub whole : {A : Type 0} → A × List ℕ → Result A Fault
whole (x, []) = Ok x
whole (x, b ∷ rest) = Err BadNumber

-- a number that was found at the front of these bytes, and the bytes behind it
abbrev pub found : List ℕ → Option Number → Result (ℕ × List ℕ) Fault
found bytes None = Err BadNumber
found bytes (Some number) = Ok (number.value, drop number.next bytes)

-- a number at the front of these bytes, which may be 2 ^ 32 - 1 at most, and the bytes behind it
abbrev pub number_split : List ℕ → Result (ℕ × List ℕ) Fault
number_split bytes = found bytes (number_at bytes 0 4294967295)

-- a byte in decimal at the front of these bytes, and the bytes behind it
abbrev pub within_byte : ℕ × List ℕ → Result (ℕ × List ℕ) Fault
within_byte number = if (ltb number.0 256) (Ok number) (Err Above255)

abbrev pub byte_split : List ℕ → Result (ℕ × List ℕ) Fault
byte_split bytes = and_then (number_split bytes) within_byte

-- the number or the byte that the whole of these bytes says
abbrev pub number_read : List ℕ → Result ℕ Fault
number_read bytes = and_then (number_split bytes) whole

abbrev pub byte_read : List ℕ → Result ℕ Fault
byte_read bytes = and_then (byte_split bytes) whole

-- the ROOM that they say, 1024 at most
abbrev pub within_room : ℕ × List ℕ → Result ℕ Fault
within_room number = if (ltb 1024 number.0) (Err RoomTooLarge) (whole number)

abbrev pub room_read : List ℕ → Result ℕ Fault
room_read bytes = and_then (number_split bytes) within_room

-- the value of a hexadecimal digit: '0' to '9' are the bytes from 48 on, 'A' to 'F' those from 65 on, 'a' to 'f' those from 97 on
abbrev pub digit_value : ℕ → Option ℕ
digit_value b =
    if (leb 48 b && leb b 57) (Some (b - 48))
    (if (leb 65 b && leb b 70) (Some (b - 65 + 10))
    (if (leb 97 b && leb b 102) (Some (b - 97 + 10)) None))

-- the byte of two digits' values
abbrev pub pair_byte : Option ℕ → Option ℕ → Option ℕ
pair_byte (Some high) (Some low) = Some (16 * high + low)
pair_byte (Some high) None = None
pair_byte None low = None

-- the byte of two digits, where both are digits
abbrev pub pair_value : List ℕ → Option ℕ
pair_value (high ∷ low ∷ []) = pair_byte (digit_value high) (digit_value low)
pair_value digits = None

-- a byte in front of what the digits behind it say
abbrev pub behind_byte : Option ℕ → Result (List ℕ) Fault → Result (List ℕ) Fault
behind_byte None rest = Err BadBytes
behind_byte (Some b) (Ok bytes) = Ok (b ∷ bytes)
behind_byte (Some b) (Err fault) = Err fault

-- the bytes of these digits, two for each, where there is room for so many; a fault is that of the first pair that is no byte or has no room
unfoldable pub hex_read : ℕ → List ℕ → Result (List ℕ) Fault
hex_read room [] = Ok []
hex_read zero (digit ∷ digits) = Err BytesTooLong
hex_read (suc room) (digit ∷ []) = Err BadBytes
hex_read (suc room) (high ∷ low ∷ digits) = behind_byte (pair_value (high ∷ low ∷ [])) (hex_read room digits)

-- the byte string that a word says: `-` is the empty one, and an empty word is none
abbrev pub bytes_read : List ℕ → Result (List ℕ) Fault
bytes_read [] = Err BadBytes
bytes_read (b ∷ bytes) = if (same (b ∷ bytes) (45 ∷ [])) (Ok []) (hex_read 4200 (b ∷ bytes))
