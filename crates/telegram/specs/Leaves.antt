-- What private functions promise each other: the steps of our reader, which end in `steps_of`. Nothing here has to be believed: no promise
-- of a public call cites it.
use Rattle.std.specs.Prelude.{ℕ, ◌+◌, not, List, eqb, ltb, length, None, Option, Some}
use Rattle.codes.specs.Checksums.{checksum_of}
use Rattle.codes.specs.Delimiters.{SD1, SD2, SD4, SC, ED}
use Rattle.codes.specs.FunctionCodes.{function_code_of}
use Rattle.codes.specs.declared.function_code.FunctionCode.{FunctionCode}
use Rattle.ground.specs.Part.{part, byte_at}
use Rattle.ground.specs.Pick.{if}
use Rattle.telegram.specs.Frames.{Framing, frame_is, frame_incomplete, frame_refused, framing_lengths}
use Rattle.telegram.specs.Reading.{Reading, whole, incomplete, refused, saps_at, telegram_at, token_at, starts_data}
use Rattle.telegram.specs.declared.kinds.Telegram.TheVariants.{Data, Token, ShortConfirmation}

-- "5. none left in the content: 5. 6. checksum: 6. 7. end delimiter: 7"
unfoldable pub content_of : List ℕ → ℕ → ℕ → FunctionCode → Reading
content_of s at l fc =
    if (ltb l (3 + saps_at s at)) (refused 5)
    (if (not (eqb (byte_at s (at + l)) (checksum_of (part s at (at + l))))) (refused 6)
    (if (not (eqb (byte_at s (at + l + 1)) ED)) (refused 7)
    (whole (Data (telegram_at s at l fc)) (at + l + 2))))

-- "4. function code: 4"
abbrev pub code_of : List ℕ → ℕ → ℕ → Option FunctionCode → Reading
code_of s at l (Some fc) = content_of s at l fc
code_of s at l None = refused 4

-- "3. under the total: incomplete": the checksum and the end delimiter stand behind what the length counts
unfoldable pub frame_of : List ℕ → ℕ → ℕ → Reading
frame_of s at l = if (ltb (length s) (at + l + 2)) incomplete (code_of s at l (function_code_of (byte_at s (at + 2))))

-- "2. SD2: second and third byte differ: 2; length byte L below 3: 3"
unfoldable pub lengths_of : List ℕ → Reading
lengths_of s =
    if (not (eqb (byte_at s 1) (byte_at s 2))) (refused 2) (if (ltb (byte_at s 1) 3) (refused 3) (frame_of s 4 (byte_at s 1)))

-- "1. under 6 bytes: incomplete"; "Totals: SD1 6, SD3 14, SD2 L + 6"
unfoldable pub data_of : List ℕ → Reading
data_of s =
    if (ltb (length s) 6) incomplete
    (if (eqb (byte_at s 0) SD1) (frame_of s 1 3) (if (eqb (byte_at s 0) SD2) (lengths_of s) (frame_of s 1 11)))

-- "SD4: under 3 bytes incomplete, else token"
unfoldable pub token_of : List ℕ → Reading
token_of s = if (ltb (length s) 3) incomplete (whole (Token (token_at s)) 3)

-- all of it: what `read_of` answers, as the reader finds it
unfoldable pub steps_of : List ℕ → Reading
steps_of s =
    if (eqb (length s) 0) incomplete
    (if (eqb (byte_at s 0) SC) (whole ShortConfirmation 1)
    (if (eqb (byte_at s 0) SD4) (token_of s) (if (starts_data (byte_at s 0)) (data_of s) (refused 1))))

-- the frame of an SD2 telegram, steps 1 and 2
unfoldable pub framing_long : List ℕ → Framing
framing_long s = if (ltb (length s) 6) frame_incomplete (framing_lengths s)

-- what is read of a frame: step 4 and those behind it
abbrev pub reading_of : List ℕ → Framing → Reading
reading_of s (frame_is f) = code_of s f.at f.len (function_code_of f.code)
reading_of s frame_incomplete = incomplete
reading_of s (frame_refused n) = refused n
