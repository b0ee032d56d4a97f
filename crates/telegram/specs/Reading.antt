-- Document 01, "Reading a telegram": the answer to every byte string, `read_of`, as a table in the order in which the document is read. It is what a
-- reader answers, not how one goes about it: our reader's own steps stand in Leaves.antt, and a law joins the two.
use Rattle.std.specs.Prelude.{ℕ, ◌+◌, ◌-◌, ◌%◌, Bool, true, false, not, ◌&&◌, List, [], ◌∷◌, eqb, leb, ltb, length, None, Option, Some}
use Rattle.codes.specs.Checksums.{checksum_of}
use Rattle.ground.specs.Bits.{digit}
use Rattle.codes.specs.FunctionCodes.{function_code_of, is_read}
use Rattle.ground.specs.Part.{part, byte_at}
use Rattle.ground.specs.Pick.{if}
use Rattle.ground.specs.Refusals.{number_of}
use Rattle.codes.specs.declared.function_code.FunctionCode.{FunctionCode}
use Rattle.codes.specs.Delimiters.{SD1, SD2, SD3, SD4, SC, ED}
use Rattle.telegram.specs.declared.deserialize.Deserialized.{Deserialized}
use Rattle.telegram.specs.declared.deserialize.Deserialized.TheVariants as deserialized
use Rattle.telegram.specs.declared.header.DataTelegramHeader.{DataTelegramHeader}
use Rattle.telegram.specs.declared.kinds.DataTelegram.{DataTelegram}
use Rattle.telegram.specs.declared.kinds.Telegram.{Telegram}
use Rattle.telegram.specs.declared.kinds.Telegram.TheVariants.{Data, Token, ShortConfirmation}
use Rattle.telegram.specs.declared.kinds.TokenTelegram.{TokenTelegram}
use Rattle.ground.specs.declared.address.Sap.{Sap}

-- the three-way answer: a telegram with its total length, incomplete, or a refusal's number
pub data Reading : Type 0 where
  whole : Telegram → ℕ → Reading
  incomplete : Reading
  refused : ℕ → Reading

-- what the reader answers, with document 01's number
abbrev pub shown_reading : Deserialized → Reading
shown_reading (deserialized.Telegram t n) = whole t n
shown_reading deserialized.Incomplete = incomplete
shown_reading (deserialized.Refused refusal) = refused (number_of refusal)

-- "da with top bit needs a DSAP byte"
abbrev pub top : ℕ → Bool
top b = leb 128 b

-- the SAP that a byte with top bit needs, at a place
abbrev pub sap_at : Bool → List ℕ → ℕ → Option Sap
sap_at true s at = Some (record { 0 = byte_at s at })
sap_at false s at = None

-- the header whose da stands at a place; "the top bits of da and sa are removed from the address"
unfoldable pub header_at : List ℕ → ℕ → FunctionCode → DataTelegramHeader
header_at s at fc =
    record {
      da = record { 0 = byte_at s at % 128 };
      sa = record { 0 = byte_at s (at + 1) % 128 };
      dsap = sap_at (top (byte_at s at)) s (at + 3);
      ssap = sap_at (top (byte_at s (at + 1))) s (at + 3 + digit (top (byte_at s at)));
      fc = fc;
    }

-- how many SAP bytes the two addresses need
unfoldable pub saps_at : List ℕ → ℕ → ℕ
saps_at s at = digit (top (byte_at s at)) + digit (top (byte_at s (at + 1)))

-- the data telegram whose da stands at a place, with l bytes from there through the PDU; "SAPs first, the rest is the PDU"
abbrev pub telegram_at : List ℕ → ℕ → ℕ → FunctionCode → DataTelegram
telegram_at s at l fc =
    record {
      h = header_at s at fc;
      pdu = record { start = at + 3 + saps_at s at; len = l - (3 + saps_at s at) };
    }

-- the same as an answer, under the code that its byte is read as; checksum and end delimiter stand behind the l bytes
abbrev pub data_read : List ℕ → ℕ → ℕ → Option FunctionCode → Reading
data_read s at l (Some fc) = whole (Data (telegram_at s at l fc)) (at + l + 2)
data_read s at l None = refused 4

-- "token, da then sa, whole bytes"
abbrev pub token_at : List ℕ → TokenTelegram
token_at s = record { da = record { 0 = byte_at s 1 }; sa = record { 0 = byte_at s 2 } }

-- ---- where things stand in a data telegram

-- whether the first byte is this one
abbrev pub starts : List ℕ → ℕ → Bool
starts s b = eqb (byte_at s 0) b

-- whether a first byte is that of a data telegram
abbrev pub starts_data : ℕ → Bool
starts_data b = if (eqb b SD1) true (if (eqb b SD2) true (eqb b SD3))

-- da stands behind the delimiter; in SD2 behind the length and the delimiter, each twice
abbrev pub da_at : List ℕ → ℕ
da_at s = if (starts s SD2) 4 1

-- how many bytes there are from da through the PDU: da, sa, fc, and "content after da, sa, fc: 0, 8 or L - 3 bytes"
abbrev pub covered_at : List ℕ → ℕ
covered_at s = if (starts s SD1) 3 (if (starts s SD2) (byte_at s 1) 11)

-- "Totals: SD1 6, SD3 14, SD2 L + 6": the checksum and the end delimiter stand behind what is covered
abbrev pub total_at : List ℕ → ℕ
total_at s = da_at s + covered_at s + 2

-- the byte of the function code
abbrev pub code_at : List ℕ → ℕ
code_at s = byte_at s (da_at s + 2)

-- the bytes that the checksum sums: "from da through the PDU"
abbrev pub summed_at : List ℕ → List ℕ
summed_at s = part s (da_at s) (da_at s + covered_at s)

-- ---- the table

-- a line: where its test holds, and no test above it, this is the answer
pub record Line : Type 0 where
  pub test : Bool
  pub answer : Reading

infix 25 ◌answers◌
abbrev pub ◌answers◌ : Bool → Reading → Line
test answers answer = record { test = test; answer = answer }

-- what the first line whose test holds answers; else what is left over
abbrev pub first_line : List Line → Reading → Reading
first_line [] leftOver = leftOver
first_line (line ∷ more) leftOver = if line.test line.answer (first_line more leftOver)

unfoldable pub read_of : List ℕ → Reading
read_of s =
    first_line
    -- "From the first byte: nothing, incomplete. SC: 1 byte. SD4: under 3 bytes incomplete, else token … Others unknown: 1."
    ((eqb (length s) 0 answers incomplete)
    ∷ (starts s SC answers whole ShortConfirmation 1)
    ∷ ((starts s SD4 && ltb (length s) 3) answers incomplete)
    ∷ (starts s SD4 answers whole (Token (token_at s)) 3)
    ∷ (not (starts_data (byte_at s 0)) answers refused 1)
    -- "SD1, SD2, SD3, in this order: 1. under 6 bytes: incomplete"
    ∷ (ltb (length s) 6 answers incomplete)
    -- "2. SD2: second and third byte differ: 2; length byte L below 3: 3"
    ∷ ((starts s SD2 && not (eqb (byte_at s 1) (byte_at s 2))) answers refused 2)
    ∷ ((starts s SD2 && ltb (byte_at s 1) 3) answers refused 3)
    -- "3. under the total: incomplete"
    ∷ (ltb (length s) (total_at s) answers incomplete)
    -- "4. function code: 4"
    ∷ (not (is_read (function_code_of (code_at s))) answers refused 4)
    -- "5. da with top bit needs a DSAP byte, sa with top bit then an SSAP byte; none left in the content: 5"
    ∷ (ltb (covered_at s) (3 + saps_at s (da_at s)) answers refused 5)
    -- "6. checksum: 6", the byte behind what is covered
    ∷ (not (eqb (byte_at s (da_at s + covered_at s)) (checksum_of (summed_at s))) answers refused 6)
    -- "7. end delimiter: 7", the byte behind that
    ∷ (not (eqb (byte_at s (da_at s + covered_at s + 1)) ED) answers refused 7)
    ∷ [])
    (data_read s (da_at s) (covered_at s) (function_code_of (code_at s)))
