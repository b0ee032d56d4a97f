-- Request 2026-05, "A strict reader beside the present one": the answer of strict mode to every byte string, `strict_of`. The default is document 01's
-- `read_of`, and strict mode is that behind two checks of an SD2 telegram's start.
use Rattle.std.specs.Prelude.{ℕ, Bool, not, ◌&&◌, List, eqb, leb, length, Err, Ok, Result}
use Rattle.codes.specs.Delimiters.{SD2}
use Rattle.ground.specs.Part.{byte_at}
use Rattle.ground.specs.Pick.{if}
use Rattle.telegram.specs.Reading.{Reading, whole, incomplete, refused, starts, read_of}
use Rattle.telegram_strict.specs.declared.strict.DeserializedIn.{DeserializedIn}
use Rattle.telegram_strict.specs.declared.strict.DeserializedIn.TheVariants as deserialized
use Rattle.telegram_strict.specs.declared.strict.Mode.{Mode}
use Rattle.telegram_strict.specs.declared.strict.Mode.TheVariants.{Default, Strict}
use Rattle.telegram_strict.specs.declared.strict.Sloppiness.{Sloppiness}
use Rattle.telegram_strict.specs.declared.strict.Sloppiness.TheVariants.{LengthNotStandard, FourthByte}

-- what reading in a mode answers, which bears its refusal's number
abbrev pub shown_in : DeserializedIn → Reading
shown_in (deserialized.Telegram t n) = whole t n
shown_in deserialized.Incomplete = incomplete
shown_in (deserialized.Refused number) = refused number

-- what judging a start answers, as the number of what is against it; 0 where that is nothing
abbrev pub shown_start : Result Unit Sloppiness → ℕ
shown_start (Ok tt) = 0
shown_start (Err LengthNotStandard) = 24
shown_start (Err FourthByte) = 25

-- "The checks stand after refusals 2 and 3": six bytes of an SD2 telegram are there, its two length bytes agree, and L is not below 3
unfoldable pub past_lengths : List ℕ → Bool
past_lengths s = leb 6 (length s) && (starts s SD2 && (eqb (byte_at s 1) (byte_at s 2) && leb 3 (byte_at s 1)))

-- "L must lie in 4 to 249, as the standard has it"
abbrev pub length_is_standard : List ℕ → Bool
length_is_standard s = leb 4 (byte_at s 1) && leb (byte_at s 1) 249

-- "the fourth byte must be 68"
abbrev pub fourth_is68 : List ℕ → Bool
fourth_is68 s = eqb (byte_at s 3) SD2

-- what strict mode has against the start of these bytes, by its number, "in this order: L, then the fourth byte"; 0 where that is nothing
unfoldable pub start_of : List ℕ → ℕ
start_of s =
    if (not (past_lengths s)) 0
    -- "24, L of 3 or above 249"
    (if (not (length_is_standard s)) 24
    -- "25, fourth byte"
    (if (not (fourth_is68 s)) 25 0))

-- refused for it, "before the total length"; else as the default reads
unfoldable pub strict_of : List ℕ → Reading
strict_of s = if (eqb (start_of s) 0) (read_of s) (refused (start_of s))

-- "Document 01's mode remains the default"
abbrev pub read_in : Mode → List ℕ → Reading
read_in Default = read_of
read_in Strict = strict_of
