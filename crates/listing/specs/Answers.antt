-- What the two calls answer, and what the buffer holds afterwards. Read `Printed`, which is their promise.
use Rattle.std.specs.Prelude.{◌≡◌, List, ℕ, leb, ltb, length, Err, Ok, Result}
use Rattle.ground.specs.Part.{shown_part}
use Rattle.ground.specs.Pick.{if}
use Rattle.ground.specs.Refusals.{number_of, OrRefused, gives, refused}
use Rattle.text.specs.Placed.{laid}
use Rattle.telegram_strict.specs.declared.strict.Mode.{Mode}
use Rattle.telegram_strict.specs.declared.strict.Mode.TheVariants.{Default}
use Rattle.listing.specs.Listing.{listing_in}
use Rattle.ground.specs.declared.refusal.Refusal.{Refusal}

-- an answer as the length of the text, or document 01's number
abbrev pub shown_listed : Result ℕ Refusal → OrRefused ℕ
shown_listed (Ok len) = gives len
shown_listed (Err refusal) = refused (number_of refusal)

-- the text that stands in the buffer: the part in front of its length; of a refused call, the part of no bytes
abbrev pub text_in : Result ℕ Refusal → List ℕ → List ℕ
text_in (Ok len) buffer = shown_part (record { start = 0; len = len }) buffer
text_in (Err refusal) buffer = shown_part (record { start = 0; len = 0 }) buffer

-- a text is printed into a buffer that has room for it: "10: buffer too short"
unfoldable pub printed_of : List ℕ → ℕ → OrRefused ℕ
printed_of text room = if (leb (length text) room) (gives (length text)) (refused 10)

-- `list_in`: "22: lister input above 4,096 bytes", else its listing is printed
unfoldable pub list_in : Mode → List ℕ → ℕ → OrRefused ℕ
list_in mode input room = if (ltb 4096 (length input)) (refused 22) (printed_of (listing_in mode input) room)

-- `list`: the same in document 01's mode
abbrev pub list_of : List ℕ → ℕ → OrRefused ℕ
list_of input room = list_in Default input room

-- a text that was printed stands at the front of the buffer, and the bytes past it stay; a refusal leaves all of them
abbrev pub left_by : List ℕ → List ℕ → OrRefused ℕ → List ℕ
left_by before text (gives len) = laid before 0 text
left_by before text (refused number) = before

-- a call's promise: its answer, and every byte of the buffer afterwards
pub record Printed (text before : List ℕ) (outcome : OrRefused ℕ) (answer : Result ℕ Refusal) (after : List ℕ) : Type 0 where
  pub result : shown_listed answer ≡ outcome
  pub buffer : after ≡ left_by before text outcome
