-- Document 01, "The lister": the whole text, which is that of the input's stream. Read `listing_of` and `output_of`; in strict mode (request 2026-05) the
-- same lines are those of the strict stream: `listing_in` and `output_in`.
use Rattle.std.specs.Prelude.{List, [], ◌∷◌, ◌++◌, ℕ, ◌+◌, ◌*◌, ltb, length, drop}
use Rattle.ground.specs.Pick.{if}
use Rattle.telegram.specs.Stream.{Event, Stream, stream_by}
use Rattle.telegram_strict.specs.Strict.{read_in}
use Rattle.telegram_strict.specs.declared.strict.Mode.{Mode}
use Rattle.telegram_strict.specs.declared.strict.Mode.TheVariants.{Default}
use Rattle.text.specs.Decimal.{decimal_of}
use Rattle.text.specs.Quoted.{bytes_of}
use Rattle.listing_lines.specs.declared.line.Line.{Line}
use Rattle.listing_lines.specs.Lines.{line_of, end_of}
use Rattle.listing.specs.Telegrams.{line_at}

-- the line of a telegram of the stream; its `fc` is taken from the input
abbrev pub event_line : List ℕ → Event → Line
event_line input event = line_at event.at (drop event.at input) event.telegram event.len

-- "a line per telegram"
abbrev pub lines_of : List ℕ → List Event → List ℕ
lines_of input [] = []
lines_of input (event ∷ more) = line_of (event_line input event) ++ lines_of input more

-- the text of a stream: a line per telegram, and the end
unfoldable pub stream_text : List ℕ → Stream → List ℕ
stream_text input stream = lines_of input stream.telegrams ++ end_of stream.ending stream.at

-- "prints `bytes`": the input's length
unfoldable pub bytes_line : List ℕ → List ℕ
bytes_line input = (bytes_of "bytes=" ++ decimal_of (length input)) ++ bytes_of "\n"

-- "prints `bytes`, a line per telegram", and the end, as a mode reads the input
unfoldable pub listing_in : Mode → List ℕ → List ℕ
listing_in mode input = bytes_line input ++ stream_text input (stream_by (read_in mode) input)

-- document 01's
abbrev pub listing_of : List ℕ → List ℕ
listing_of input = listing_in Default input

-- "Refusal 22 prints `refused=22` alone"
abbrev pub refused_line : List ℕ
refused_line = bytes_of "refused=22\n"

-- what the lister prints; "lister input above 4,096 bytes: 22"
unfoldable pub output_in : Mode → List ℕ → List ℕ
output_in mode input = if (ltb 4096 (length input)) refused_line (listing_in mode input)

-- document 01's
abbrev pub output_of : List ℕ → List ℕ
output_of input = output_in Default input

-- room for every text: 58 bytes for each of 4,096 short confirmations, 11 for the first line and 17 for the last
abbrev pub listing_room : ℕ
listing_room = 58 * 4096 + 11 + 17
