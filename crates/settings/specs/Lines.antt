-- Document 01, "Settings text": a line `name=number` ended by a line feed, "decimal 0 to 255 without leading zeros". Read `line_of`, a line as it is
-- written, and `line_at`, the line that is read at a place.
use Rattle.std.specs.Prelude.{List, ◌++◌, ℕ, ◌+◌, length, drop, Option, Some, None}
use Rattle.ground.specs.Pick.{if}
use Rattle.text.specs.declared.decimal.Number.{Number}
use Rattle.text.specs.Begins.{begins}
use Rattle.text.specs.Decimal.{decimal_of, number_at}
use Rattle.text.specs.Quoted.{bytes_of}
use Rattle.settings.specs.declared.line.Line.{Line}

-- the names of the numbers, each with its `=`
abbrev pub own= : List ℕ
own= = bytes_of "own="

abbrev pub peer= : List ℕ
peer= = bytes_of "peer="

abbrev pub tries= : List ℕ
tries= = bytes_of "tries="

-- the end of a line
abbrev pub line_feed : List ℕ
line_feed = bytes_of "\n"

-- the line of a number, whose name is given with its `=`
unfoldable pub line_of : List ℕ → ℕ → List ℕ
line_of name n = name ++ decimal_of n ++ line_feed

-- a number that is read in a line, and the place behind its line feed
abbrev pub line_is : ℕ → ℕ → Option Line
line_is n next = Some (record { value = n; next = next })

-- the number, where it is ended by a line feed
abbrev pub ended_of : List ℕ → Option Number → Option Line
ended_of text (Some n) = if (begins line_feed (drop n.next text)) (line_is n.value (n.next + 1)) None
ended_of text None = None

-- the line at a place of the text: its name, a number from 0 to 255, a line feed; and the place behind it
unfoldable pub line_at : List ℕ → List ℕ → ℕ → Option Line
line_at name text at =
    if (begins name (drop at text)) (ended_of text (number_at text (at + length name) 255)) None
