-- What private functions promise each other. Nothing here has to be believed: no promise of a public call cites it.
use Rattle.std.specs.Prelude.{List, ℕ, eqb, length, drop}
use Rattle.ground.specs.Pick.{if}
use Rattle.telegram.specs.Reading.{Reading, whole, incomplete, refused}
use Rattle.telegram.specs.Stream.{stream_at}
use Rattle.telegram_strict.specs.Strict.{read_in}
use Rattle.telegram_strict.specs.declared.strict.Mode.{Mode}
use Rattle.listing_lines.specs.declared.line.End.TheVariants.{Done, Incomplete, Refused}
use Rattle.listing_lines.specs.declared.line.Item.{Item}
use Rattle.listing_lines.specs.declared.line.Item.TheVariants.{Telegram, Last}
use Rattle.listing.specs.Listing.{stream_text}
use Rattle.listing.specs.Telegrams.{line_at}

-- the item at a place, by what the reader answers there
abbrev pub item_read : ℕ → List ℕ → Reading → Item
item_read at s (whole t n) = Telegram (line_at at s t n)
item_read at s incomplete = Last Incomplete at
item_read at s (refused number) = Last (Refused number) at

-- the item at a place, where s is the input from there on
unfoldable pub item_of : Mode → ℕ → List ℕ → Item
item_of mode at s = if (eqb (length s) 0) (Last Done at) (item_read at s (read_in mode s))

-- the lines from a place of the input on
abbrev pub lines_at : Mode → List ℕ → ℕ → List ℕ
lines_at mode input at = stream_text input (stream_at (read_in mode) at (drop at input))
