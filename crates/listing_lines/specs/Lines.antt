-- Document 01, "The lister": a line of the text, from its figures to its bytes. Read `line_of` and `end_of`, which `item_text` cites. Each field stands in brackets of its
-- own.
use Rattle.std.specs.Prelude.{List, ◌++◌, ℕ, None, Option, Some}
use Rattle.telegram.specs.Stream.{Ending, done, incomplete, refused}
use Rattle.text.specs.Decimal.{decimal_of}
use Rattle.text.specs.Quoted.{bytes_of}
use Rattle.listing_lines.specs.declared.line.End.{End}
use Rattle.listing_lines.specs.declared.line.End.TheVariants.{Done, Incomplete, Refused}
use Rattle.listing_lines.specs.declared.line.Item.{Item}
use Rattle.listing_lines.specs.declared.line.Item.TheVariants.{Telegram, Last}
use Rattle.listing_lines.specs.declared.line.Kind.{Kind}
use Rattle.listing_lines.specs.declared.line.Kind.TheVariants.{Ack, Token, Data}
use Rattle.listing_lines.specs.declared.line.Line.{Line}

-- "Numbers decimal; … `-` absent"
abbrev pub figure_of : Option ℕ → List ℕ
figure_of (Some n) = decimal_of n
figure_of None = bytes_of "-"

-- the kinds: ack, token, data
abbrev pub kind_field : Kind → List ℕ
kind_field Ack = bytes_of " kind=ack"
kind_field Token = bytes_of " kind=token"
kind_field Data = bytes_of " kind=data"

-- "`at` start, `len` telegram length"
unfoldable pub place_of : Line → List ℕ
place_of l = (bytes_of "at=" ++ decimal_of l.at) ++ kind_field l.kind ++ (bytes_of " len=" ++ decimal_of l.len)

-- the addresses and the SAPs
unfoldable pub header_of : Line → List ℕ
header_of l =
    (bytes_of " da=" ++ figure_of l.da)
    ++ (bytes_of " sa=" ++ figure_of l.sa)
    ++ (bytes_of " dsap=" ++ figure_of l.dsap)
    ++ (bytes_of " ssap=" ++ figure_of l.ssap)

-- the function code and the PDU's length, at the end of the line
unfoldable pub content_of : Line → List ℕ
content_of l = (bytes_of " fc=" ++ figure_of l.fc) ++ (bytes_of " pdu=" ++ figure_of l.pdu) ++ bytes_of "\n"

-- "a line per telegram"
unfoldable pub line_of : Line → List ℕ
line_of l = place_of l ++ header_of l ++ content_of l

-- the ends: done, incomplete, refused-N
abbrev pub end_name : Ending → List ℕ
end_name done = bytes_of "end=done"
end_name incomplete = bytes_of "end=incomplete"
end_name (refused n) = bytes_of "end=refused-" ++ decimal_of n

-- "`end=incomplete at=P`, `end=refused-N at=P`", and "end=done at=10"
unfoldable pub end_of : Ending → ℕ → List ℕ
end_of ending at = end_name ending ++ (bytes_of " at=" ++ decimal_of at) ++ bytes_of "\n"

-- an end of the code, as the stream's
abbrev pub shown_end : End → Ending
shown_end Done = done
shown_end Incomplete = incomplete
shown_end (Refused number) = refused number

-- the line of an item
abbrev pub item_text : Item → List ℕ
item_text (Telegram line) = line_of line
item_text (Last end at) = end_of (shown_end end) at
