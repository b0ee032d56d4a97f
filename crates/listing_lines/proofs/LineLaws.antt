-- Laws of a line: its pieces placed one behind the other, and how long it is.
use Rattle.std.proofs.Common.{Some, ℕ}
use mathlib.Core.Path.{◌≡◌}
use Prim.Native.Nat.{ℕ, ◌+◌, ◌≤◌, ◌<◌}
use native.Mathlib.Omega.{arith}
use lib.ListN.{length, length-append}
use Rattle.telegram.specs.Stream.{Ending}
use Rattle.text.specs.Decimal.{decimal_of}
use Rattle.text.proofs.DecimalLaws.{decimal_length}
use Rattle.listing_lines.specs.declared.line.Kind.{Kind}
use Rattle.listing_lines.specs.declared.line.Kind.TheVariants.{Ack, Token, Data}
use Rattle.listing_lines.specs.declared.line.Line.{Line}
use Rattle.listing_lines.specs.Lines.{figure_of, kind_field, place_of, header_of, content_of, line_of, end_name, end_of}

-- ---- lengths

-- the names, and the line feed, have 38 bytes
pub line_length : (l : Line)
    → length (line_of l)
    ≡ 38 + length (decimal_of l.at) + length (kind_field l.kind) + length (decimal_of l.len) + length (figure_of l.da)
    + length (figure_of l.sa) + length (figure_of l.dsap) + length (figure_of l.ssap) + length (figure_of l.fc) + length (figure_of l.pdu)
unfolding line_of place_of header_of content_of
line_length l = simp length-append (omega arith)

kind_length : (k : Kind) → length (kind_field k) ≤ 11
kind_length Ack = omega arith
kind_length Token = omega arith
kind_length Data = omega arith

pub figure_length : (n : ℕ) → n < 1000 → length (figure_of (Some n)) ≤ 3
figure_length n h = decimal_length 2 n (omega arith)

pub four_digits : (n : ℕ) → n < 10000 → length (decimal_of n) ≤ 4
four_digits n h = decimal_length 3 n (omega arith)

-- a line of a telegram that lies within the first 10,000 bytes, with figures of at most 3 digits
pub record Short (l : Line) : Type 0 where
  pub at : l.at < 10000
  pub len : l.len < 1000
  pub da : length (figure_of l.da) ≤ 3
  pub sa : length (figure_of l.sa) ≤ 3
  pub dsap : length (figure_of l.dsap) ≤ 3
  pub ssap : length (figure_of l.ssap) ≤ 3
  pub fc : length (figure_of l.fc) ≤ 3
  pub pdu : length (figure_of l.pdu) ≤ 3

pub line_short : (l : Line) → Short l → length (line_of l) ≤ 74
line_short l s =
    omega (arith, line_length l, kind_length l.kind, four_digits l.at s.at, figure_length l.len s.len)

pub end_length : (ending : Ending) (at : ℕ) → length (end_of ending at) ≡ 5 + length (end_name ending) + length (decimal_of at)
unfolding end_of
end_length ending at = simp length-append (omega arith)
