-- Document 01, "Diagnostics": what the three bytes of a channel block say. Read `channel_of`, with `type_of` and `error_of`.
use Rattle.std.specs.Prelude.{ℕ, ◌/◌, ◌%◌, Bool, leb, eqb}
use Rattle.ground.specs.Pick.{if}

-- an error's number, with which of the three sorts it is of
pub data Error : Type 0 where
  named : ℕ → Error
  vendor : ℕ → Error
  reserved : ℕ → Error

-- the number of an error, whatever its sort
abbrev pub error_number : Error → ℕ
error_number (named n) = n
error_number (vendor n) = n
error_number (reserved n) = n

-- what a channel block says: a type is a number from 1 to 7, and 7 is Invalid
pub record Channel : Type 0 where
  pub module_no : ℕ
  pub channel_no : ℕ
  pub input : Bool
  pub output : Bool
  pub dtype : ℕ
  pub error : Error

-- third byte top three bits type, 0 and 7 both Invalid
unfoldable pub type_of : ℕ → ℕ
type_of n = if (eqb n 0) 7 n

-- low five bits error: 1 to 9 named, 16 to 31 vendor, 0 and 10 to 15 reserved
unfoldable pub error_of : ℕ → Error
error_of n = if (leb 16 n) (vendor n) (if (eqb n 0) (reserved n) (if (leb n 9) (named n) (reserved n)))

-- module and channel are the low six bits of the first two bytes; second byte bit 6 input, bit 7 output
abbrev pub channel_of : ℕ → ℕ → ℕ → Channel
channel_of first second third = record {
  module_no = first % 64;
  channel_no = second % 64;
  input = eqb (second / 64 % 2) 1;
  output = eqb (second / 128) 1;
  dtype = type_of (third / 32);
  error = error_of (third % 32);
}
