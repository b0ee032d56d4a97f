-- Bytes as hexadecimal digits. Read `hex_of`.
use Rattle.std.specs.Prelude.{ℕ, ◌+◌, ◌-◌, ◌/◌, ◌%◌, List, [], ◌∷◌, ◌++◌, ltb}
use Rattle.ground.specs.Pick.{if}

-- '0' to '9' are the bytes from 48 on, 'A' to 'F' those from 65 on
unfoldable pub hex_digit : ℕ → ℕ
hex_digit d = if (ltb d 10) (48 + d) (65 + (d - 10))

-- the two digits of a byte
abbrev pub hex_byte : ℕ → List ℕ
hex_byte b = hex_digit (b / 16) ∷ hex_digit (b % 16) ∷ []

-- two digits for each byte, the high one first
abbrev pub hex_of : List ℕ → List ℕ
hex_of [] = []
hex_of (b ∷ bs) = hex_byte b ++ hex_of bs
