-- Delimiters (EN 50170 part 2 / IEC 61158), as document 01 lists them. The code names them in src/consts.rt.
use Rattle.std.specs.Prelude.{ℕ}

abbrev pub SD1 : ℕ
SD1 = 0x10

abbrev pub SD2 : ℕ
SD2 = 0x68

abbrev pub SD3 : ℕ
SD3 = 0xA2

abbrev pub SD4 : ℕ
SD4 = 0xDC

abbrev pub SC : ℕ
SC = 0xE5

abbrev pub ED : ℕ
ED = 0x16
