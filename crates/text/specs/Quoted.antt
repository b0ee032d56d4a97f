-- The bytes of a quoted text, so that definitions can quote what documents quote.
use Rattle.std.specs.Prelude.{List, [], ◌∷◌, ℕ}
use Prim.Native.Char.{code}
use Prim.Native.String.{String, [] as end, ◌∷◌ as char}

-- a byte for each character, its ASCII code
abbrev pub bytes_of : String → List ℕ
bytes_of end = []
bytes_of (char c text) = code c ∷ bytes_of text
