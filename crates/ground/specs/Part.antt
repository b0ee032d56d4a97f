-- A part of a list of bytes, `part`, the byte at a place of it, and what is shown of a part by its start and length, `shown_part`.
use Rattle.std.specs.Prelude.{ℕ, ◌+◌, ◌-◌, List, leb, length, take, drop, get_or}
use Rattle.ground.specs.Pick.{if}
use Rattle.ground.specs.declared.part.Part.{Part}

-- what stands from one place up to below another: what `&s[from..to]` gives
abbrev pub part : List ℕ → ℕ → ℕ → List ℕ
part s from to = take (to - from) (drop from s)

-- the byte at a place
abbrev pub byte_at : List ℕ → ℕ → ℕ
byte_at s at = get_or s at 0

-- "a call that shows the part, or an empty part at the end of the bytes where it does not fit them"
unfoldable pub shown_part : Part → List ℕ → List ℕ
shown_part p s =
    if (leb (p.start + p.len) (length s)) (part s p.start (p.start + p.len)) (part s (length s) (length s))
