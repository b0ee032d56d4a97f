-- What the bytes of the two records have in common.
use Rattle.std.specs.Prelude.{ℕ, ltb}
use Rattle.ground.specs.Pick.{if}

-- the byte of a length that is at most 246; a greater one than a byte holds counts as 255
unfoldable pub length_byte : ℕ → ℕ
length_byte n = if (ltb n 256) n 255
