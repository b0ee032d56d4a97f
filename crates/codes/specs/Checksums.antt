-- Document 01: "The checksum is the sum modulo 256": `checksum_of`.
use Rattle.std.specs.Prelude.{ℕ, ◌+◌, ◌%◌, List, [], ◌∷◌}

unfoldable pub sum_of : List ℕ → ℕ
sum_of [] = 0
sum_of (x ∷ xs) = x + sum_of xs

unfoldable pub checksum_of : List ℕ → ℕ
checksum_of s = sum_of s % 256
