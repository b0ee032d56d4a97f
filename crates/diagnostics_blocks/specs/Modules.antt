-- Document 01, "Diagnostics": the bits of an identifier block's body. Read `bit_of` and `first_of`.
use Rattle.std.specs.Prelude.{ℕ, zero, suc, ◌-◌, ◌*◌, ◌/◌, ◌%◌, ◌^◌, Bool, List, length, leb, eqb, Option, Some, None}
use Rattle.ground.specs.Pick.{if}
use Rattle.ground.specs.Part.{byte_at}

-- identifier bits: byte i/8 after the header, lowest bit first
unfoldable pub bit_of : List ℕ → ℕ → Bool
bit_of body i = eqb (byte_at body (i / 8) / 2 ^ (i % 8) % 2) 1

-- the modules that have a bit, eight a byte; a module's number is below 2 ^ 64
unfoldable pub modules_of : List ℕ → ℕ
modules_of body = if (leb (2 ^ 61) (length body)) (2 ^ 64) (8 * length body)

-- the first of k modules from a number that is set
abbrev pub first_of_next : List ℕ → ℕ → ℕ → Option ℕ
first_of_next body zero from = None
first_of_next body (suc k) from = if (bit_of body from) (Some from) (first_of_next body k (suc from))

-- the first module set at or above a number
unfoldable pub first_of : List ℕ → ℕ → Option ℕ
first_of body from = first_of_next body (modules_of body - from) from
