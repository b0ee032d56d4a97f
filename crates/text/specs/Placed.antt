-- What a call leaves that lays bytes into a lent buffer at a place. Read `Placed`.
use Rattle.std.specs.Prelude.{◌≡◌, List, ℕ, ◌+◌, min, length}
use Rattle.std.proofs.lemmas.List.Edits.{sets}

-- the buffer with the bytes stored one by one from a place on; a store beyond the end changes nothing
abbrev pub laid : List ℕ → ℕ → List ℕ → List ℕ
laid buffer at bytes = sets buffer at bytes

-- the place behind the bytes, or one past the buffer's end where they reach beyond it
abbrev pub behind : List ℕ → ℕ → List ℕ → ℕ
behind buffer at bytes = min (at + length bytes) (length buffer + 1)

-- the bytes were laid into the buffer `before` from `at` on: the place answered, and every byte of the buffer afterwards
pub record Placed (before : List ℕ) (at : ℕ) (bytes : List ℕ) (next : ℕ) (after : List ℕ) : Type 0 where
  pub place : next ≡ behind before at bytes
  pub buffer : after ≡ laid before at bytes
