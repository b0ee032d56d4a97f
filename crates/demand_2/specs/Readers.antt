-- Demand 2 of any reader, `IsReader`: what it reads, what it calls incomplete and what it refuses, for every byte string. No two readers answer
-- differently (`one_reader` of proofs/OurReader.antt).
use Rattle.std.specs.Prelude.{ℕ, ◌<◌, List, ◌↔◌, ◌≡◌, length}
use Rattle.telegram.specs.Asked.{asked_of}
use Rattle.telegram.specs.Begins.{Bytes, document01, Begins}
use Rattle.telegram.specs.Reading.{Reading, whole, incomplete, refused}
use Rattle.telegram.specs.Refused.{Refuses}
use Rattle.telegram.specs.declared.kinds.Telegram.{Telegram}

pub record IsReader (read : List ℕ → Reading) : Type 0 where
  -- A telegram is read exactly where the bytes begin with the picture of it, drawn by the standard or wider in the points of document 01.
  pub telegrams : (s : List ℕ) (t : Telegram) (n : ℕ) → Bytes s → read s ≡ whole t n ↔ Begins document01 s t n
  -- Bytes are incomplete exactly where there are fewer than they themselves ask for.
  pub incompletes : (s : List ℕ) → Bytes s → read s ≡ incomplete ↔ length s < asked_of s
  -- They are refused with a number exactly where document 01 gives it.
  pub refusals : (s : List ℕ) (number : ℕ) → Bytes s → read s ≡ refused number ↔ Refuses s number
