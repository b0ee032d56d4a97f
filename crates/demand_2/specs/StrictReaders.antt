-- Request 2026-05 of any reader in strict mode, `IsStrictReader`, in the words of `IsReader`: what it reads, what it calls incomplete and what it refuses,
-- for every byte string. No two answer differently (`one_strict_reader` of proofs/OurStrictReader.antt). Demand 2's reader is the default.
use Rattle.std.specs.Prelude.{ℕ, ◌<◌, List, ◌⊎◌, ◌↔◌, ◌≡◌, length}
use Rattle.telegram.specs.Asked.{asked_of}
use Rattle.telegram.specs.Begins.{Bytes, strict, Begins}
use Rattle.telegram.specs.Reading.{Reading, whole, incomplete, refused}
use Rattle.telegram.specs.Refused.{Refuses}
use Rattle.telegram.specs.declared.kinds.Telegram.{Telegram}
use Rattle.telegram_strict.specs.Sloppy.{Sloppy, Neat}

pub record IsStrictReader (read : List ℕ → Reading) : Type 0 where
  -- A telegram is read exactly where the bytes begin with the picture of it under the strict rules.
  pub telegrams : (s : List ℕ) (t : Telegram) (n : ℕ) → Bytes s → read s ≡ whole t n ↔ Begins strict s t n
  -- Bytes are incomplete exactly where there are fewer than they ask for and nothing is wrong with their start: "before the total length".
  pub incompletes : (s : List ℕ) → Bytes s → read s ≡ incomplete ↔ ((length s < asked_of s) × Neat s)
  -- They are refused for what is wrong with their start, and where nothing is, as document 01 refuses.
  pub refusals : (s : List ℕ) (number : ℕ) → Bytes s → read s ≡ refused number ↔ (Sloppy s number ⊎ (Refuses s number × Neat s))
