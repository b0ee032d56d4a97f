-- Document 01, "Reading a telegram": which byte strings are refused, and with which number, `Refuses`. Each constructor says what is wrong, and what
-- is looked at before it and is right. It knows no reader: a function code is told by its bytes (`CodeRead`).
use Rattle.std.specs.Prelude.{ℕ, ◌+◌, ◌<◌, ◌≤◌, List, ◌≡◌, length}
use Rattle.codes.specs.Checksums.{checksum_of}
use Rattle.codes.specs.Delimiters.{SD1, SD2, SD3, SD4, SC, ED}
use Rattle.codes.specs.FunctionCodes.{CodeRead}
use Rattle.codes.specs.declared.function_code.FunctionCode.{FunctionCode}
use Rattle.ground.specs.Part.{part, byte_at}
use Rattle.telegram.specs.Reading.{saps_at}

-- A byte that is none of the five that begin a telegram.
pub record Unknown (b : ℕ) : Type 0 where
  pub not_sc : b ≡ SC → ⊥
  pub not_sd4 : b ≡ SD4 → ⊥
  pub not_sd1 : b ≡ SD1 → ⊥
  pub not_sd2 : b ≡ SD2 → ⊥
  pub not_sd3 : b ≡ SD3 → ⊥

-- A data telegram's bytes are all there: where da stands, and how many bytes there are from there through the PDU.
pub data Framed (s : List ℕ) : ℕ → ℕ → Type 0 where
  framed_sd1 : byte_at s 0 ≡ SD1 → 6 ≤ length s → Framed s 1 3
  framed_sd2 : byte_at s 0 ≡ SD2 → byte_at s 1 ≡ byte_at s 2 → 3 ≤ byte_at s 1 → byte_at s 1 + 6 ≤ length s → Framed s 4 (byte_at s 1)
  framed_sd3 : byte_at s 0 ≡ SD3 → 14 ≤ length s → Framed s 1 11

-- The byte is that of a function code.
pub record Coded (b : ℕ) : Type 0 where
  pub fc : FunctionCode
  pub its_byte : CodeRead fc b

pub data Refuses (s : List ℕ) : ℕ → Type 0 where
  -- "Others unknown: 1"
  unknown_start : 1 ≤ length s → Unknown (byte_at s 0) → Refuses s 1
  -- "SD2: second and third byte differ: 2"
  lengths_unequal : 6 ≤ length s → byte_at s 0 ≡ SD2 → (byte_at s 1 ≡ byte_at s 2 → ⊥) → Refuses s 2
  -- "length byte L below 3: 3"
  length_too_small : 6 ≤ length s → byte_at s 0 ≡ SD2 → byte_at s 1 ≡ byte_at s 2 → byte_at s 1 < 3 → Refuses s 3
  -- "function code: 4"
  no_code : {at l : ℕ} → Framed s at l → (Coded (byte_at s (at + 2)) → ⊥) → Refuses s 4
  -- "da with top bit needs a DSAP byte, sa with top bit then an SSAP byte; none left in the content: 5"
  no_sap : {at l : ℕ} → Framed s at l → Coded (byte_at s (at + 2)) → l < 3 + saps_at s at → Refuses s 5
  -- "checksum: 6": "the sum modulo 256 from da through the PDU"
  other_sum :
      {at l : ℕ} → Framed s at l → Coded (byte_at s (at + 2)) → 3 + saps_at s at ≤ l
      → (byte_at s (at + l) ≡ checksum_of (part s at (at + l)) → ⊥)
      → Refuses s 6
  -- "end delimiter: 7"
  other_end :
      {at l : ℕ} → Framed s at l → Coded (byte_at s (at + 2)) → 3 + saps_at s at ≤ l
      → byte_at s (at + l) ≡ checksum_of (part s at (at + l)) → (byte_at s (at + l + 1) ≡ ED → ⊥)
      → Refuses s 7
