-- What ends a walk before its bytes do. Document 01: "12, 13, 14 | block cut off; reserved header; length zero". Read `Fault` and `Broken`. What
-- the standard says of bytes that are no row is not known here.
use Rattle.std.specs.Prelude.{ℕ, ◌+◌, ◌≤◌, ◌<◌, List, ◌∷◌, ◌++◌, ◌≡◌, length}
use Rattle.diagnostics.specs.Blocks.{Block, Says, RowSays, document01}

-- A block cut off: the front of a block, of a byte at least, of which a byte at least is missing.
pub record CutOff (s : List ℕ) : Type 0 where
  pub block : Block
  pub bytes : List ℕ
  pub missing : List ℕ
  pub says : Says document01 bytes block
  pub front : bytes ≡ s ++ missing
  pub begun : 1 ≤ length s
  pub short : 1 ≤ length missing

-- Bytes that begin with a fault, by its number. No two fit the same bytes (proofs/Theorems.antt: `one_fault`), so that there is no order among them.
pub data Fault : List ℕ → ℕ → Type 0 where
  block_cut_off : {s : List ℕ} → CutOff s → Fault s 12
  -- top two header bits 11
  reserved_header : {low : ℕ} {rest : List ℕ} → low < 64 → Fault ((192 + low) ∷ rest) 13
  -- a device or an identifier header whose low six bits are 0
  device_zero : {rest : List ℕ} → Fault (0 ∷ rest) 14
  identifier_zero : {rest : List ℕ} → Fault (64 ∷ rest) 14

-- A row of blocks, and then bytes that begin with a fault.
pub record Broken (s : List ℕ) (bs : List Block) (n : ℕ) : Type 0 where
  pub front : List ℕ
  pub rest : List ℕ
  pub row : RowSays document01 front bs
  pub fault : Fault rest n
  pub bytes : s ≡ front ++ rest
