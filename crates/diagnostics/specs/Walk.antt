-- Document 01, "Diagnostics": the walk, step by step. Read `step_of`, which the promise of a step cites, and `walk_of`, the whole walk, which the
-- theorems are about.
use Rattle.std.specs.Prelude.{ℕ, zero, suc, ◌+◌, ◌-◌, ◌/◌, ◌%◌, List, [], ◌∷◌, length, leb, ltb, eqb}
use Rattle.ground.specs.Pick.{if}
use Rattle.ground.specs.Part.{byte_at, shown_part}
use Rattle.diagnostics.specs.Blocks.{Block, identifier, device, channel}
use Rattle.diagnostics_blocks.specs.Channel.{Channel, channel_of}

-- a block in its place: a body by its start and its length
pub data PlacedBlock : Type 0 where
  identifier_at : ℕ → ℕ → PlacedBlock
  device_at : ℕ → ℕ → PlacedBlock
  channel_is : Channel → PlacedBlock

-- what a step finds: a block, the end, or a refusal by its number
pub data StepAnswer : Type 0 where
  block : PlacedBlock → StepAnswer
  at_end : StepAnswer
  refused : ℕ → StepAnswer

-- a step: what it finds, and the cursor after it
pub record Stepped : Type 0 where
  pub answer : StepAnswer
  pub cursor : ℕ

-- the low six bits are the length, header included; channel, 3 bytes
unfoldable pub length_of : ℕ → ℕ
length_of header = if (eqb (header / 64) 2) 3 (header % 64)

-- top two header bits: 01 identifier, 10 channel, 00 device; a body leaves the header out
unfoldable pub block_at : List ℕ → ℕ → ℕ → PlacedBlock
block_at s at header =
    if (eqb (header / 64) 1) (identifier_at (at + 1) (header % 64 - 1))
    (if (eqb (header / 64) 2) (channel_is (channel_of header (byte_at s (at + 1)) (byte_at s (at + 2))))
    (device_at (at + 1) (header % 64 - 1)))

-- a refusal moves the walk's cursor to the end
abbrev pub refused_at : ℕ → ℕ → Stepped
refused_at number end = record { answer = refused number; cursor = end }

-- 11 reserved: 13; length zero: 14; block cut off: 12; else the block, and the cursor behind it
unfoldable pub headed_by : List ℕ → ℕ → ℕ → Stepped
headed_by s at header =
    if (eqb (header / 64) 3) (refused_at 13 (length s))
    (if (eqb (length_of header) 0) (refused_at 14 (length s))
    (if (ltb (length s) (at + length_of header)) (refused_at 12 (length s))
    (record { answer = block (block_at s at header); cursor = at + length_of header })))

-- a step in what is walked: a cursor at or past the end gives the end and stays
unfoldable pub step_of : List ℕ → ℕ → Stepped
step_of s at = if (leb (length s) at) (record { answer = at_end; cursor = at }) (headed_by s at (byte_at s at))

-- an identifier or device block's body is that part of the walked buffer; the empty part where it does not fit
abbrev pub body_of : List ℕ → ℕ → ℕ → List ℕ
body_of s start size = shown_part (record { start = start; len = size }) s

-- a block with its body's bytes
abbrev pub pictured : List ℕ → PlacedBlock → Block
pictured s (identifier_at start size) = identifier (body_of s start size)
pictured s (device_at start size) = device (body_of s start size)
pictured s (channel_is c) = channel c

-- how a walk ends: at the end of what is walked, or refused with a number
pub data Ending : Type 0 where
  whole : Ending
  broken : ℕ → Ending

-- a walk: its blocks in their order, and how it ends
pub record Walk : Type 0 where
  pub blocks : List Block
  pub ending : Ending

-- what a step's answer puts before the rest of the walk
abbrev pub before : List ℕ → StepAnswer → Walk → Walk
before s (block p) rest = record { blocks = pictured s p ∷ rest.blocks; ending = rest.ending }
before s at_end rest = record { blocks = []; ending = whole }
before s (refused n) rest = record { blocks = []; ending = broken n }

-- at most k steps from a cursor
abbrev pub walk_steps : ℕ → List ℕ → ℕ → Walk
walk_steps zero s at = record { blocks = []; ending = whole }
walk_steps (suc k) s at = before s (step_of s at).answer (walk_steps k s (step_of s at).cursor)

-- the walk from the first byte. Each step takes a byte at least, so more steps would change nothing
unfoldable pub walk_of : List ℕ → Walk
walk_of s = walk_steps (suc (length s)) s 0
