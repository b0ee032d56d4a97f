-- The frame of a data telegram: document 01, "Reading a telegram", up to step 3, with the place, the lengths and the code byte that
-- the later steps judge. Read from `framing_of` back, then `sealed_of`. (Reading.antt has all steps; that the reader's answer is made
-- from the frame is `framed_read` in proofs/FrameLaws.antt.)
use Rattle.std.specs.Prelude.{ℕ, ◌+◌, Bool, false, not, List, eqb, ltb, length}
use Rattle.codes.specs.Checksums.{checksum_of}
use Rattle.codes.specs.Delimiters.{SD1, SD2, ED}
use Rattle.ground.specs.Part.{part, byte_at}
use Rattle.ground.specs.Pick.{if}
use Rattle.ground.specs.Refusals.{number_of}
use Rattle.telegram.specs.Reading.{starts_data}
use Rattle.telegram.specs.declared.frame.Frame.{Frame}
use Rattle.telegram.specs.declared.frame.FrameFound.{FrameFound}
use Rattle.telegram.specs.declared.frame.FrameFound.TheVariants as frameFound

-- the three-way answer: a frame, incomplete, or a refusal's number
pub data Framing : Type 0 where
  frame_is : Frame → Framing
  frame_incomplete : Framing
  frame_refused : ℕ → Framing

-- what `frame_of` answers, with document 01's number
abbrev pub shown_frame : FrameFound → Framing
shown_frame (frameFound.Is f) = frame_is f
shown_frame frameFound.Incomplete = frame_incomplete
shown_frame (frameFound.Refused refusal) = frame_refused (number_of refusal)

-- the frame whose da stands at a place, with l bytes from there through the PDU; checksum and end delimiter stand behind them
abbrev pub frame_at : List ℕ → ℕ → ℕ → Frame
frame_at s at l = record { at = at; len = l; total = at + l + 2; code = byte_at s (at + 2) }

-- "3. under the total: incomplete"
unfoldable pub framing_at : List ℕ → ℕ → ℕ → Framing
framing_at s at l = if (ltb (length s) (at + l + 2)) frame_incomplete (frame_is (frame_at s at l))

-- "2. SD2: second and third byte differ: 2; length byte L below 3: 3"
unfoldable pub framing_lengths : List ℕ → Framing
framing_lengths s =
    if (not (eqb (byte_at s 1) (byte_at s 2))) (frame_refused 2)
    (if (ltb (byte_at s 1) 3) (frame_refused 3) (framing_at s 4 (byte_at s 1)))

-- "1. under 6 bytes: incomplete"; "Totals: SD1 6, SD3 14, SD2 L + 6"
unfoldable pub framing_data : List ℕ → Framing
framing_data s =
    if (ltb (length s) 6) frame_incomplete
    (if (eqb (byte_at s 0) SD1) (framing_at s 1 3) (if (eqb (byte_at s 0) SD2) (framing_lengths s) (framing_at s 1 11)))

-- "From the first byte: nothing, incomplete. … SD1, SD2, SD3"; any other start is none of a data telegram: 1
unfoldable pub framing_of : List ℕ → Framing
framing_of s =
    if (eqb (length s) 0) frame_incomplete (if (starts_data (byte_at s 0)) (framing_data s) (frame_refused 1))

-- whether checksum and end delimiter, the two bytes behind a frame's `len`, hold; a frame that these bytes cannot have is not sealed
unfoldable pub sealed_of : Frame → List ℕ → Bool
sealed_of f s =
    if (ltb (length s) (f.at + f.len + 2)) false
    (if (eqb (byte_at s (f.at + f.len + 1)) ED)
    (eqb (byte_at s (f.at + f.len)) (checksum_of (part s f.at (f.at + f.len))))
    false)
