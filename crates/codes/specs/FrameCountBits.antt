-- Document 01, "Function code": the frame count bit, `frame_count_bit_of`, and its cycle, `cycle_of`.
use Rattle.std.specs.Prelude.{Bool, true, false, Err, Ok, Result}
use Rattle.ground.specs.Refusals.{OrRefused, gives, refused, number_of}
use Rattle.codes.specs.declared.frame_count_bit.FrameCountBit.{FrameCountBit}
use Rattle.codes.specs.declared.frame_count_bit.FrameCountBit.TheVariants.{First, High, Low, Inactive}
use Rattle.ground.specs.declared.refusal.Refusal.{Refusal}

-- (FCV, FCB) = (0,0) Inactive, (0,1) First, (1,1) High, (1,0) Low
abbrev pub frame_count_bit_of : Bool → Bool → FrameCountBit
frame_count_bit_of false false = Inactive
frame_count_bit_of false true = First
frame_count_bit_of true true = High
frame_count_bit_of true false = Low

-- the same read the other way: FCV of a bit, and its FCB
abbrev pub fcv_of : FrameCountBit → Bool
fcv_of Inactive = false
fcv_of First = false
fcv_of High = true
fcv_of Low = true

abbrev pub fcb_of : FrameCountBit → Bool
fcb_of Inactive = false
fcb_of First = true
fcb_of High = true
fcb_of Low = false

-- "Cycle: First to Low, High to Low, Low to High, Inactive refused" (15)
abbrev pub cycle_of : FrameCountBit → OrRefused FrameCountBit
cycle_of First = gives Low
cycle_of High = gives Low
cycle_of Low = gives High
cycle_of Inactive = refused 15

-- what `cycle` answers, with document 01's number
abbrev pub shown_cycled : Result FrameCountBit Refusal → OrRefused FrameCountBit
shown_cycled (Ok bit) = gives bit
shown_cycled (Err refusal) = refused (number_of refusal)
