-- The link's bit is the frame count bit of telegrams with FCV set, and cycles as that does: "First to Low, High to Low, Low to High".
use mathlib.Core.Path.{◌≡◌, refl}
use Rattle.codes.specs.FrameCountBits.{cycle_of}
use Rattle.ground.specs.Refusals.{gives}
use Rattle.codes.specs.declared.frame_count_bit.FrameCountBit.TheVariants.{First}
use Rattle.link_telegrams.specs.Headers.{fcb_of_bit, cycled_bit}
use Rattle.link_telegrams.specs.declared.headers.Bit.{Bit}
use Rattle.link_telegrams.specs.declared.headers.Bit.TheVariants.{Low, High}

-- after an opening
pub first_cycles_to_low : cycle_of First ≡ gives (fcb_of_bit Low)
first_cycles_to_low = refl

-- after an order
pub bits_cycle : (b : Bit) → cycle_of (fcb_of_bit b) ≡ gives (fcb_of_bit (cycled_bit b))
bits_cycle Low = refl
bits_cycle High = refl
