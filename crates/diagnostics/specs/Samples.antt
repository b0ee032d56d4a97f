-- The smallest inputs of the points in which document 01 takes more rows than the standard has: `BeyondTheStandard`.
use Rattle.std.specs.Prelude.{ℕ, Bool, true, false, List, [], ◌∷◌, ◌≡◌}
use Rattle.diagnostics_blocks.specs.Channel.{Error, named, reserved}
use Rattle.diagnostics.specs.Blocks.{Block, RowSays, channel, device, identifier, standard}
use Rattle.diagnostics.specs.Walk.{walk_of, whole}

-- a block of module 0, channel 0
abbrev channel_block : Bool → ℕ → Error → Block
channel_block input dtype error =
    channel (record { module_no = 0; channel_no = 0; input = input; output = false; dtype = dtype; error = error })

-- Bytes that are walked to these blocks and then the end, and that are no row of the standard.
pub record Beyond (s : List ℕ) (bs : List Block) : Type 0 where
  pub is_walked : walk_of s ≡ record { blocks = bs; ending = whole }
  pub no_row : (cs : List Block) → RowSays standard s cs → ⊥

-- The points, one or two inputs each.
pub record BeyondTheStandard : Type 0 where
  pub type_zero : Beyond (0x80 ∷ 0x40 ∷ 0x01 ∷ []) (channel_block true 7 (named 1) ∷ [])
  pub type_seven : Beyond (0x80 ∷ 0x40 ∷ 0xE1 ∷ []) (channel_block true 7 (named 1) ∷ [])
  pub error_zero : Beyond (0x80 ∷ 0x40 ∷ 0x20 ∷ []) (channel_block true 1 (reserved 0) ∷ [])
  pub error_ten : Beyond (0x80 ∷ 0x40 ∷ 0x2A ∷ []) (channel_block true 1 (reserved 10) ∷ [])
  pub no_direction : Beyond (0x80 ∷ 0x00 ∷ 0x21 ∷ []) (channel_block false 1 (named 1) ∷ [])
  pub empty_device : Beyond (0x01 ∷ []) (device [] ∷ [])
  pub empty_identifier : Beyond (0x41 ∷ []) (identifier [] ∷ [])
  pub second_identifier : Beyond (0x42 ∷ 0x00 ∷ 0x42 ∷ 0x00 ∷ []) (identifier (0x00 ∷ []) ∷ identifier (0x00 ∷ []) ∷ [])
