-- What the promises say of an answer determines it: each definition of specs/Shown.antt takes different values to different ones, since another
-- function takes each back. Read the laws that end in `-injective`.
use Rattle.std.proofs.Common.{Err, Ok, Result}
use mathlib.Core.Path.{◌≡◌, refl, ap}
use Rattle.ground.proofs.Injective.{injective}
use Rattle.ground.proofs.RefusalLaws.{answer_again, answer_of}
use Rattle.diagnostics_blocks.proofs.Shows.{channel_back, channel_again}
use Rattle.diagnostics.specs.Shown.{shown_block, shown_found, shown_step}
use Rattle.diagnostics.specs.Walk.{StepAnswer, PlacedBlock, Stepped, at_end, block, channel_is, device_at, identifier_at, refused}
use Rattle.diagnostics.specs.declared.walk.ExtDiagBlock.{ExtDiagBlock}
use Rattle.diagnostics.specs.declared.walk.ExtDiagBlock.TheVariants as blocks
use Rattle.diagnostics.specs.declared.walk.Found.{Found}
use Rattle.diagnostics.specs.declared.walk.Found.TheVariants.{Block, End, Refused}
use Rattle.diagnostics.specs.declared.walk.ExtDiagBlockIter.{ExtDiagBlockIter}
use Rattle.ground.specs.declared.returned.Returned.{Returned}
use Rattle.ground.specs.declared.refusal.Refusal.{Refusal}

abbrev block_back : PlacedBlock → ExtDiagBlock
block_back (identifier_at start size) = blocks.Identifier (record { start = start; len = size })
block_back (device_at start size) = blocks.Device (record { start = start; len = size })
block_back (channel_is c) = blocks.Channel (channel_back c)

block_again : (x : ExtDiagBlock) → block_back (shown_block x) ≡ x
block_again (blocks.Identifier body) = refl
block_again (blocks.Device body) = refl
block_again (blocks.Channel c) = ap blocks.Channel (channel_again c)

-- a refusal comes back through the answer that its number stands for
abbrev refusing : Result Unit Refusal → Found
refusing (Ok tt) = End
refusing (Err r) = Refused r

abbrev found_back : StepAnswer → Found
found_back (block p) = Block (block_back p)
found_back at_end = End
found_back (refused n) = refusing (answer_of n)

found_again : (x : Found) → found_back (shown_found x) ≡ x
found_again (Block b) = ap Block (block_again b)
found_again End = refl
found_again (Refused r) = ap refusing (answer_again (Err r))

abbrev step_back : Stepped → Returned Found ExtDiagBlockIter
step_back s = record { answer = found_back s.answer; after = record { cursor = s.cursor } }

step_again : (x : Returned Found ExtDiagBlockIter) → step_back (shown_step x) ≡ x
step_again x = rw (found_again x.answer)

-- what `next` promises fits one answer alone
pub shown_step_injective : (x y : Returned Found ExtDiagBlockIter) → shown_step x ≡ shown_step y → x ≡ y
shown_step_injective = injective shown_step step_back step_again
