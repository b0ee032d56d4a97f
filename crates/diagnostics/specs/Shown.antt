-- The numbers and values of document 01 for each case of the code's answers. The names are those of profirust.
use Rattle.ground.specs.Refusals.{number_of}
use Rattle.diagnostics_blocks.specs.Shown.{shown_channel}
use Rattle.diagnostics.specs.Walk.{StepAnswer, PlacedBlock, Stepped, at_end, block, channel_is, device_at, identifier_at, refused}
use Rattle.diagnostics.specs.declared.walk.ExtDiagBlock.{ExtDiagBlock}
use Rattle.diagnostics.specs.declared.walk.ExtDiagBlock.TheVariants as blocks
use Rattle.diagnostics.specs.declared.walk.Found.{Found}
use Rattle.diagnostics.specs.declared.walk.Found.TheVariants.{Block, End, Refused}
use Rattle.diagnostics.specs.declared.walk.ExtDiagBlockIter.{ExtDiagBlockIter}
use Rattle.ground.specs.declared.returned.Returned.{Returned}

abbrev pub shown_block : ExtDiagBlock → PlacedBlock
shown_block (blocks.Identifier body) = identifier_at body.start body.len
shown_block (blocks.Channel c) = channel_is (shown_channel c)
shown_block (blocks.Device body) = device_at body.start body.len

abbrev pub shown_found : Found → StepAnswer
shown_found (Block b) = block (shown_block b)
shown_found End = at_end
shown_found (Refused refusal) = refused (number_of refusal)

abbrev pub shown_step : Returned Found ExtDiagBlockIter → Stepped
shown_step step = record { answer = shown_found step.answer; cursor = step.after.cursor }
