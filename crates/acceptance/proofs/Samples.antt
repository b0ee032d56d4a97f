-- The samples of document 01 that are marked P, computed on the definitions that the promises cite.
use mathlib.Core.Path.{refl}
use Rattle.acceptance.specs.Samples.{Samples}
use Rattle.codes.specs.Checksums.{sum_of, checksum_of}
use Rattle.codes.specs.FunctionCodes.{function_code_of}
use Rattle.ground.specs.Part.{shown_part}
use Rattle.codes.specs.RequestTypes.{request_type_of}
use Rattle.codes.specs.Responses.{state_of, status_of}
use Rattle.diagnostics_blocks.specs.Channel.{error_of, type_of}
use Rattle.diagnostics_blocks.specs.Modules.{bit_of, modules_of, first_of}
use Rattle.diagnostics.specs.Walk.{block_at, headed_by, length_of, step_of}
use Rattle.link_telegrams.specs.Heard.{data_to_of, request_to_of, request_heard_of}
use Rattle.telegram.specs.Reading.{header_at, saps_at, read_of}
use Rattle.token_ring.specs.Flags.{cleared, quiet, lowest_from, highest_below}
use Rattle.token_ring.specs.Rules.{swept, passed, next_of, previous_of, holds, fresh, made, in_phase, with_flags, updated, effect_of, effected, witnessed}

pub samples : Samples
unfolding sum_of checksum_of function_code_of shown_part request_type_of state_of status_of error_of type_of bit_of modules_of first_of block_at headed_by length_of step_of data_to_of request_to_of request_heard_of header_at saps_at read_of cleared quiet lowest_from highest_below swept passed next_of previous_of holds fresh made in_phase with_flags updated effect_of effected witnessed
samples =
    record {
      order_at_low = refl;
      order_heard = refl;
      order_pdu = refl;
      last_byte17 = refl;
      sum66 = refl;
      saps = refl;
      lengths_unequal = refl;
      too_few = refl;
      length_two = refl;
      discovered = refl;
      verified = refl;
      alone = refl;
      changed = refl;
      identifier = refl;
      module0 = refl;
      module2 = refl;
      no_more = refl;
      channel = refl;
      zero_length = refl;
      reserved_header = refl;
      cut_off = refl;
      empty_device = refl;
      empty_body = refl;
    }
