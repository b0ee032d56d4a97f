-- The numbers and values of document 01 for each case of the code's answers. The names are those of profirust.
use Rattle.std.specs.Prelude.{ℕ}
use Rattle.diagnostics_blocks.specs.Channel.{Channel, Error, named, vendor, reserved}
use Rattle.diagnostics_blocks.specs.declared.channel.ChannelDataType.{ChannelDataType}
use Rattle.diagnostics_blocks.specs.declared.channel.ChannelDataType.TheVariants.{Bit, Bit2, Bit4, Byte, Word, DWord, Invalid}
use Rattle.diagnostics_blocks.specs.declared.channel.ChannelError.{ChannelError}
use Rattle.diagnostics_blocks.specs.declared.channel.ChannelError.TheVariants as errors
use Rattle.diagnostics_blocks.specs.declared.channel.ChannelDiagnostics.{ChannelDiagnostics}

-- the number of a type
abbrev pub shown_type : ChannelDataType → ℕ
shown_type Bit = 1
shown_type Bit2 = 2
shown_type Bit4 = 3
shown_type Byte = 4
shown_type Word = 5
shown_type DWord = 6
shown_type Invalid = 7

-- the number of an error, and its sort
abbrev pub shown_error : ChannelError → Error
shown_error errors.ShortCircuit = named 1
shown_error errors.UnderVoltage = named 2
shown_error errors.OverVoltage = named 3
shown_error errors.OverLoad = named 4
shown_error errors.OverTemperature = named 5
shown_error errors.LineBreak = named 6
shown_error errors.UpperLimitOvershoot = named 7
shown_error errors.LowerLimitUndershoot = named 8
shown_error errors.Error = named 9
shown_error (errors.Vendor n) = vendor n
shown_error (errors.Reserved n) = reserved n

abbrev pub shown_channel : ChannelDiagnostics → Channel
shown_channel c = record {
  module_no = c.«module»;
  channel_no = c.channel;
  input = c.input;
  output = c.output;
  dtype = shown_type c.dtype;
  error = shown_error c.error;
}
