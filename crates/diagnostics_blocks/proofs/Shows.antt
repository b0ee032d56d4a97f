-- What the promises say of an answer determines it: each definition of specs/Shown.antt takes different values to different ones, since another
-- function takes each back. Read the laws that end in `-injective`.
use mathlib.Core.Path.{◌≡◌, refl}
use mathlib.Core.List.{[], ◌∷◌}
use Prim.Native.Nat.{ℕ, ◌-◌}
use lib.ListN.{get_or}
use Rattle.ground.proofs.Injective.{injective}
use Rattle.diagnostics_blocks.specs.Channel.{Channel, Error, named, reserved, vendor}
use Rattle.diagnostics_blocks.specs.Shown.{shown_channel, shown_error, shown_type}
use Rattle.diagnostics_blocks.specs.declared.channel.ChannelDataType.{ChannelDataType}
use Rattle.diagnostics_blocks.specs.declared.channel.ChannelDataType.TheVariants.{Bit, Bit2, Bit4, Byte, Word, DWord, Invalid}
use Rattle.diagnostics_blocks.specs.declared.channel.ChannelDiagnostics.{ChannelDiagnostics}
use Rattle.diagnostics_blocks.specs.declared.channel.ChannelError.{ChannelError}
use Rattle.diagnostics_blocks.specs.declared.channel.ChannelError.TheVariants as errors

abbrev type_back : ℕ → ChannelDataType
type_back n = get_or (Bit ∷ Bit2 ∷ Bit4 ∷ Byte ∷ Word ∷ DWord ∷ Invalid ∷ []) (n - 1) Invalid

type_again : (x : ChannelDataType) → type_back (shown_type x) ≡ x
type_again Bit = refl
type_again Bit2 = refl
type_again Bit4 = refl
type_again Byte = refl
type_again Word = refl
type_again DWord = refl
type_again Invalid = refl

-- a type is its number's
pub shown_type_injective : (x y : ChannelDataType) → shown_type x ≡ shown_type y → x ≡ y
shown_type_injective = injective shown_type type_back type_again

abbrev error_back : Error → ChannelError
error_back (named n) = get_or (errors.ShortCircuit ∷ errors.UnderVoltage ∷ errors.OverVoltage ∷ errors.OverLoad ∷ errors.OverTemperature ∷ errors.LineBreak ∷ errors.UpperLimitOvershoot ∷ errors.LowerLimitUndershoot ∷ errors.Error ∷ []) (n - 1) errors.Error
error_back (vendor n) = errors.Vendor n
error_back (reserved n) = errors.Reserved n

error_again : (x : ChannelError) → error_back (shown_error x) ≡ x
error_again errors.ShortCircuit = refl
error_again errors.UnderVoltage = refl
error_again errors.OverVoltage = refl
error_again errors.OverLoad = refl
error_again errors.OverTemperature = refl
error_again errors.LineBreak = refl
error_again errors.UpperLimitOvershoot = refl
error_again errors.LowerLimitUndershoot = refl
error_again errors.Error = refl
error_again (errors.Vendor n) = refl
error_again (errors.Reserved n) = refl

-- an error is its number's, within its sort
pub shown_error_injective : (x y : ChannelError) → shown_error x ≡ shown_error y → x ≡ y
shown_error_injective = injective shown_error error_back error_again

abbrev pub channel_back : Channel → ChannelDiagnostics
channel_back c = record {
  «module» = c.module_no;
  channel = c.channel_no;
  input = c.input;
  output = c.output;
  dtype = type_back c.dtype;
  error = error_back c.error;
}

pub channel_again : (x : ChannelDiagnostics) → channel_back (shown_channel x) ≡ x
channel_again x = rw (type_again x.dtype, error_again x.error)

pub shown_channel_injective : (x y : ChannelDiagnostics) → shown_channel x ≡ shown_channel y → x ≡ y
shown_channel_injective = injective shown_channel channel_back channel_again
