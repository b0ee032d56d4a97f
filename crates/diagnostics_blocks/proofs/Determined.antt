-- No second outcome fits the promise of a public call of `diagnostics_blocks`: two outcomes that its promise allows are the same.
use mathlib.Core.Path.{refl}
use Rattle.diagnostics_blocks.proofs.Shows.{shown_channel_injective, shown_error_injective, shown_type_injective}
use Rattle.diagnostics_blocks.specs.contracts.channel.ChannelDataType.from_diag_byte2 as type_from_byte
use Rattle.diagnostics_blocks.proofs.channel.ChannelDataType.from_diag_byte2.Reads as type_from_byte_reads
use Rattle.diagnostics_blocks.specs.contracts.channel.ChannelDataType.into_diag_byte2 as type_into_byte
use Rattle.diagnostics_blocks.proofs.channel.ChannelDataType.into_diag_byte2.Reads as type_into_byte_reads
use Rattle.diagnostics_blocks.specs.contracts.channel.ChannelDiagnostics.from_diag_bytes as channel_from_bytes
use Rattle.diagnostics_blocks.proofs.channel.ChannelDiagnostics.from_diag_bytes.Reads as channel_from_bytes_reads
use Rattle.diagnostics_blocks.specs.contracts.channel.ChannelError.from_diag_byte2 as error_from_byte
use Rattle.diagnostics_blocks.proofs.channel.ChannelError.from_diag_byte2.Reads as error_from_byte_reads
use Rattle.diagnostics_blocks.specs.contracts.channel.ChannelError.into_diag_byte2 as error_into_byte
use Rattle.diagnostics_blocks.proofs.channel.ChannelError.into_diag_byte2.Reads as error_into_byte_reads
use Rattle.diagnostics_blocks.specs.contracts.modules.first_set as first_set
use Rattle.diagnostics_blocks.proofs.modules.first_set.Reads as first_set_reads
use Rattle.diagnostics_blocks.specs.contracts.modules.is_set as is_set
use Rattle.diagnostics_blocks.proofs.modules.is_set.Reads as is_set_reads
use Rattle.ground.proofs.DeterminedLaws.{fixed, seen}
use Rattle.ground.specs.Determined.{Determined}

pub record Calls : Type 0 where
  pub is_set : Determined is_set.ended is_set_reads.Learnt
  pub first_set : Determined first_set.ended first_set_reads.Learnt
  pub type_from_byte : Determined type_from_byte.ended type_from_byte_reads.Learnt
  pub type_into_byte : Determined type_into_byte.ended type_into_byte_reads.Learnt
  pub error_from_byte : Determined error_from_byte.ended error_from_byte_reads.Learnt
  pub error_into_byte : Determined error_into_byte.ended error_into_byte_reads.Learnt
  pub channel_from_bytes : Determined channel_from_bytes.ended channel_from_bytes_reads.Learnt

pub determined : Calls
determined =
    record {
      is_set = fixed (λ κs a u v. refl);
      first_set = fixed (λ κs a u v. refl);
      type_from_byte = seen (λ κs. shown_type_injective) (λ κs a u v. refl);
      type_into_byte = fixed (λ κs a u v. refl);
      error_from_byte = seen (λ κs. shown_error_injective) (λ κs a u v. refl);
      error_into_byte = fixed (λ κs a u v. refl);
      channel_from_bytes = seen (λ κs. shown_channel_injective) (λ κs a u v. refl);
    }
