-- No second outcome fits the promise of a public call of `telegram_strict`: two outcomes that its promise allows are the same.
use mathlib.Core.Path.{refl}
use Rattle.ground.proofs.DeterminedLaws.{seen}
use Rattle.ground.specs.Determined.{Determined}
use Rattle.telegram_strict.proofs.ModeLaws.{shown_in_injective, shown_start_injective}
use Rattle.telegram_strict.specs.contracts.strict.deserialize_in as deserialize_in
use Rattle.telegram_strict.proofs.strict.deserialize_in.Reads as deserialize_in_reads
use Rattle.telegram_strict.specs.contracts.strict.deserialize_strict as deserialize_strict
use Rattle.telegram_strict.proofs.strict.deserialize_strict.Reads as deserialize_strict_reads
use Rattle.telegram_strict.specs.contracts.strict.strict_start as strict_start
use Rattle.telegram_strict.proofs.strict.strict_start.Reads as strict_start_reads

pub record Calls : Type 0 where
  pub strict_start : Determined strict_start.ended strict_start_reads.Learnt
  pub deserialize_strict : Determined deserialize_strict.ended deserialize_strict_reads.Learnt
  pub deserialize_in : Determined deserialize_in.ended deserialize_in_reads.Learnt

pub determined : Calls
determined =
    record {
      strict_start = seen (λ κs. shown_start_injective) (λ κs a u v. refl);
      deserialize_strict = seen (λ κs. shown_in_injective) (λ κs a u v. refl);
      deserialize_in = seen (λ κs. shown_in_injective) (λ κs a u v. refl);
    }
