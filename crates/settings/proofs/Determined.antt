-- No second outcome fits the promise of a public call of `settings`: two outcomes that its promise allows are the same.
use mathlib.Core.Path.{refl}
use Rattle.ground.proofs.DeterminedLaws.{gives, seen}
use Rattle.ground.specs.Determined.{Determined}
use Rattle.settings.proofs.ReadingLaws.{shown_read_injective}
use Rattle.settings.proofs.WritingLaws.{shown_written_injective}
use Rattle.settings.specs.contracts.settings.read_settings as read_settings
use Rattle.settings.proofs.settings.read_settings.Reads as read_settings_reads
use Rattle.settings.specs.contracts.settings.write_settings as write_settings
use Rattle.settings.proofs.settings.write_settings.Reads as write_settings_reads

pub record Calls : Type 0 where
  pub read_settings : Determined read_settings.ended read_settings_reads.Learnt
  pub write_settings : Determined write_settings.ended write_settings_reads.Learnt

pub determined : Calls
determined =
    record {
      read_settings = seen (λ κs. shown_read_injective) (λ κs a u v. refl);
      write_settings = gives (λ κs a x e p. (p.result, p.buffer)) (λ κs. shown_written_injective) (λ κs a u v p i. (tt, (p i, tt)));
    }
