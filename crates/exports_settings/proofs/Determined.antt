-- No second outcome fits the promise of a public call of `exports_settings`: two outcomes that its promise allows are the same.
use Rattle.exports_settings.specs.contracts.koy_settings_read as koy_settings_read
use Rattle.exports_settings.proofs.koy_settings_read.Reads as koy_settings_read_reads
use Rattle.exports_settings.specs.contracts.koy_settings_write as koy_settings_write
use Rattle.exports_settings.proofs.koy_settings_write.Reads as koy_settings_write_reads
use Rattle.ground.proofs.DeterminedLaws.{together}
use Rattle.ground.specs.Determined.{Determined}

pub record Calls : Type 0 where
  pub koy_settings_read : Determined koy_settings_read.ended koy_settings_read_reads.Learnt
  pub koy_settings_write : Determined koy_settings_write.ended koy_settings_write_reads.Learnt

pub determined : Calls
determined =
    record {
      koy_settings_read = together (λ κs a x y u v e. (λ i. (e i).code, λ i. (tt, ((e i).told, tt))));
      koy_settings_write = together (λ κs a x y u v e. (λ i. (e i).code, λ i. (tt, (tt, (tt, ((e i).buffer, ((e i).told, tt)))))));
    }
