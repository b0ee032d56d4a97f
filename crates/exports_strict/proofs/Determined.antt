-- No second outcome fits the promise of the public call of `exports_strict`: two outcomes that its promise allows are the same.
use Rattle.exports_strict.specs.contracts.koy_read_strict as koy_read_strict
use Rattle.exports_strict.proofs.koy_read_strict.Reads as koy_read_strict_reads
use Rattle.ground.proofs.DeterminedLaws.{together}
use Rattle.ground.specs.Determined.{Determined}

pub record Calls : Type 0 where
  pub koy_read_strict : Determined koy_read_strict.ended koy_read_strict_reads.Learnt

pub determined : Calls
determined = record { koy_read_strict = together (λ κs a x y u v e. (λ i. (e i).code, λ i. (tt, ((e i).told, tt)))) }
