-- No second outcome fits the promise of a public call of `exports_stations`: two outcomes that its promise allows are the same.
use mathlib.Core.Path.{refl}
use Rattle.exports_stations.specs.contracts.stations.koy_stations_about as koy_stations_about
use Rattle.exports_stations.proofs.stations.koy_stations_about.Reads as koy_stations_about_reads
use Rattle.exports_stations.specs.contracts.stations.koy_stations_claim as koy_stations_claim
use Rattle.exports_stations.proofs.stations.koy_stations_claim.Reads as koy_stations_claim_reads
use Rattle.exports_stations.specs.contracts.stations.koy_stations_first_from as koy_stations_first_from
use Rattle.exports_stations.proofs.stations.koy_stations_first_from.Reads as koy_stations_first_from_reads
use Rattle.exports_stations.specs.contracts.stations.koy_stations_is_active as koy_stations_is_active
use Rattle.exports_stations.proofs.stations.koy_stations_is_active.Reads as koy_stations_is_active_reads
use Rattle.exports_stations.specs.contracts.stations.koy_stations_last_to as koy_stations_last_to
use Rattle.exports_stations.proofs.stations.koy_stations_last_to.Reads as koy_stations_last_to_reads
use Rattle.exports_stations.specs.contracts.stations.koy_stations_new as koy_stations_new
use Rattle.exports_stations.proofs.stations.koy_stations_new.Reads as koy_stations_new_reads
use Rattle.exports_stations.specs.contracts.stations.koy_stations_remove as koy_stations_remove
use Rattle.exports_stations.proofs.stations.koy_stations_remove.Reads as koy_stations_remove_reads
use Rattle.exports_stations.specs.contracts.stations.koy_stations_set_next as koy_stations_set_next
use Rattle.exports_stations.proofs.stations.koy_stations_set_next.Reads as koy_stations_set_next_reads
use Rattle.exports_stations.specs.contracts.stations.koy_stations_witness as koy_stations_witness
use Rattle.exports_stations.proofs.stations.koy_stations_witness.Reads as koy_stations_witness_reads
use Rattle.ground.proofs.DeterminedLaws.{fixed, left, together}
use Rattle.ground.specs.Determined.{Determined}

pub record Calls : Type 0 where
  pub koy_stations_new : Determined koy_stations_new.ended koy_stations_new_reads.Learnt
  pub koy_stations_witness : Determined koy_stations_witness.ended koy_stations_witness_reads.Learnt
  pub koy_stations_claim : Determined koy_stations_claim.ended koy_stations_claim_reads.Learnt
  pub koy_stations_set_next : Determined koy_stations_set_next.ended koy_stations_set_next_reads.Learnt
  pub koy_stations_remove : Determined koy_stations_remove.ended koy_stations_remove_reads.Learnt
  pub koy_stations_about : Determined koy_stations_about.ended koy_stations_about_reads.Learnt
  pub koy_stations_is_active : Determined koy_stations_is_active.ended koy_stations_is_active_reads.Learnt
  pub koy_stations_first_from : Determined koy_stations_first_from.ended koy_stations_first_from_reads.Learnt
  pub koy_stations_last_to : Determined koy_stations_last_to.ended koy_stations_last_to_reads.Learnt

pub determined : Calls
determined =
    record {
      koy_stations_new = together (λ κs a x y u v e. (λ i. (e i).code, λ i. ((e i).state, (tt, tt))));
      koy_stations_witness = left (λ κs x y. refl) (λ κs a u v p i. (p i, (tt, (tt, tt))));
      koy_stations_claim = left (λ κs x y. refl) (λ κs a u v p i. (p i, tt));
      koy_stations_set_next = together (λ κs a x y u v e. (λ i. (e i).code, λ i. ((e i).state, (tt, tt))));
      koy_stations_remove = together (λ κs a x y u v e. (λ i. (e i).code, λ i. ((e i).state, (tt, tt))));
      koy_stations_about = left (λ κs x y. refl) (λ κs a u v p i. (tt, (p i, tt)));
      koy_stations_is_active = fixed (λ κs a u v. refl);
      koy_stations_first_from = fixed (λ κs a u v. refl);
      koy_stations_last_to = fixed (λ κs a u v. refl);
    }
