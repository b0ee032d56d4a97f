-- No second outcome fits the promise of a public call of `guards`: two outcomes that its promise allows are the same.
use mathlib.Core.Path.{refl}
use Rattle.ground.proofs.DeterminedLaws.{fixed}
use Rattle.ground.specs.Determined.{Determined}
use Rattle.guards.specs.contracts.guard.number_after as number_after
use Rattle.guards.proofs.guard.number_after.Reads as number_after_reads
use Rattle.guards.specs.contracts.guard.number_told as number_told
use Rattle.guards.proofs.guard.number_told.Reads as number_told_reads
use Rattle.guards.specs.contracts.guard.stamp_after as stamp_after
use Rattle.guards.proofs.guard.stamp_after.Reads as stamp_after_reads

pub record Calls : Type 0 where
  pub stamp_after : Determined stamp_after.ended stamp_after_reads.Learnt
  pub number_after : Determined number_after.ended number_after_reads.Learnt
  pub number_told : Determined number_told.ended number_told_reads.Learnt

pub determined : Calls
determined =
    record {
      stamp_after = fixed (λ κs a u v. refl);
      number_after = fixed (λ κs a u v. refl);
      number_told = fixed (λ κs a u v. refl);
    }
