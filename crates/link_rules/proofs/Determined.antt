-- No second outcome fits the promise of a public call of `link_rules`: two outcomes that its promise allows are the same.
use mathlib.Core.Path.{refl}
use Rattle.ground.proofs.DeterminedLaws.{fixed}
use Rattle.ground.specs.Determined.{Determined}
use Rattle.link_rules.specs.contracts.wrong_addresses as wrong_addresses
use Rattle.link_rules.proofs.wrong_addresses.Reads as wrong_addresses_reads
use Rattle.link_rules.specs.contracts.wrong_length as wrong_length
use Rattle.link_rules.proofs.wrong_length.Reads as wrong_length_reads
use Rattle.link_rules.specs.contracts.wrong_tries as wrong_tries
use Rattle.link_rules.proofs.wrong_tries.Reads as wrong_tries_reads

pub record Calls : Type 0 where
  pub wrong_addresses : Determined wrong_addresses.ended wrong_addresses_reads.Learnt
  pub wrong_tries : Determined wrong_tries.ended wrong_tries_reads.Learnt
  pub wrong_length : Determined wrong_length.ended wrong_length_reads.Learnt

pub determined : Calls
determined =
    record {
      wrong_addresses = fixed (λ κs a u v. refl);
      wrong_tries = fixed (λ κs a u v. refl);
      wrong_length = fixed (λ κs a u v. refl);
    }
