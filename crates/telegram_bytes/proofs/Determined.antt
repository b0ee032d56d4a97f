-- No second outcome fits the promise of the public call of `telegram_bytes`: two outcomes that its promise allows are the same.
use Rattle.ground.proofs.DeterminedLaws.{wrote}
use Rattle.ground.specs.Determined.{Determined}
use Rattle.telegram_bytes.proofs.SerializedLaws.{shown_serialized_injective}
use Rattle.telegram_bytes.specs.contracts.serialized.serialize as serialize
use Rattle.telegram_bytes.proofs.serialized.serialize.Reads as serialize_reads

pub record Calls : Type 0 where
  pub serialize : Determined serialize.ended serialize_reads.Learnt

pub determined : Calls
determined =
    record { serialize = wrote (λ κs. shown_serialized_injective) (λ κs a u v p i. (tt, (tt, (p i, tt)))) }
