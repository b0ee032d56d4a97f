-- No second outcome fits the promise of the public call of `listing_lines`: two outcomes that its promise allows are the same.
use Rattle.ground.proofs.DeterminedLaws.{gives}
use Rattle.ground.specs.Determined.{Determined}
use Rattle.listing_lines.specs.contracts.line.put_item as put_item
use Rattle.listing_lines.proofs.line.put_item.Reads as put_item_reads

pub record Calls : Type 0 where
  pub put_item : Determined put_item.ended put_item_reads.Learnt

pub determined : Calls
determined =
    record {
      put_item = gives (λ κs a x e p. (p.place, p.buffer)) (λ κs x y e. e) (λ κs a u v p i. (p i, (tt, (tt, tt))));
    }
