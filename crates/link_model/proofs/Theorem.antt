-- Demand 3 holds of our two ends on messages, and of every pair of ends that follows them.
use Rattle.demand_3.specs.Line.{Pair}
use Rattle.demand_3.specs.Demand.{Demand}
use Rattle.link_model.specs.Ours.{ours}
use Rattle.demand_3.proofs.Follows.{Follows}
use Rattle.link_model.proofs.Safety.{ours_safe}
use Rattle.link_model.proofs.Liveness.{ours_live, ours_takes}
use Rattle.demand_3.proofs.Transfer.{demand_same}

pub ours_demand : Demand ours
ours_demand =
    record {
      safe = λ n p cs o. ours_safe n cs o;
      live = λ n p cs o. ours_live n cs o;
      takes = λ n p cs o. ours_takes n cs o;
    }

pub follower_demand : (S : Pair) → Follows S ours → Demand S
follower_demand S f = demand_same S ours f ours_demand
