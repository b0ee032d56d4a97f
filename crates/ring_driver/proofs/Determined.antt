-- No second outcome fits the promise of a public call of `ring_driver`, which is lent the station list. Each promise is
-- written out here and is shown to be the function's `ensures`.
use mathlib.Core.Path.{◌≡◌, refl}
use Rattle.ground.proofs.DeterminedLaws.{left}
use Rattle.token_ring.proofs.Determined.{gives_one}
use Rattle.ground.specs.Determined.{Determined, Promise, Says}
use Rattle.ring_driver.specs.contracts.claim_token as claim_token
use Rattle.ring_driver.specs.contracts.remove_station as remove_station
use Rattle.ring_driver.specs.contracts.set_next_station as set_next_station
use Rattle.ring_driver.specs.contracts.witness_token_pass as witness_token_pass
use Rattle.token_ring.specs.Promises.{Gives}
use Rattle.token_ring.specs.Rules.{claimed, next_set, removed, station_answer, witnessed}

abbrev witness : Promise witness_token_pass.ended
witness κs a x e = e.0.now ≡ witnessed a.1.0.0 a.1.1.0.0 a.0.now

abbrev claim : Promise claim_token.ended
claim κs a x e = e.0.now ≡ claimed a.0.now

abbrev set_next : Promise set_next_station.ended
set_next κs a x e = Gives (station_answer a.1.0.0) (next_set a.1.0.0 a.0.now) (record { answer = x; after = e.0.now })

abbrev remove : Promise remove_station.ended
remove κs a x e = Gives (station_answer a.1.0.0) (removed a.1.0.0 a.0.now) (record { answer = x; after = e.0.now })

pub record Calls : Type 2 where
  pub witness_says : Says witness_token_pass.ended (λ M 𝓤 𝓛. witness_token_pass.clauses 𝓛) witness
  pub witness_token_pass : Determined witness_token_pass.ended witness
  pub claim_says : Says claim_token.ended (λ M 𝓤 𝓛. claim_token.clauses 𝓛) claim
  pub claim_token : Determined claim_token.ended claim
  pub set_next_says : Says set_next_station.ended (λ M 𝓤 𝓛. set_next_station.clauses 𝓛) set_next
  pub set_next_station : Determined set_next_station.ended set_next
  pub remove_says : Says remove_station.ended (λ M 𝓤 𝓛. remove_station.clauses 𝓛) remove
  pub remove_station : Determined remove_station.ended remove

pub determined : Calls
determined =
    record {
      witness_says = record { says = λ M 𝓤 𝓛 mem run κs a g x e. refl };
      witness_token_pass = left (λ κs x y. refl) (λ κs a u v p i. (p i, (tt, (tt, tt))));
      claim_says = record { says = λ M 𝓤 𝓛 mem run κs a g x e. refl };
      claim_token = left (λ κs x y. refl) (λ κs a u v p i. (p i, tt));
      set_next_says = record { says = λ M 𝓤 𝓛 mem run κs a g x e. refl };
      set_next_station = record { one = λ κs a m n. let both = gives_one m.meets n.meets in (λ i. (both i).answer, λ i. ((both i).after, (tt, tt))) };
      remove_says = record { says = λ M 𝓤 𝓛 mem run κs a g x e. refl };
      remove_station = record { one = λ κs a m n. let both = gives_one m.meets n.meets in (λ i. (both i).answer, λ i. ((both i).after, (tt, tt))) };
    }
