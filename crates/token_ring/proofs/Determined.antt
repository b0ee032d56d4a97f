-- No second outcome fits the promise of a public call of `token_ring`: two outcomes that its promise allows are the same.
use Rattle.std.proofs.Common.{◌≡◌, ℕ, Result, refl}
use Rattle.ground.proofs.DeterminedLaws.{fixed, same, seen}
use Rattle.ground.proofs.RefusalLaws.{shown_injective}
use Rattle.ground.specs.Determined.{Determined}
use Rattle.ground.specs.declared.refusal.Refusal.{Refusal}
use Rattle.ground.specs.declared.returned.Returned.{Returned}
use Rattle.token_ring.proofs.Sets.{shown_found_injective}
use Rattle.token_ring.specs.contracts.las_state.LasState.is_valid as is_valid
use Rattle.token_ring.proofs.las_state.LasState.is_valid.Reads as is_valid_reads
use Rattle.token_ring.specs.contracts.ring.TokenRing.active_stations as active_stations
use Rattle.token_ring.proofs.ring.TokenRing.active_stations.Reads as active_stations_reads
use Rattle.token_ring.specs.contracts.ring.TokenRing.claim_token as claim_token
use Rattle.token_ring.proofs.ring.TokenRing.claim_token.Reads as claim_token_reads
use Rattle.token_ring.specs.contracts.ring.TokenRing.first_active_from as first_active_from
use Rattle.token_ring.proofs.ring.TokenRing.first_active_from.Reads as first_active_from_reads
use Rattle.token_ring.specs.contracts.ring.TokenRing.from_parts as from_parts
use Rattle.token_ring.proofs.ring.TokenRing.from_parts.Reads as from_parts_reads
use Rattle.token_ring.specs.contracts.ring.TokenRing.is_active as is_active
use Rattle.token_ring.proofs.ring.TokenRing.is_active.Reads as is_active_reads
use Rattle.token_ring.specs.contracts.ring.TokenRing.las_state as las_state
use Rattle.token_ring.proofs.ring.TokenRing.las_state.Reads as las_state_reads
use Rattle.token_ring.specs.contracts.ring.TokenRing.last_active_to as last_active_to
use Rattle.token_ring.proofs.ring.TokenRing.last_active_to.Reads as last_active_to_reads
use Rattle.token_ring.specs.contracts.ring.TokenRing.new as new_ring
use Rattle.token_ring.proofs.ring.TokenRing.new.Reads as new_ring_reads
use Rattle.token_ring.specs.contracts.ring.TokenRing.next_station as next_station
use Rattle.token_ring.proofs.ring.TokenRing.next_station.Reads as next_station_reads
use Rattle.token_ring.specs.contracts.ring.TokenRing.previous_station as previous_station
use Rattle.token_ring.proofs.ring.TokenRing.previous_station.Reads as previous_station_reads
use Rattle.token_ring.specs.contracts.ring.TokenRing.ready_for_ring as ready_for_ring
use Rattle.token_ring.proofs.ring.TokenRing.ready_for_ring.Reads as ready_for_ring_reads
use Rattle.token_ring.specs.contracts.ring.TokenRing.remove_station as remove_station
use Rattle.token_ring.proofs.ring.TokenRing.remove_station.Reads as remove_station_reads
use Rattle.token_ring.specs.contracts.ring.TokenRing.set_next_station as set_next_station
use Rattle.token_ring.proofs.ring.TokenRing.set_next_station.Reads as set_next_station_reads
use Rattle.token_ring.specs.contracts.ring.TokenRing.this_station as this_station
use Rattle.token_ring.proofs.ring.TokenRing.this_station.Reads as this_station_reads
use Rattle.token_ring.specs.contracts.ring.TokenRing.witness_token_pass as witness_token_pass
use Rattle.token_ring.proofs.ring.TokenRing.witness_token_pass.Reads as witness_token_pass_reads
use Rattle.token_ring.specs.Promises.{Gives}
use Rattle.token_ring.specs.declared.ring.TokenRing.{TokenRing}

-- an answer and a list of which the promise gives the answer's number and the list
pub gives_one : {number : ℕ} {after : TokenRing} {c d : Returned (Result Unit Refusal) TokenRing} → Gives number after c → Gives number after d → c ≡ d
gives_one {c = c} {d = d} p q i = record { answer = shown_injective c.answer d.answer (same p.answer q.answer) i; after = same p.ring q.ring i }

pub record Calls : Type 0 where
  pub new_ring : Determined new_ring.ended new_ring_reads.Learnt
  pub witness_token_pass : Determined witness_token_pass.ended witness_token_pass_reads.Learnt
  pub claim_token : Determined claim_token.ended claim_token_reads.Learnt
  pub set_next_station : Determined set_next_station.ended set_next_station_reads.Learnt
  pub remove_station : Determined remove_station.ended remove_station_reads.Learnt
  pub is_active : Determined is_active.ended is_active_reads.Learnt
  pub first_active_from : Determined first_active_from.ended first_active_from_reads.Learnt
  pub last_active_to : Determined last_active_to.ended last_active_to_reads.Learnt
  pub this_station : Determined this_station.ended this_station_reads.Learnt
  pub next_station : Determined next_station.ended next_station_reads.Learnt
  pub previous_station : Determined previous_station.ended previous_station_reads.Learnt
  pub las_state : Determined las_state.ended las_state_reads.Learnt
  pub from_parts : Determined from_parts.ended from_parts_reads.Learnt
  pub active_stations : Determined active_stations.ended active_stations_reads.Learnt
  pub ready_for_ring : Determined ready_for_ring.ended ready_for_ring_reads.Learnt
  pub is_valid : Determined is_valid.ended is_valid_reads.Learnt

pub determined : Calls
determined =
    record {
      new_ring = record { one = λ κs a m n. (gives_one m.meets n.meets, refl) };
      witness_token_pass = fixed (λ κs a u v. refl);
      claim_token = fixed (λ κs a u v. refl);
      set_next_station = record { one = λ κs a m n. (gives_one m.meets n.meets, refl) };
      remove_station = record { one = λ κs a m n. (gives_one m.meets n.meets, refl) };
      is_active = fixed (λ κs a u v. refl);
      first_active_from = seen (λ κs. shown_found_injective) (λ κs a u v. refl);
      last_active_to = seen (λ κs. shown_found_injective) (λ κs a u v. refl);
      this_station = fixed (λ κs a u v. refl);
      next_station = fixed (λ κs a u v. refl);
      previous_station = fixed (λ κs a u v. refl);
      las_state = fixed (λ κs a u v. refl);
      from_parts = fixed (λ κs a u v. refl);
      active_stations = fixed (λ κs a u v. refl);
      ready_for_ring = fixed (λ κs a u v. refl);
      is_valid = fixed (λ κs a u v. refl);
    }
