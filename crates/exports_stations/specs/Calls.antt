-- What a call on the station list is to a program in another language. Read the definitions named like the calls: each is the whole promise of
-- its call, over the lent bytes at entry.
use Rattle.std.specs.Prelude.{ℕ, suc, Bool, List, [], ◌∷◌, ltb, None, Option, Some}
use Rattle.ground.specs.Pick.{if}
use Rattle.exports_stations.specs.Bytes.{phase_number, stations_bytes, stations_of}
use Rattle.token_ring.specs.Flags.{active, lowest_from, highest_below}
use Rattle.token_ring.specs.Rules.{claimed, made, next_set, removed, station_answer, witnessed}
use Rattle.token_ring.specs.declared.ring.TokenRing.{TokenRing}

-- a call that may refuse: its code, and the lent bytes at its end
pub record Call : Type 0 where
  pub code : ℕ
  pub state : List ℕ

-- a call with this number, 0 where it was done: refused, the bytes stay
unfoldable pub crossed : List ℕ → ℕ → TokenRing → Call
crossed state number after = record { code = number; state = if (ltb 0 number) state (stations_bytes after) }

-- phase, own, next, previous
abbrev pub about_of : TokenRing → List ℕ
about_of r = phase_number r.las_state ∷ r.this_station.0 ∷ r.next_station.0 ∷ r.previous_station.0 ∷ []

-- the station found, or 256, which no address is
abbrev pub found_number : Option ℕ → ℕ
found_number (Some a) = a
found_number None = 256

-- ---- the calls that change the list

abbrev pub koy_stations_new : List ℕ → ℕ → Call
koy_stations_new state own = crossed state (station_answer own) (made own)

abbrev pub koy_stations_witness : List ℕ → ℕ → ℕ → List ℕ
koy_stations_witness state sa da = stations_bytes (witnessed sa da (stations_of state))

abbrev pub koy_stations_claim : List ℕ → List ℕ
koy_stations_claim state = stations_bytes (claimed (stations_of state))

abbrev pub koy_stations_set_next : List ℕ → ℕ → Call
koy_stations_set_next state address = crossed state (station_answer address) (next_set address (stations_of state))

abbrev pub koy_stations_remove : List ℕ → ℕ → Call
koy_stations_remove state address = crossed state (station_answer address) (removed address (stations_of state))

-- ---- the calls that ask of it

abbrev pub koy_stations_about : List ℕ → List ℕ
koy_stations_about state = about_of (stations_of state)

abbrev pub koy_stations_is_active : List ℕ → ℕ → Bool
koy_stations_is_active state address = active (stations_of state).active_stations address

abbrev pub koy_stations_first_from : List ℕ → ℕ → ℕ
koy_stations_first_from state address = found_number (lowest_from address (stations_of state).active_stations)

abbrev pub koy_stations_last_to : List ℕ → ℕ → ℕ
koy_stations_last_to state address = found_number (highest_below (suc address) (stations_of state).active_stations)
