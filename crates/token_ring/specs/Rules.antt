-- Document 01, "The station list": the rules, over the flags and over the whole list. Read `made`, `witnessed` with `effect_of`, `claimed`, `next_set`
-- and `removed`, each the promise of a call.
use Rattle.std.specs.Prelude.{ℕ, suc, Bool, true, false, ◌&&◌, ◌||◌, List, replicate, nat_le, nat_lt, None, Option, slice_set, Some}
use Rattle.ground.specs.Pick.{if}
use Rattle.token_ring.specs.Flags.{active, cleared, quiet, lowest_from, highest_below}
use Rattle.token_ring.specs.declared.las_state.LasState.{LasState}
use Rattle.token_ring.specs.declared.las_state.LasState.TheVariants.{Uninitialized, Discovery, Verification, Valid}
use Rattle.token_ring.specs.declared.ring.TokenRing.{TokenRing}

-- a wrap is da <= sa
abbrev pub wrap : ℕ → ℕ → Bool
wrap sa da = nat_le da sa

-- clear flags from sa up to below da, or on a wrap from sa upward and all below da
unfoldable pub swept : ℕ → ℕ → List Bool → List Bool
swept sa da flags = if (wrap sa da) (cleared 0 da (cleared sa 128 flags)) (cleared sa da flags)

-- the same, then set sa
unfoldable pub passed : ℕ → ℕ → List Bool → List Bool
passed sa da flags = slice_set (swept sa da flags) sa true

-- what a search found, else another address
abbrev pub or_else : Option ℕ → ℕ → ℕ
or_else (Some a) other = a
or_else None other = other

-- next is the lowest active above own, else the lowest active, else own
unfoldable pub next_of : ℕ → List Bool → ℕ
next_of own flags = or_else (lowest_from (suc own) flags) (or_else (lowest_from 0 flags) own)

-- previous the highest below, else the highest, else own
unfoldable pub previous_of : ℕ → List Bool → ℕ
previous_of own flags = or_else (highest_below own flags) (or_else (highest_below 128 flags) own)

-- the pass holds if sa and da are active and nothing between is (on a wrap: nothing above sa or below da)
unfoldable pub holds : ℕ → ℕ → List Bool → Bool
holds sa da flags =
    active flags sa
    && (active flags da
    && if (wrap sa da) (quiet (suc sa) 128 flags && quiet 0 da flags) (quiet (suc sa) da flags))

-- fresh: own flag only, next = previous = own, Uninitialized
unfoldable pub fresh : ℕ → TokenRing
fresh own =
    record {
      active_stations = slice_set (replicate 128 false) own true;
      las_state = Uninitialized;
      this_station = record { 0 = own };
      next_station = record { 0 = own };
      previous_station = record { 0 = own };
    }

-- the list in another phase
unfoldable pub in_phase : LasState → TokenRing → TokenRing
in_phase phase r =
    record {
      active_stations = r.active_stations;
      las_state = phase;
      this_station = r.this_station;
      next_station = r.next_station;
      previous_station = r.previous_station;
    }

-- the list with other flags, and the neighbours found among them
unfoldable pub with_flags : List Bool → TokenRing → TokenRing
with_flags flags r =
    record {
      active_stations = flags;
      las_state = r.las_state;
      this_station = r.this_station;
      next_station = record { 0 = next_of r.this_station.0 flags };
      previous_station = record { 0 = previous_of r.this_station.0 flags };
    }

-- update: clear, set sa, find neighbours
unfoldable pub updated : ℕ → ℕ → TokenRing → TokenRing
updated sa da r = with_flags (passed sa da r.active_stations) r

-- what a pass does: whether it updates, and the phase after it
pub record Effect : Type 0 where
  pub update : Bool
  pub phase : LasState

-- by the phase in which the list is
unfoldable pub effect_of : LasState → ℕ → ℕ → List Bool → Effect
-- Uninitialized: a wrap moves to Discovery; the flags stay
effect_of Uninitialized sa da flags = record { update = false; phase = if (wrap sa da) Discovery Uninitialized }
-- Discovery: update; a wrap moves to Verification
effect_of Discovery sa da flags = record { update = true; phase = if (wrap sa da) Verification Discovery }
-- Verification: holds and wrap: Valid. Fails: update and Discovery, even on a wrap
effect_of Verification sa da flags =
    if (holds sa da flags)
    (record { update = false; phase = if (wrap sa da) Valid Verification })
    (record { update = true; phase = Discovery })
-- Valid: update
effect_of Valid sa da flags = record { update = true; phase = Valid }

-- the list after an effect of a pass sa to da
unfoldable pub effected : Effect → ℕ → ℕ → TokenRing → TokenRing
effected e sa da r = in_phase e.phase (if e.update (updated sa da r) r)

-- a pass sa to da with either above 125 changes nothing
unfoldable pub witnessed : ℕ → ℕ → TokenRing → TokenRing
witnessed sa da r =
    if (nat_lt 125 sa || nat_lt 125 da) r
    (effected (effect_of r.las_state sa da r.active_stations) sa da r)

-- claiming makes the phase Valid
abbrev pub claimed : TokenRing → TokenRing
claimed r = in_phase Valid r

-- the number that a call answers for an own, set or removed address: 11 above 125, else 0 for done
abbrev pub station_answer : ℕ → ℕ
station_answer a = if (nat_lt 125 a) 11 0

-- the list that is made: the fresh one; beside refusal 11 the fresh one of address 0
unfoldable pub made : ℕ → TokenRing
made own = if (nat_lt 125 own) (fresh 0) (fresh own)

-- setting the next station sets its flag, then updates as if own had passed to it; refused, the list stays
unfoldable pub next_set : ℕ → TokenRing → TokenRing
next_set a r =
    if (nat_lt 125 a) r
    (with_flags (passed r.this_station.0 a (slice_set r.active_stations a true)) r)

-- removing clears the flag and finds neighbours; refused, the list stays
unfoldable pub removed : ℕ → TokenRing → TokenRing
removed a r = if (nat_lt 125 a) r (with_flags (slice_set r.active_stations a false) r)
