-- A station list packed into bytes and unpacked is the same list.
use mathlib.Core.Path.{◌≡◌, refl, ap}
use mathlib.Core.Bool.{Bool, true, false}
use mathlib.Core.List.{List, [], ◌∷◌, map}
use Rattle.ground.specs.Bits.{digit}
use Rattle.token_ring.specs.declared.las_state.LasState.{LasState}
use Rattle.token_ring.specs.declared.las_state.LasState.TheVariants.{Uninitialized, Discovery, Verification, Valid}
use Rattle.token_ring.specs.declared.ring.TokenRing.{TokenRing}
use Rattle.exports_stations.specs.Bytes.{flag_of, phase_number, phase_of, stations_of, stations_bytes}

phase_again : (p : LasState) → phase_of (phase_number p) ≡ p
unfolding phase_of
phase_again Uninitialized = refl
phase_again Discovery = refl
phase_again Verification = refl
phase_again Valid = refl

flags_again : (fs : List Bool) → map flag_of (map digit fs) ≡ fs
flags_again [] = refl
flags_again (true ∷ fs) = ap (λ (l : List Bool). true ∷ l) (flags_again fs)
flags_again (false ∷ fs) = ap (λ (l : List Bool). false ∷ l) (flags_again fs)

again_of_lem : (r : TokenRing) (p : LasState) (fs : List Bool) → p ≡ r.las_state → fs ≡ r.active_stations
    → record { active_stations = fs; las_state = p; this_station = r.this_station; next_station = r.next_station; previous_station = r.previous_station } ≡ r
again_of_lem r p fs e f = rw (e, f)

-- Nothing of any list is lost.
pub stations_again : (r : TokenRing) → stations_of (stations_bytes r) ≡ r
stations_again r = again_of_lem r _ _ (phase_again r.las_state) (flags_again r.active_stations)
