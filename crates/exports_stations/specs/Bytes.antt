-- The station list as 132 bytes: phase, own, next, previous, and a byte for each of the 128 flags. Read `stations_of` and `stations_bytes`; that
-- nothing is lost between them is `stations_again` in proofs/Lossless.antt.
use Rattle.std.specs.Prelude.{ℕ, Bool, List, ◌∷◌, map, eqb, ltb, drop}
use Rattle.ground.specs.Bits.{digit}
use Rattle.ground.specs.Part.{byte_at}
use Rattle.ground.specs.Pick.{if}
use Rattle.token_ring.specs.declared.las_state.LasState.{LasState}
use Rattle.token_ring.specs.declared.las_state.LasState.TheVariants.{Uninitialized, Discovery, Verification, Valid}
use Rattle.token_ring.specs.declared.ring.TokenRing.{TokenRing}

-- the number of a phase
abbrev pub phase_number : LasState → ℕ
phase_number Uninitialized = 0
phase_number Discovery = 1
phase_number Verification = 2
phase_number Valid = 3

-- the phase of a number; a number above 3 counts as 0
unfoldable pub phase_of : ℕ → LasState
phase_of n = if (eqb n 1) Discovery (if (eqb n 2) Verification (if (eqb n 3) Valid Uninitialized))

-- any byte but 0 counts as set
abbrev pub flag_of : ℕ → Bool
flag_of b = ltb 0 b

-- the list of these bytes, whatever they are
abbrev pub stations_of : List ℕ → TokenRing
stations_of s =
    record {
      active_stations = map flag_of (drop 4 s);
      las_state = phase_of (byte_at s 0);
      this_station = record { 0 = byte_at s 1 };
      next_station = record { 0 = byte_at s 2 };
      previous_station = record { 0 = byte_at s 3 };
    }

-- the bytes of a list
abbrev pub stations_bytes : TokenRing → List ℕ
stations_bytes r =
    phase_number r.las_state
    ∷ r.this_station.0
    ∷ r.next_station.0
    ∷ r.previous_station.0
    ∷ map digit r.active_stations
