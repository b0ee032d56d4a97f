-- Document 01, "Acceptance samples": the words in which those of the station list are said, a row of passes (`after`) and what is told of the list
-- after it (`shown_list`). The samples themselves stand in `acceptance`.
use Rattle.std.specs.Prelude.{ℕ, suc, Bool, List, [], ◌∷◌}
use Rattle.ground.specs.Pick.{if}
use Rattle.token_ring.specs.declared.las_state.LasState.{LasState}
use Rattle.token_ring.specs.declared.ring.TokenRing.{TokenRing}
use Rattle.token_ring.specs.Rules.{witnessed}

-- a pass, written as document 01 does: sa-da
pub record Pass : Type 0 where
  pub sa : ℕ
  pub da : ℕ

infix 80 ◌to◌
abbrev pub ◌to◌ : ℕ → ℕ → Pass
sa to da = record { sa = sa; da = da }

-- the list after a row of passes, the first one first
abbrev pub after : List Pass → TokenRing → TokenRing
after [] r = r
after (p ∷ ps) r = after ps (witnessed p.sa p.da r)

-- the active addresses, rising; `k` is the address of the first flag
abbrev pub addresses : ℕ → List Bool → List ℕ
addresses k [] = []
addresses k (x ∷ xs) = if x (k ∷ addresses (suc k) xs) (addresses (suc k) xs)

-- what the samples tell of a list: its active addresses, next, previous and phase
pub record ShownList : Type 0 where
  pub stations : List ℕ
  pub next : ℕ
  pub previous : ℕ
  pub phase : LasState

abbrev pub shown_list : TokenRing → ShownList
shown_list r =
    record {
      stations = addresses 0 r.active_stations;
      next = r.next_station.0;
      previous = r.previous_station.0;
      phase = r.las_state;
    }
