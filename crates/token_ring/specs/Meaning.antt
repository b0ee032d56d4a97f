-- What the rules mean for a set of addresses: the active ones. Read `between` and `in_gap`, by which `station_lists` says demand 2, and `Sound`,
-- which every list keeps that `new` and the calls that change a list make. The theorems that tie the two are in proofs/Sets.antt,
-- Neighbours.antt, ByIndex.antt and Sound.antt.
use Rattle.std.specs.Prelude.{◌≡◌, ℕ, ◌<◌, ◌≤◌, Bool, true, false, ◌&&◌, ◌||◌, List, length, nat_lt}
use Rattle.ground.specs.Pick.{if}
use Rattle.token_ring.specs.declared.ring.TokenRing.{TokenRing}
use Rattle.token_ring.specs.Flags.{active, within}
use Rattle.token_ring.specs.Rules.{next_of, previous_of, wrap}

-- an address is in the set
abbrev pub Active : List Bool → ℕ → Type 0
Active flags a = active flags a ≡ true

-- the lowest of the set from an address upward
pub record LowestFrom (from : ℕ) (flags : List Bool) (a : ℕ) : Type 0 where
  pub active : Active flags a
  pub reached : from ≤ a
  pub lowest : (b : ℕ) → from ≤ b → Active flags b → a ≤ b

-- the highest of the set below an address
pub record HighestBelow (to : ℕ) (flags : List Bool) (a : ℕ) : Type 0 where
  pub active : Active flags a
  pub below : a < to
  pub highest : (b : ℕ) → b < to → Active flags b → b ≤ a

-- strictly between two addresses on the way up from the first to the second, which goes round the end where the second is not above the first
abbrev pub between : ℕ → ℕ → ℕ → Bool
between first second a = if (wrap first second) (nat_lt first a || nat_lt a second) (nat_lt first a && nat_lt a second)

-- nothing active lies strictly between
abbrev pub NoneBetween : ℕ → ℕ → List Bool → Type 0
NoneBetween first second flags = (a : ℕ) → between first second a ≡ true → active flags a ≡ false

-- what a pass sa to da clears: from sa up to below da, or on a wrap from sa upward and all below da
abbrev pub in_gap : ℕ → ℕ → ℕ → Bool
in_gap sa da a = if (wrap sa da) (within sa 128 a || within 0 da a) (within sa da a)

-- what holds of every list that `new` and the calls that change a list make: 128 flags, those above 125 never set, own at most 125, and
-- next and previous by the rule; a list put together by `from_parts` has what it was given
pub record Sound (r : TokenRing) : Type 0 where
  pub size : length r.active_stations ≡ 128
  pub high : (a : ℕ) → 125 < a → active r.active_stations a ≡ false
  pub own : r.this_station.0 ≤ 125
  pub next : r.next_station.0 ≡ next_of r.this_station.0 r.active_stations
  pub previous : r.previous_station.0 ≡ previous_of r.this_station.0 r.active_stations
