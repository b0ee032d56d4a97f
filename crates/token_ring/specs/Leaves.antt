-- What private functions promise each other. Nothing here has to be believed: no promise of a public call cites it.
use Rattle.std.specs.Prelude.{◌≡◌, ℕ, ◌+◌, ◌-◌, ◌%◌, ◌<◌, ◌≤◌, min, Bool, true, false, List}
use Rattle.ground.specs.Pick.{if}
use Rattle.token_ring.specs.Flags.{active}
use Rattle.token_ring.specs.Rules.{Effect, passed}
use Rattle.token_ring.specs.declared.ring.Heard.{Heard}

-- the effect of a pass sa to da, told and done: the flags at exit are those at entry, updated where the effect says so
pub record Hears (e : Effect) (sa da : ℕ) (entry : List Bool) (h : Heard) (exit : List Bool) : Type 0 where
  pub state : h.state ≡ e.phase
  pub updated : h.updated ≡ e.update
  pub flags : exit ≡ if e.update (passed sa da entry) entry

-- how far a place lies above another, or below it, round the 128 places
abbrev pub away : Bool → ℕ → ℕ → ℕ
away true from at = (at + 128 - from) % 128
away false from at = (from + 128 - at) % 128

-- the least of these distances at an active address below n, or 255 where there is none
pub data Nearest (away : ℕ → ℕ) (n : ℕ) (flags : List Bool) (r : ℕ) : Type 0 where
  nobody : ((i : ℕ) → i < n → active flags i ≡ false) → r ≡ 255 → Nearest away n flags r
  nearest : (j : ℕ) → j < n → active flags j ≡ true → r ≡ away j
      → ((i : ℕ) → i < n → active flags i ≡ true → away j ≤ away i)
      → Nearest away n flags r

-- the places next to an own address, round the 128; an own address past them counts as the last
abbrev pub place_above : ℕ → ℕ
place_above own = (min own 127 + 1) % 128

abbrev pub place_below : ℕ → ℕ
place_below own = (min own 128 + 127) % 128
