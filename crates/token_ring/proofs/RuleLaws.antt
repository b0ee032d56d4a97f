-- Laws of the rules, in the order in which the code tests.
use Rattle.std.proofs.Common.{◌≡◌, ℕ, suc, ◌+◌, ◌<◌, ◌≤◌, Bool, true, false, ◌&&◌, ◌⊎◌, List, length, set, ◌∙◌, inl, inr, add-one, arith, length-set, le-ltb, lt-ltb, le-leb, None, Some}
use mathlib.Core.Logic.{by_cases}
use native.Mathlib.Decide.{dec_lt}
use borrow.Author.Tests.{lt-leb}
use Rattle.ground.specs.Pick.{if}
use Rattle.token_ring.specs.declared.ring.TokenRing.{TokenRing}
use Rattle.token_ring.specs.Flags.{active, cleared, quiet, lowest_from, highest_below}
use Rattle.token_ring.specs.Rules.{wrap, swept, passed, next_of, previous_of, holds, fresh, made, effect_of, effected, with_flags, witnessed, station_answer, next_set, removed}
use Rattle.token_ring.proofs.FlagLaws.{length_cleared}

-- ---- update

pub swept_rise : (sa da : ℕ) (l : List Bool) → sa < da → swept sa da l ≡ cleared sa da l
unfolding swept
swept_rise sa da l h = rw (lt-leb da sa h)

pub swept_wrap : (sa da : ℕ) (l : List Bool) → da ≤ sa → swept sa da l ≡ cleared 0 da (cleared sa 128 l)
unfolding swept
swept_wrap sa da l h = rw (le-leb da sa h)

length_if : (b : Bool) (x y : List Bool) (n : ℕ) → length x ≡ n → length y ≡ n → length (if b x y) ≡ n
length_if true x y n h k = h
length_if false x y n h k = k

pub length_swept : (sa da : ℕ) (l : List Bool) → length (swept sa da l) ≡ length l
unfolding swept
length_swept sa da l =
    length_if (wrap sa da) (cleared 0 da (cleared sa 128 l)) (cleared sa da l) (length l)
    (length_cleared 0 da (cleared sa 128 l) ∙ length_cleared sa 128 l)
    (length_cleared sa da l)

pub length_passed : (sa da : ℕ) (l : List Bool) → length (passed sa da l) ≡ length l
unfolding passed
length_passed sa da l = length-set (swept sa da l) sa true ∙ length_swept sa da l

-- ---- whether a pass holds

module _ (sa da : ℕ) (l : List Bool) where
  pub holds_no_sa : active l sa ≡ false → holds sa da l ≡ false
  unfolding holds
  holds_no_sa e = rw e

  module _ (e : active l sa ≡ true) where
    pub holds_no_da : active l da ≡ false → holds sa da l ≡ false
    unfolding holds
    holds_no_da f = rw (e, f)

    module _ (f : active l da ≡ true) where
      pub holds_rise : sa < da → holds sa da l ≡ quiet (sa + 1) da l
      unfolding holds
      holds_rise h = rw (e, f, lt-leb da sa h, add-one)

      pub holds_wrap : da ≤ sa → holds sa da l ≡ (quiet (sa + 1) 128 l && quiet 0 da l)
      unfolding holds
      holds_wrap h = rw (e, f, le-leb da sa h, add-one)

-- ---- next and previous

module _ (own : ℕ) (l : List Bool) where
  pub next_above : (a : ℕ) → lowest_from (suc own) l ≡ Some a → next_of own l ≡ a
  unfolding next_of
  next_above a e = rw e

  pub next_round : (a : ℕ) → lowest_from (suc own) l ≡ None → lowest_from 0 l ≡ Some a → next_of own l ≡ a
  unfolding next_of
  next_round a e f = rw (e, f)

  pub next_none : lowest_from (suc own) l ≡ None → lowest_from 0 l ≡ None → next_of own l ≡ own
  unfolding next_of
  next_none e f = rw (e, f)

  pub previous_below : (a : ℕ) → highest_below own l ≡ Some a → previous_of own l ≡ a
  unfolding previous_of
  previous_below a e = rw e

  pub previous_round : (a : ℕ) → highest_below own l ≡ None → highest_below 128 l ≡ Some a → previous_of own l ≡ a
  unfolding previous_of
  previous_round a e f = rw (e, f)

  pub previous_none : highest_below own l ≡ None → highest_below 128 l ≡ None → previous_of own l ≡ own
  unfolding previous_of
  previous_none e f = rw (e, f)

-- ---- an own, set or removed address: above 125 it is refused

module _ (a : ℕ) where
  pub answers_11 : 125 < a → station_answer a ≡ 11
  answers_11 h = rw (lt-ltb 125 a h)

  pub answers_done : a ≤ 125 → station_answer a ≡ 0
  answers_done h = rw (le-ltb 125 a h)

  pub made_refused : 125 < a → made a ≡ fresh 0
  unfolding made
  made_refused h = rw (lt-ltb 125 a h)

  pub made_fresh : a ≤ 125 → made a ≡ fresh a
  unfolding made
  made_fresh h = rw (le-ltb 125 a h)

  module _ (r : TokenRing) where
    pub set_refused : 125 < a → next_set a r ≡ r
    unfolding next_set
    set_refused h = rw (lt-ltb 125 a h)

    pub set_done : a ≤ 125 → next_set a r ≡ with_flags (passed r.this_station.0 a (set r.active_stations a true)) r
    unfolding next_set
    set_done h = rw (le-ltb 125 a h)

    pub remove_refused_lem : 125 < a → removed a r ≡ r
    unfolding removed
    remove_refused_lem h = rw (lt-ltb 125 a h)

    pub remove_done : a ≤ 125 → removed a r ≡ with_flags (set r.active_stations a false) r
    unfolding removed
    remove_done h = rw (le-ltb 125 a h)

-- ---- a witnessed pass

pub witnessed_sa : (sa da : ℕ) (r : TokenRing) → 125 < sa → witnessed sa da r ≡ r
unfolding witnessed
witnessed_sa sa da r h = rw (lt-ltb 125 sa h)

pub witnessed_da : (sa da : ℕ) (r : TokenRing) → sa ≤ 125 → 125 < da → witnessed sa da r ≡ r
unfolding witnessed
witnessed_da sa da r h k = rw (le-ltb 125 sa h, lt-ltb 125 da k)

-- a pass with either address above 125 changes nothing
pub witnessed_ignored : (sa da : ℕ) (r : TokenRing) → (125 < sa) ⊎ (125 < da) → witnessed sa da r ≡ r
witnessed_ignored sa da r (inl h) = witnessed_sa sa da r h
witnessed_ignored sa da r (inr k) =
    by_cases (dec_lt 125 sa) (λ h. witnessed_sa sa da r h) (λ h. witnessed_da sa da r (omega arith) k)

-- any other pass has the effect of its phase
pub witnessed_effect : (sa da : ℕ) (r : TokenRing) → sa ≤ 125 → da ≤ 125
    → witnessed sa da r ≡ effected (effect_of r.las_state sa da r.active_stations) sa da r
unfolding witnessed
witnessed_effect sa da r h k = rw (le-ltb 125 sa h, le-ltb 125 da k)
