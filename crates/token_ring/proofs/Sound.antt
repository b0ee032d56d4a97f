-- What every list has that the calls make: `sound_new` says it of the list as it is made, and `sound_witness`, `sound_claim`, `sound_set_next` and
-- `sound_remove` say that each call keeps it. `sound` in `station_lists` puts them together.
use Rattle.std.proofs.Common.{◌≡◌, ℕ, ◌<◌, ◌≤◌, Bool, true, false, List, length, set, replicate, sym, refl, ◌∙◌, inl, inr, ⊎_elim, arith, length-set, get_or-set_other}
use mathlib.Core.Logic.{by_cases}
use native.Mathlib.Decide.{dec_lt}
use lib.ListN.{length-replicate, get_or-replicate, get_or-eq_default}
use Rattle.ground.specs.Pick.{if}
use Rattle.token_ring.specs.declared.las_state.LasState.{LasState}
use Rattle.token_ring.specs.declared.ring.TokenRing.{TokenRing}
use Rattle.token_ring.specs.Flags.{active}
use Rattle.token_ring.specs.Rules.{swept, passed, fresh, made, in_phase, with_flags, updated, Effect, effected, witnessed, claimed, next_set, removed}
use Rattle.token_ring.specs.Meaning.{Active, in_gap, Sound}
use Rattle.token_ring.proofs.FlagLaws.{if_same}
use Rattle.token_ring.proofs.RuleLaws.{length_passed, made_fresh, made_refused, remove_done, remove_refused_lem, set_done, set_refused, witnessed_effect, witnessed_ignored}
use Rattle.token_ring.proofs.Sets.{both}
use Rattle.token_ring.proofs.Neighbours.{next_active, previous_active}
use Rattle.token_ring.proofs.ByIndex.{swept_at}

-- no flag above 125 is set
abbrev Low : List Bool → Type 0
Low l = (a : ℕ) → 125 < a → active l a ≡ false

-- ---- the changes of the flags

low_set : (l : List Bool) (b : ℕ) (x : Bool) → b ≤ 125 → Low l → Low (set l b x)
low_set l b x h low a k = get_or-set_other l b a x false (λ e. omega arith) ∙ low a k

low_passed : (sa da : ℕ) (l : List Bool) → sa ≤ 125 → Low l → Low (passed sa da l)
unfolding passed
low_passed sa da l h low = low_set (swept sa da l) sa true h (λ a k. swept_at sa da l a ∙ rw (low a k) (if_same (in_gap sa da a) false))

-- ---- the list as it is made

pub clear_at : (a : ℕ) → active (replicate 128 false) a ≡ false
clear_at a =
    by_cases (dec_lt a 128)
    (λ h. get_or-replicate 128 a false false h)
    (λ h. let k : length (replicate 128 false) ≤ a = rw (length-replicate 128 false) (omega arith) in get_or-eq_default (replicate 128 false) false k)

only_own : (own a : ℕ) → Active (set (replicate 128 false) own true) a → a ≡ own
only_own own a e =
    by_cases (dec_lt a own)
    (λ h. both e (get_or-set_other (replicate 128 false) own a true false (λ f. omega arith) ∙ clear_at a))
    (λ h. by_cases (dec_lt own a)
    (λ k. both e (get_or-set_other (replicate 128 false) own a true false (λ f. omega arith) ∙ clear_at a))
    (λ k. omega arith))

pub sound_fresh : (own : ℕ) → own ≤ 125 → Sound (fresh own)
unfolding fresh
sound_fresh own h =
    let flags = set (replicate 128 false) own true in
    let size : length flags ≡ 128 = length-set (replicate 128 false) own true ∙ length-replicate 128 false in
    record {
      size = size;
      high = low_set (replicate 128 false) own true h (λ a k. clear_at a);
      own = h;
      next = sym (⊎_elim (only_own own _) (λ e. e) (next_active own flags));
      previous = sym (⊎_elim (only_own own _) (λ e. e) (previous_active own flags size));
    }

sound_if : {x y : TokenRing} (t : Bool) → Sound x → Sound y → Sound (if t x y)
sound_if true p q = p
sound_if false p q = q

-- ---- what each call does

module _ {r : TokenRing} (s : Sound r) where
  pub sound_in_phase : (phase : LasState) → Sound (in_phase phase r)
  unfolding in_phase
  sound_in_phase phase = record { size = s.size; high = s.high; own = s.own; next = s.next; previous = s.previous }

  sound_with_flags : (l : List Bool) → length l ≡ 128 → Low l → Sound (with_flags l r)
  unfolding with_flags
  sound_with_flags l size low = record { size = size; high = low; own = s.own; next = refl; previous = refl }

  sound_passed : (sa da : ℕ) (l : List Bool) → sa ≤ 125 → length l ≡ 128 → Low l → Sound (with_flags (passed sa da l) r)
  sound_passed sa da l h size low = sound_with_flags (passed sa da l) (length_passed sa da l ∙ size) (low_passed sa da l h low)

  pub sound_updated : (sa da : ℕ) → sa ≤ 125 → Sound (updated sa da r)
  unfolding updated
  sound_updated sa da h = sound_passed sa da r.active_stations h s.size s.high

  pub sound_set_next : (a : ℕ) → Sound (next_set a r)
  sound_set_next a =
      by_cases (dec_lt 125 a)
      (λ h. rw (set_refused a r h) s)
      (λ h. let k : a ≤ 125 = omega arith in
      rw (set_done a r k)
      (sound_passed r.this_station.0 a (set r.active_stations a true) s.own (length-set r.active_stations a true ∙ s.size)
      (low_set r.active_stations a true k s.high)))

  pub sound_remove : (a : ℕ) → Sound (removed a r)
  sound_remove a =
      by_cases (dec_lt 125 a)
      (λ h. rw (remove_refused_lem a r h) s)
      (λ h. let k : a ≤ 125 = omega arith in
      rw (remove_done a r k) (sound_with_flags (set r.active_stations a false) (length-set r.active_stations a false ∙ s.size)
      (low_set r.active_stations a false k s.high)))

module _ {r : TokenRing} (s : Sound r) where
  sound_effected : (e : Effect) (sa da : ℕ) → sa ≤ 125 → Sound (effected e sa da r)
  unfolding effected
  sound_effected e sa da h = sound_in_phase (sound_if e.update (sound_updated s sa da h) s) e.phase

  pub sound_witness : (sa da : ℕ) → Sound (witnessed sa da r)
  sound_witness sa da =
      by_cases (dec_lt 125 sa)
      (λ h. rw (witnessed_ignored sa da r (inl h)) s)
      (λ h. by_cases (dec_lt 125 da)
      (λ k. rw (witnessed_ignored sa da r (inr k)) s)
      (λ k. rw (witnessed_effect sa da r (omega arith) (omega arith)) (sound_effected _ sa da (omega arith))))

  pub sound_claim : Sound (claimed r)
  sound_claim = sound_in_phase s _

pub sound_new : (own : ℕ) → Sound (made own)
sound_new own =
    by_cases (dec_lt 125 own)
    (λ h. rw (made_refused own h) (sound_fresh 0 (omega arith)))
    (λ h. let k : own ≤ 125 = omega arith in rw (made_fresh own k) (sound_fresh own k))
