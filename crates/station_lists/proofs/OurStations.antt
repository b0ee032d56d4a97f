-- Our station list is one: the rules that the promises of `TokenRing` cite keep every sentence of document 01. Read `ours_is`, over `ours`; and
-- `sound`, what every list has that the calls make.
use Prim.Native.Nat.{ℕ, suc, ◌≤◌, ◌<◌}
use mathlib.Core.Bool.{Bool, true, false}
use mathlib.Core.List.{List}
use mathlib.Core.Logic.{◌⊎◌, inl, inr}
use mathlib.Core.Path.{◌≡◌, refl, ap, ◌∙◌}
use native.Mathlib.Omega.{arith}
use borrow.Author.Tests.{le-ltb, lt-ltb}
use lib.Dec.{eqb, lit≤}
use lib.ListN.{length, set, replicate, length-set, length-replicate}
use Rattle.std.proofs.Common.{None, Option, Some}
use Rattle.station_lists.specs.StationLists.{StationList, IsNext, lowest_above, lowest_of_all, nobody_next, IsPrevious, highest_below, highest_of_all, nobody_previous, updated_set, PassHolds, Reached, by_new, by_witness, by_claim, by_set_next, by_remove, Stays, Becomes, Fresh, IsStationList}
use Rattle.ground.specs.Pick.{if}
use Rattle.token_ring.proofs.ByIndex.{set_at, passed_at}
use Rattle.token_ring.proofs.Neighbours.{holds_means, means_holds}
use Rattle.token_ring.proofs.RuleLaws.{length_passed, witnessed_effect, witnessed_ignored}
use Rattle.token_ring.proofs.Sets.{both, unset, active_within, lowest_found, lowest_none, highest_found, highest_none}
use Rattle.token_ring.proofs.Sound.{clear_at, sound_new, sound_witness, sound_claim, sound_set_next, sound_remove}
use Rattle.token_ring.specs.Flags as flags
use Rattle.token_ring.specs.Flags.{active, lowest_from}
use Rattle.token_ring.specs.Meaning.{Sound}
use Rattle.token_ring.specs.Rules as rules
use Rattle.token_ring.specs.Rules.{wrap, passed, or_else, next_of, previous_of, holds, fresh, made, in_phase, station_answer, with_flags, updated, effect_of, effected, witnessed}
use Rattle.token_ring.specs.declared.las_state.LasState.{LasState}
use Rattle.token_ring.specs.declared.las_state.LasState.TheVariants.{Uninitialized, Discovery, Verification, Valid}
use Rattle.token_ring.specs.declared.ring.TokenRing.{TokenRing}

-- the station list that the promises of the calls of `TokenRing` make
abbrev pub ours : StationList
ours =
    record {
      State = TokenRing;
      new = λ own. record { answer = station_answer own; list = made own };
      witness = witnessed;
      claim = rules.claimed;
      set_next = λ a r. record { answer = station_answer a; list = rules.next_set a r };
      remove = λ a r. record { answer = station_answer a; list = rules.removed a r };
      active = λ r a. active r.active_stations a;
      own = λ r. r.this_station.0;
      next = λ r. r.next_station.0;
      previous = λ r. r.previous_station.0;
      phase = λ r. r.las_state;
    }

-- Every list that the calls make has 128 flags, those above 125 never set, an own address up to 125, and next and previous by the rule.
pub sound : {r : TokenRing} → Reached ours r → Sound r
sound (by_new own) = sound_new own
sound (by_witness sa da w) = sound_witness (sound w) sa da
sound (by_claim w) = sound_claim (sound w)
sound (by_set_next a w) = sound_set_next (sound w) a
sound (by_remove a w) = sound_remove (sound w) a

-- ---- neighbours

module _ (own : ℕ) (l : List Bool) (size : length l ≡ 128) where
  next_by : (o o₀ : Option ℕ) → lowest_from (suc own) l ≡ o → lowest_from 0 l ≡ o₀ → IsNext (active l) own (or_else o (or_else o₀ own))
  next_by (Some a) o₀ e f =
      let w = lowest_found (suc own) l a e in lowest_above w.active (omega arith) (λ b h g. w.lowest b (omega arith) g)
  next_by None (Some a) e f =
      let w = lowest_found 0 l a f in
      lowest_of_all w.active (λ b h. lowest_none (suc own) l e b (omega arith)) (λ b g. w.lowest b (omega arith) g)
  next_by None None e f = nobody_next (λ b. lowest_none 0 l f b (omega arith))

  next_is : IsNext (active l) own (next_of own l)
  unfolding next_of
  next_is = next_by (lowest_from (suc own) l) (lowest_from 0 l) refl refl

  low : (b : ℕ) → active l b ≡ true → b < 128
  low b g = let k : b < length l = active_within l b g in omega arith

  previous_by : (o o₀ : Option ℕ) → flags.highest_below own l ≡ o → flags.highest_below 128 l ≡ o₀
      → IsPrevious (active l) own (or_else o (or_else o₀ own))
  previous_by (Some a) o₀ e f =
      let w = highest_found own l a e in highest_below w.active w.below (λ b h g. w.highest b h g)
  previous_by None (Some a) e f =
      let w = highest_found 128 l a f in
      highest_of_all w.active (λ b h. highest_none own l e b h) (λ b g. w.highest b (low b g) g)
  previous_by None None e f = nobody_previous (λ b. unset _ (λ g. both g (highest_none 128 l f b (low b g))))

  previous_is : IsPrevious (active l) own (previous_of own l)
  unfolding previous_of
  previous_is = previous_by (flags.highest_below own l) (flags.highest_below 128 l) refl refl

-- ---- what a list becomes

module _ (r : TokenRing) where
  -- other flags: the set is theirs
  becomes : (l : List Bool) (set : ℕ → Bool) → length l ≡ 128 → ((a : ℕ) → active l a ≡ set a)
      → Becomes ours r.las_state set r (with_flags l r)
  unfolding with_flags
  becomes l set size at =
      record {
        active = at;
        own = refl;
        next = next_is r.this_station.0 l size;
        previous = previous_is r.this_station.0 l size;
        phase = refl;
      }

  -- then in another phase
  becomes_in : (after : LasState) (s : TokenRing) {before : LasState} {set : ℕ → Bool} → Becomes ours before set r s
      → Becomes ours after set r (in_phase after s)
  unfolding in_phase
  becomes_in after s b = record { active = b.active; own = b.own; next = b.next; previous = b.previous; phase = refl }

  stays_in : (after : LasState) → Stays ours after r (in_phase after r)
  unfolding in_phase
  stays_in after = record { active = λ a. refl; own = refl; next = refl; previous = refl; phase = refl }

  stays : (s : TokenRing) → s ≡ r → Stays ours r.las_state r s
  stays s e = rw e (record { active = λ a. refl; own = refl; next = refl; previous = refl; phase = refl })

-- ---- a pass

module _ (sa da : ℕ) (r : TokenRing) (s : Sound r) where
  -- it holds where the rule says so
  passes : PassHolds (active r.active_stations) sa da → holds sa da r.active_stations ≡ true
  passes p = means_holds sa da r.active_stations s.size p.source p.destination p.between

  passes_not : (PassHolds (active r.active_stations) sa da → ⊥) → holds sa da r.active_stations ≡ false
  passes_not fails =
      unset _ (λ h.
      let w = holds_means sa da r.active_stations s.size h in
      fails (record { source = w.0; destination = w.1; between = w.2 }))

module _ (sa da : ℕ) (r : TokenRing) (s : Sound r) (small : sa ≤ 125) (low : da ≤ 125) where
  becomes_updated : Becomes ours r.las_state (updated_set sa da (active r.active_stations)) r (updated sa da r)
  unfolding updated
  becomes_updated =
      becomes r (passed sa da r.active_stations) _ (length_passed sa da r.active_stations ∙ s.size)
      (λ a. passed_at sa da r.active_stations a (omega (arith, s.size)))

  -- the effect of the phase in which the list is
  effect_in : (phase : LasState) → r.las_state ≡ phase
      → witnessed sa da r ≡ effected (effect_of phase sa da r.active_stations) sa da r
  effect_in phase e = witnessed_effect sa da r small low ∙ ap (λ p. effected (effect_of p sa da r.active_stations) sa da r) e

  updates : (after : LasState) → Becomes ours after (updated_set sa da (active r.active_stations)) r (in_phase after (updated sa da r))
  updates after = becomes_in r after (updated sa da r) becomes_updated

  in_uninitialized : r.las_state ≡ Uninitialized → Stays ours (if (wrap sa da) Discovery Uninitialized) r (witnessed sa da r)
  unfolding effect_of effected
  in_uninitialized e = rw (effect_in Uninitialized e) (stays_in r _)

  in_discovery : r.las_state ≡ Discovery
      → Becomes ours (if (wrap sa da) Verification Discovery) (updated_set sa da (active r.active_stations)) r (witnessed sa da r)
  unfolding effect_of effected
  in_discovery e = rw (effect_in Discovery e) (updates _)

  in_valid : r.las_state ≡ Valid → Becomes ours Valid (updated_set sa da (active r.active_stations)) r (witnessed sa da r)
  unfolding effect_of effected
  in_valid e = rw (effect_in Valid e) (updates _)

  in_verification_held : r.las_state ≡ Verification → PassHolds (active r.active_stations) sa da
      → Stays ours (if (wrap sa da) Valid Verification) r (witnessed sa da r)
  unfolding effect_of effected
  in_verification_held e p = rw (effect_in Verification e, passes sa da r s p) (stays_in r _)

  in_verification_failed : r.las_state ≡ Verification → (PassHolds (active r.active_stations) sa da → ⊥)
      → Becomes ours Discovery (updated_set sa da (active r.active_stations)) r (witnessed sa da r)
  unfolding effect_of effected
  in_verification_failed e p = rw (effect_in Verification e, passes_not sa da r s p) (updates _)

-- ---- the other calls

fresh_is : (own : ℕ) → own ≤ 125 → Fresh ours own (fresh own)
unfolding fresh
fresh_is own h =
    record {
      active = λ a. set_at (replicate 128 false) own true a (rw (length-replicate 128 false) (omega arith)) ∙ rw (clear_at a) (yes_no (eqb a own));
      own = refl;
      next = refl;
      previous = refl;
      phase = refl;
    }
  where
    yes_no : (t : Bool) → if t true false ≡ t
    yes_no true = refl
    yes_no false = refl

made_is : (own : ℕ) → own ≤ 125 → Fresh ours own (made own)
unfolding made
made_is own h = rw (le-ltb 125 own h) (fresh_is own h)

-- beside the refusal stands the fresh list of address 0
made_refused : (own : ℕ) → 125 < own → Fresh ours 0 (made own)
unfolding made
made_refused own h = rw (lt-ltb 125 own h) (fresh_is 0 (lit≤ tt))

module _ (a : ℕ) (r : TokenRing) (s : Sound r) where
  set_next_lem : a ≤ 125
      → Becomes ours r.las_state (updated_set r.this_station.0 a (λ b. if (eqb b a) true (active r.active_stations b))) r (rules.next_set a r)
  unfolding rules.next_set
  set_next_lem h =
      let marked = set r.active_stations a true in
      let size : length marked ≡ 128 = length-set r.active_stations a true ∙ s.size in
      let own : r.this_station.0 < length marked = omega (arith, s.own) in
      rw (le-ltb 125 a h)
      (becomes r (passed r.this_station.0 a marked) _ (length_passed r.this_station.0 a marked ∙ size)
      (λ i. passed_at r.this_station.0 a marked i own ∙ rw (set_at r.active_stations a true i (omega (arith, s.size)))))

  set_next_refused : 125 < a → Stays ours r.las_state r (rules.next_set a r)
  unfolding rules.next_set
  set_next_refused h = stays r _ (rw (lt-ltb 125 a h))

  remove : a ≤ 125 → Becomes ours r.las_state (λ b. if (eqb b a) false (active r.active_stations b)) r (rules.removed a r)
  unfolding rules.removed
  remove h =
      rw (le-ltb 125 a h)
      (becomes r (set r.active_stations a false) _ (length-set r.active_stations a false ∙ s.size)
      (λ i. set_at r.active_stations a false i (omega (arith, s.size))))

  remove_refused_lem : 125 < a → Stays ours r.las_state r (rules.removed a r)
  unfolding rules.removed
  remove_refused_lem h = stays r _ (rw (lt-ltb 125 a h))

-- A pass of a list that the calls make holds or fails.
pub passes_or_not : (sa da : ℕ) (r : TokenRing) → Reached ours r
    → PassHolds (active r.active_stations) sa da ⊎ (PassHolds (active r.active_stations) sa da → ⊥)
passes_or_not sa da r w = by (holds sa da r.active_stations) refl
  where
    by : (t : Bool) → holds sa da r.active_stations ≡ t
        → PassHolds (active r.active_stations) sa da ⊎ (PassHolds (active r.active_stations) sa da → ⊥)
    by true e =
        let p = holds_means sa da r.active_stations (sound w).size e in
        inl (record { source = p.0; destination = p.1; between = p.2 })
    by false e = inr (λ p. both (passes sa da r (sound w) p) e)

-- Our station list keeps every sentence.
pub ours_is : IsStationList ours
ours_is =
    record {
      new_answers = λ own. refl;
      set_next_answers = λ a r w. refl;
      remove_answers = λ a r w. refl;
      new_refused = made_refused;
      next_refused = λ a r w h. set_next_refused a r (sound w) h;
      remove_refused = λ a r w h. remove_refused_lem a r (sound w) h;
      fresh = made_is;
      ignored = λ sa da r w h. stays r _ (witnessed_ignored sa da r h);
      uninitialized = λ sa da r w h k e. in_uninitialized sa da r (sound w) h k e;
      discovery = λ sa da r w h k e. in_discovery sa da r (sound w) h k e;
      held = λ sa da r w h k e p. in_verification_held sa da r (sound w) h k e p;
      failed = λ sa da r w h k e p. in_verification_failed sa da r (sound w) h k e p;
      valid = λ sa da r w h k e. in_valid sa da r (sound w) h k e;
      claimed = λ r w. stays_in r Valid;
      next_set = λ a r w h. set_next_lem a r (sound w) h;
      removed = λ a r w h. remove a r (sound w) h;
    }
