-- Station lists for which demand 2 is refuted: the one that document 01 names, its traps, and those that refuse too little, too much or not
-- wholly. Each is any list that has the fault.
use Prim.Native.Nat.{ℕ, ◌≤◌, ◌<◌}
use mathlib.Core.Bool.{Bool, true, false}
use mathlib.Core.Path.{◌≡◌, refl, sym, ◌∙◌}
use borrow.Author.Tests.{ltb-true}
use native.Mathlib.Omega.{arith}
use lib.Dec.{eqb, lit≤, ltb}
use Rattle.ground.specs.Pick.{if}
use Rattle.token_ring.specs.Rules.{station_answer}
use Rattle.ground.proofs.Injective.{zero_one}
use Rattle.station_lists.specs.StationLists.{StationList, PassHolds, Reached, by_new, by_witness, Stays, IsStationList}
use Rattle.token_ring.specs.declared.las_state.LasState.TheVariants.{Uninitialized, Discovery, Verification}

-- what is answered with 11 is above 125
refused_above : (a : ℕ) → station_answer a ≡ 11 → 125 < a
refused_above a e = by (ltb 125 a) refl e
  where
    by : (t : Bool) → ltb 125 a ≡ t → ◌≡◌ {A = ℕ} (if t 11 0) 11 → 125 < a
    by true h f = ltb-true 125 a h
    by false h f = absurd (omega arith)

module _ (S : StationList) (is : IsStationList S) where
  -- own 7, and after 9-2
  abbrev first : S.State
  first = (S.new 7).list

  abbrev second : S.State
  second = S.witness 9 2 first

  first_phase_lem : S.phase first ≡ Uninitialized
  first_phase_lem = (is.fresh 7 (lit≤ tt)).phase

  second_phase : S.phase second ≡ Discovery
  second_phase = (is.uninitialized 9 2 first (by_new 7) (lit≤ tt) (lit≤ tt) first_phase_lem).phase

  second_clear : (a : ℕ) → S.active second a ≡ eqb a 7
  second_clear a = (is.uninitialized 9 2 first (by_new 7) (lit≤ tt) (lit≤ tt) first_phase_lem).active a ∙ (is.fresh 7 (lit≤ tt)).active a

  -- "a station list that never moves": one whose phase a pass never changes, and one whose set a pass never changes
  pub never_moves : ((sa da : ℕ) (r : S.State) → S.phase (S.witness sa da r) ≡ S.phase r) → ⊥
  never_moves still = let e = sym second_phase ∙ still 9 2 first ∙ first_phase_lem in zero_one (cc)

  pub never_learns : ((sa da a : ℕ) (r : S.State) → S.active (S.witness sa da r) a ≡ S.active r a) → ⊥
  never_learns still =
      let e = sym ((is.discovery 2 5 second (by_witness 9 2 (by_new 7)) (lit≤ tt) (lit≤ tt) second_phase).active 2) ∙ still 2 5 2 second ∙ second_clear 2 in
      zero_one (cc)

  -- "Updating flags in Uninitialized"
  pub updates_uninitialized : S.active second 9 ≡ true → ⊥
  updates_uninitialized set = let e = sym set ∙ second_clear 9 in zero_one (cc)

  -- "or moving to Verification after a failed wrap"
  pub verification_after_a_failed_wrap : (sa da : ℕ) (r : S.State) → Reached S r → sa ≤ 125 → da ≤ sa → S.phase r ≡ Verification → (PassHolds (S.active r) sa da → ⊥) → S.phase (S.witness sa da r) ≡ Verification → ⊥
  verification_after_a_failed_wrap sa da r w h wraps e fails moves =
      let f = sym (is.failed sa da r w h (omega arith) e fails).phase ∙ moves in zero_one (cc)

  -- one that refuses nothing: not an own address, not a set one, not a removed one
  pub refuses_no_own : ((own : ℕ) → (S.new own).answer ≡ 0) → ⊥
  refuses_no_own all = let e = sym (all 126) ∙ is.new_answers 126 in omega arith

  pub refuses_no_next : ((a : ℕ) (r : S.State) → (S.set_next a r).answer ≡ 0) → ⊥
  refuses_no_next all = let e = sym (all 126 first) ∙ is.set_next_answers 126 first (by_new 7) in omega arith

  pub refuses_no_removal : ((a : ℕ) (r : S.State) → (S.remove a r).answer ≡ 0) → ⊥
  refuses_no_removal all = let e = sym (all 126 first) ∙ is.remove_answers 126 first (by_new 7) in omega arith

  -- one that takes 126, or leaves it behind a refusal
  pub takes_own_126 : (S.new 126).answer ≡ 0 → ⊥
  takes_own_126 done = let e = sym done ∙ is.new_answers 126 in omega arith

  pub keeps_own_126 : S.own (S.new 126).list ≡ 126 → ⊥
  keeps_own_126 kept = let e = sym kept ∙ (is.new_refused 126 (lit≤ tt)).own in omega arith

  -- one that refuses address 125
  pub refuses_own_125 : (S.new 125).answer ≡ 11 → ⊥
  refuses_own_125 refused = let e = sym refused ∙ is.new_answers 125 in omega arith

  module _ (r : S.State) (w : Reached S r) where
    pub takes_next_126 : (S.set_next 126 r).answer ≡ 0 → ⊥
    takes_next_126 done = let e = sym done ∙ is.set_next_answers 126 r w in omega arith

    pub takes_removed_126 : (S.remove 126 r).answer ≡ 0 → ⊥
    takes_removed_126 done = let e = sym done ∙ is.remove_answers 126 r w in omega arith

    pub refuses_next_125 : (S.set_next 125 r).answer ≡ 11 → ⊥
    refuses_next_125 refused = let e = sym refused ∙ is.set_next_answers 125 r w in omega arith

    pub refuses_removed_125 : (S.remove 125 r).answer ≡ 11 → ⊥
    refuses_removed_125 refused = let e = sym refused ∙ is.remove_answers 125 r w in omega arith

    -- one that answers 11 and changes: its set, its next station or its phase
    module _ (a : ℕ) where
      next_stays : (S.set_next a r).answer ≡ 11 → Stays S (S.phase r) r (S.set_next a r).list
      next_stays refused = is.next_refused a r w (refused_above a (sym (is.set_next_answers a r w) ∙ refused))

      removal_stays : (S.remove a r).answer ≡ 11 → Stays S (S.phase r) r (S.remove a r).list
      removal_stays refused = is.remove_refused a r w (refused_above a (sym (is.remove_answers a r w) ∙ refused))

      pub refused_next_changes_the_set : (b : ℕ) → (S.set_next a r).answer ≡ 11 → (S.active (S.set_next a r).list b ≡ S.active r b → ⊥) → ⊥
      refused_next_changes_the_set b refused changes = changes ((next_stays refused).active b)

      pub refused_next_is_set : (S.set_next a r).answer ≡ 11 → (S.next (S.set_next a r).list ≡ S.next r → ⊥) → ⊥
      refused_next_is_set refused changes = changes (next_stays refused).next

      pub refused_next_changes_the_phase : (S.set_next a r).answer ≡ 11 → (S.phase (S.set_next a r).list ≡ S.phase r → ⊥) → ⊥
      refused_next_changes_the_phase refused changes = changes (next_stays refused).phase

      pub refused_removal_changes_the_set : (b : ℕ) → (S.remove a r).answer ≡ 11 → (S.active (S.remove a r).list b ≡ S.active r b → ⊥) → ⊥
      refused_removal_changes_the_set b refused changes = changes ((removal_stays refused).active b)
