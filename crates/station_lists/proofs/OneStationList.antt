-- The demand leaves one station list: no two that keep it differ, after any row of calls, refused ones included, in what may be asked of them
-- (`one_station_list`) or in what their calls answer (`one_answer`).
use Prim.Native.Nat.{ℕ, ◌≤◌, ◌<◌}
use mathlib.Core.Bool.{Bool, true, false}
use mathlib.Core.Logic.{◌⊎◌, inl, inr, by_cases}
use mathlib.Core.Path.{◌≡◌, refl, sym, ap, subst, ◌∙◌}
use native.Mathlib.Decide.{dec_lt}
use native.Mathlib.Omega.{arith}
use lib.Dec.{eqb}
use Rattle.station_lists.proofs.OurStations.{ours, ours_is, passes_or_not}
use Rattle.station_lists.specs.StationLists.{StationList, IsNext, lowest_above, lowest_of_all, nobody_next, IsPrevious, highest_below, highest_of_all, nobody_previous, updated_set, PassHolds, Reached, by_new, by_witness, by_claim, by_set_next, by_remove, Stays, Becomes, Fresh, IsStationList, SameCalls, both_new, both_witness, both_claim, both_set_next, both_remove, SeenAlike, AnswersAlike}
use Rattle.ground.specs.Pick.{if}
use Rattle.token_ring.proofs.Sets.{both}
use Rattle.token_ring.specs.Meaning.{in_gap}
use Rattle.token_ring.specs.declared.las_state.LasState.{LasState}
use Rattle.token_ring.specs.declared.las_state.LasState.TheVariants.{Uninitialized, Discovery, Verification, Valid}
use Rattle.token_ring.specs.declared.ring.TokenRing.{TokenRing}

-- ---- a set has one next and one previous

next_one : {active : ℕ → Bool} {own m n : ℕ} → IsNext active own m → IsNext active own n → m ≡ n
next_one (lowest_above {a = m} p h least) (lowest_above {a = n} q k least') = omega (arith, least n k q, least' m h p)
next_one (lowest_above {a = m} p h least) (lowest_of_all {a = n} q none least') = both p (none m h)
next_one (lowest_above {a = m} p h least) (nobody_next none) = both p (none m)
next_one (lowest_of_all {a = m} p none least) (lowest_above {a = n} q k least') = both q (none n k)
next_one (lowest_of_all {a = m} p none least) (lowest_of_all {a = n} q none' least') = omega (arith, least n q, least' m p)
next_one (lowest_of_all {a = m} p none least) (nobody_next none') = both p (none' m)
next_one (nobody_next none) (lowest_above {a = n} q k least) = both q (none n)
next_one (nobody_next none) (lowest_of_all {a = n} q none' least) = both q (none n)
next_one (nobody_next none) (nobody_next none') = refl

previous_one : {active : ℕ → Bool} {own m n : ℕ} → IsPrevious active own m → IsPrevious active own n → m ≡ n
previous_one (highest_below {a = m} p h most) (highest_below {a = n} q k most') = omega (arith, most n k q, most' m h p)
previous_one (highest_below {a = m} p h most) (highest_of_all {a = n} q none most') = both p (none m h)
previous_one (highest_below {a = m} p h most) (nobody_previous none) = both p (none m)
previous_one (highest_of_all {a = m} p none most) (highest_below {a = n} q k most') = both q (none n k)
previous_one (highest_of_all {a = m} p none most) (highest_of_all {a = n} q none' most') = omega (arith, most n q, most' m p)
previous_one (highest_of_all {a = m} p none most) (nobody_previous none') = both p (none' m)
previous_one (nobody_previous none) (highest_below {a = n} q k most) = both q (none n)
previous_one (nobody_previous none) (highest_of_all {a = n} q none' most) = both q (none n)
previous_one (nobody_previous none) (nobody_previous none') = refl

module _ {p q : ℕ → Bool} {k l m n : ℕ} (sets : (a : ℕ) → p a ≡ q a) (owns : k ≡ l) where
  -- so two that have the same set and the same own address have the same
  next_same : IsNext p k m → IsNext q l n → m ≡ n
  next_same x y = next_one (subst (λ (t : ℕ → Bool). IsNext t l m) (λ i a. sets a i) (subst (λ (o : ℕ). IsNext p o m) owns x)) y

  previous_same : IsPrevious p k m → IsPrevious q l n → m ≡ n
  previous_same x y = previous_one (subst (λ (t : ℕ → Bool). IsPrevious t l m) (λ i a. sets a i) (subst (λ (o : ℕ). IsPrevious p o m) owns x)) y

-- ---- one call

module _ {S T : StationList} {r r' : S.State} {s s' : T.State} (alike : SeenAlike S T r s) where
  stay_alike : {after after' : LasState} → after ≡ after' → Stays S after r r' → Stays T after' s s' → SeenAlike S T r' s'
  stay_alike then x y =
      record {
        active = λ a. x.active a ∙ alike.active a ∙ sym (y.active a);
        own = x.own ∙ alike.own ∙ sym y.own;
        next = x.next ∙ alike.next ∙ sym y.next;
        previous = x.previous ∙ alike.previous ∙ sym y.previous;
        phase = x.phase ∙ then ∙ sym y.phase;
      }

  become_alike : {after after' : LasState} {f g : ℕ → Bool} → after ≡ after' → ((a : ℕ) → f a ≡ g a) → Becomes S after f r r'
      → Becomes T after' g s s'
      → SeenAlike S T r' s'
  become_alike then sets x y =
      let active : (a : ℕ) → S.active r' a ≡ T.active s' a = λ a. x.active a ∙ sets a ∙ sym (y.active a) in
      let own : S.own r' ≡ T.own s' = x.own ∙ alike.own ∙ sym y.own in
      record {
        active = active;
        own = own;
        next = next_same active own x.next y.next;
        previous = previous_same active own x.previous y.previous;
        phase = x.phase ∙ then ∙ sym y.phase;
      }

left_reached : {S T : StationList} {r : S.State} {s : T.State} → SameCalls S T r s → Reached S r
left_reached (both_new own) = by_new own
left_reached (both_witness sa da w) = by_witness sa da (left_reached w)
left_reached (both_claim w) = by_claim (left_reached w)
left_reached (both_set_next a w) = by_set_next a (left_reached w)
left_reached (both_remove a w) = by_remove a (left_reached w)

right_reached : {S T : StationList} {r : S.State} {s : T.State} → SameCalls S T r s → Reached T s
right_reached (both_new own) = by_new own
right_reached (both_witness sa da w) = by_witness sa da (right_reached w)
right_reached (both_claim w) = by_claim (right_reached w)
right_reached (both_set_next a w) = by_set_next a (right_reached w)
right_reached (both_remove a w) = by_remove a (right_reached w)

module _ {S : StationList} (is : IsStationList S) {r : S.State} {s : TokenRing} (w : SameCalls S ours r s) (alike : SeenAlike S ours r s) where
  module _ (sa da : ℕ) where
    sets : (a : ℕ) → updated_set sa da (S.active r) a ≡ updated_set sa da (ours.active s) a
    sets a = ap (λ x. if (eqb a sa) true (if (in_gap sa da a) false x)) (alike.active a)

    -- a pass that holds of the one list holds of the other
    to_ours : PassHolds (S.active r) sa da → PassHolds (ours.active s) sa da
    to_ours p =
        record {
          source = sym (alike.active sa) ∙ p.source;
          destination = sym (alike.active da) ∙ p.destination;
          between = λ a h. sym (alike.active a) ∙ p.between a h;
        }

    from_ours : PassHolds (ours.active s) sa da → PassHolds (S.active r) sa da
    from_ours p =
        record {
          source = alike.active sa ∙ p.source;
          destination = alike.active da ∙ p.destination;
          between = λ a h. alike.active a ∙ p.between a h;
        }

    module _ (h : sa ≤ 125) (k : da ≤ 125) where
      in_verification : ours.phase s ≡ Verification → PassHolds (ours.active s) sa da ⊎ (PassHolds (ours.active s) sa da → ⊥)
          → SeenAlike S ours (S.witness sa da r) (ours.witness sa da s)
      in_verification e (inl p) =
          stay_alike alike refl (is.held sa da r (left_reached w) h k (alike.phase ∙ e) (from_ours p)) (ours_is.held sa da s (right_reached w) h k e p)
      in_verification e (inr p) =
          become_alike alike refl sets (is.failed sa da r (left_reached w) h k (alike.phase ∙ e) (λ q. p (to_ours q))) (ours_is.failed sa da s (right_reached w) h k e p)

      in_phase_lem : (phase : LasState) → ours.phase s ≡ phase → SeenAlike S ours (S.witness sa da r) (ours.witness sa da s)
      in_phase_lem Uninitialized e =
          stay_alike alike refl (is.uninitialized sa da r (left_reached w) h k (alike.phase ∙ e)) (ours_is.uninitialized sa da s (right_reached w) h k e)
      in_phase_lem Discovery e =
          become_alike alike refl sets (is.discovery sa da r (left_reached w) h k (alike.phase ∙ e)) (ours_is.discovery sa da s (right_reached w) h k e)
      in_phase_lem Verification e = in_verification e (passes_or_not sa da s (right_reached w))
      in_phase_lem Valid e =
          become_alike alike refl sets (is.valid sa da r (left_reached w) h k (alike.phase ∙ e)) (ours_is.valid sa da s (right_reached w) h k e)

    above : (125 < sa) ⊎ (125 < da) → SeenAlike S ours (S.witness sa da r) (ours.witness sa da s)
    above h = stay_alike alike alike.phase (is.ignored sa da r (left_reached w) h) (ours_is.ignored sa da s (right_reached w) h)

    witness_alike : SeenAlike S ours (S.witness sa da r) (ours.witness sa da s)
    witness_alike =
        by_cases (dec_lt 125 sa) (λ h. above (inl h)) (λ h.
        by_cases (dec_lt 125 da) (λ k. above (inr k)) (λ k. in_phase_lem (omega arith) (omega arith) (ours.phase s) refl))

  claim_alike : SeenAlike S ours (S.claim r) (ours.claim s)
  claim_alike = stay_alike alike refl (is.claimed r (left_reached w)) (ours_is.claimed s (right_reached w))

  set_next_alike : (a : ℕ) → SeenAlike S ours (S.set_next a r).list (ours.set_next a s).list
  set_next_alike a =
      by_cases (dec_lt 125 a)
      (λ h. stay_alike alike alike.phase (is.next_refused a r (left_reached w) h) (ours_is.next_refused a s (right_reached w) h))
      (λ h. let k : a ≤ 125 = omega arith in
      become_alike alike alike.phase
      (λ b i. updated_set (alike.own i) a (λ c. if (eqb c a) true (alike.active c i)) b)
      (is.next_set a r (left_reached w) k) (ours_is.next_set a s (right_reached w) k))

  remove_alike : (a : ℕ) → SeenAlike S ours (S.remove a r).list (ours.remove a s).list
  remove_alike a =
      by_cases (dec_lt 125 a)
      (λ h. stay_alike alike alike.phase (is.remove_refused a r (left_reached w) h) (ours_is.remove_refused a s (right_reached w) h))
      (λ h. let k : a ≤ 125 = omega arith in
      become_alike alike alike.phase (λ b i. if (eqb b a) false (alike.active b i)) (is.removed a r (left_reached w) k) (ours_is.removed a s (right_reached w) k))

both_fresh : {S T : StationList} {own : ℕ} {r : S.State} {s : T.State} → Fresh S own r → Fresh T own s → SeenAlike S T r s
both_fresh x y =
    record {
      active = λ a. x.active a ∙ sym (y.active a);
      own = x.own ∙ sym y.own;
      next = x.next ∙ sym y.next;
      previous = x.previous ∙ sym y.previous;
      phase = x.phase ∙ sym y.phase;
    }

fresh_alike : {S : StationList} (is : IsStationList S) (own : ℕ) → SeenAlike S ours (S.new own).list (ours.new own).list
fresh_alike is own =
    by_cases (dec_lt 125 own)
    (λ h. both_fresh (is.new_refused own h) (ours_is.new_refused own h))
    (λ h. let k : own ≤ 125 = omega arith in both_fresh (is.fresh own k) (ours_is.fresh own k))

-- a station list that keeps the demand and ours are seen alike after the same calls
alike_ours : {S : StationList} (is : IsStationList S) {r : S.State} {s : TokenRing} → SameCalls S ours r s
    → SeenAlike S ours r s
alike_ours is (both_new own) = fresh_alike is own
alike_ours is (both_witness sa da w) = witness_alike is w (alike_ours is w) sa da
alike_ours is (both_claim w) = claim_alike is w (alike_ours is w)
alike_ours is (both_set_next a w) = set_next_alike is w (alike_ours is w) a
alike_ours is (both_remove a w) = remove_alike is w (alike_ours is w) a

-- ---- any two lists

-- the list of ours that the same calls made
record InOurs (S T : StationList) (r : S.State) (s : T.State) : Type 0 where
  list : TokenRing
  left : SameCalls S ours r list
  right : SameCalls T ours s list

in_ours : {S T : StationList} {r : S.State} {s : T.State} → SameCalls S T r s → InOurs S T r s
in_ours (both_new own) = record { list = (ours.new own).list; left = both_new own; right = both_new own }
in_ours (both_witness sa da w) =
    let o = in_ours w in
    record { list = ours.witness sa da o.list; left = both_witness sa da o.left; right = both_witness sa da o.right }
in_ours (both_claim w) =
    let o = in_ours w in record { list = ours.claim o.list; left = both_claim o.left; right = both_claim o.right }
in_ours (both_set_next a w) =
    let o = in_ours w in
    record { list = (ours.set_next a o.list).list; left = both_set_next a o.left; right = both_set_next a o.right }
in_ours (both_remove a w) =
    let o = in_ours w in
    record { list = (ours.remove a o.list).list; left = both_remove a o.left; right = both_remove a o.right }

-- Two station lists that keep the demand are seen alike after the same calls.
pub one_station_list : {S T : StationList} → IsStationList S → IsStationList T → {r : S.State} {s : T.State} → SameCalls S T r s
    → SeenAlike S T r s
one_station_list is other w =
    let o = in_ours w in
    let x = alike_ours is o.left in
    let y = alike_ours other o.right in
    record {
      active = λ a. x.active a ∙ sym (y.active a);
      own = x.own ∙ sym y.own;
      next = x.next ∙ sym y.next;
      previous = x.previous ∙ sym y.previous;
      phase = x.phase ∙ sym y.phase;
    }

-- And their calls answer alike then.
pub one_answer : {S T : StationList} → IsStationList S → IsStationList T → {r : S.State} {s : T.State} → SameCalls S T r s
    → AnswersAlike S T r s
one_answer is other w =
    record {
      new = λ own. is.new_answers own ∙ sym (other.new_answers own);
      set_next = λ a. is.set_next_answers a _ (left_reached w) ∙ sym (other.set_next_answers a _ (right_reached w));
      remove = λ a. is.remove_answers a _ (left_reached w) ∙ sym (other.remove_answers a _ (right_reached w));
    }
