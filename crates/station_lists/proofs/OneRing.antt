-- The standard's sentence (specs/Standard.antt) is no empty one: our list of own 7 learns the ring {2,5,9} (`learns_one_ring`). It holds of no list
-- of document 01 up to address 126 (`not_up_to_126`). What is document 01's beside it, in the smallest inputs: `beside_the_sentence`.
use Prim.Native.Nat.{ℕ, zero, suc, ◌≤◌, ◌<◌}
use mathlib.Core.Bool.{Bool, true, false}
use mathlib.Core.List.{List, [], ◌∷◌}
use mathlib.Core.Logic.{◌⊎◌, inl, inr, ⊎_elim}
use mathlib.Core.Path.{◌≡◌, refl, sym, ◌∙◌}
use native.Mathlib.Omega.{arith}
use borrow.Author.Tests.{eqb-true}
use lib.Dec.{eqb, lit≤}
use lib.ListN.{length, set, replicate, take, length-set, length-replicate}
use Rattle.ground.proofs.Injective.{zero_one}
use Rattle.ground.specs.Pick.{if}
use Rattle.token_ring.proofs.ByIndex.{set_at}
use Rattle.token_ring.proofs.Sound.{clear_at}
use Rattle.token_ring.specs.Flags.{active, cleared, quiet, lowest_from, highest_below}
use Rattle.token_ring.specs.Passes.{◌to◌}
use Rattle.token_ring.specs.Rules.{swept, passed, next_of, previous_of, holds, fresh, made, in_phase, with_flags, updated, effect_of, effected, witnessed, removed}
use Rattle.token_ring.specs.declared.las_state.LasState.TheVariants.{Verification, Valid}
use Rattle.station_lists.proofs.OurStations.{ours}
use Rattle.station_lists.specs.Standard.{Knows, Learns, LearnsRings, Ring, alone, below, heard, is_in, two_rotations}
use Rattle.station_lists.specs.StationLists.{StationList, lowest_above, highest_below as theHighestBelow, Reached, by_new, by_witness, IsStationList}

abbrev ring : List ℕ
ring = 2 ∷ 5 ∷ 9 ∷ []

-- ---- the ring {2,5,9}

-- who is in a ring is its first station, or in the rest
in_first_or_rest : (a : ℕ) (rest : List ℕ) (b : ℕ) → is_in (a ∷ rest) b ≡ true → (b ≡ a) ⊎ (is_in rest b ≡ true)
in_first_or_rest a rest b e = by (eqb b a) refl e
  where
    by : (t : Bool) → eqb b a ≡ t → if t true (is_in rest b) ≡ true → (b ≡ a) ⊎ (is_in rest b ≡ true)
    by true h f = inl (eqb-true b a h)
    by false h f = inr f

-- 2, 5 or 9
member : {P : Type 0} (b : ℕ) → is_in ring b ≡ true → (b ≡ 2 → P) → (b ≡ 5 → P) → (b ≡ 9 → P) → P
member b e two five nine =
    ⊎_elim two (λ f.
    ⊎_elim five (λ g.
    ⊎_elim nine nobody (in_first_or_rest 9 [] b g))
    (in_first_or_rest 5 (9 ∷ []) b f))
    (in_first_or_rest 2 (5 ∷ 9 ∷ []) b e)
  where
    nobody : {Q : Type 0} → false ≡ true → Q
    nobody h = absurd (zero_one (cc))

-- the flags of the ring
abbrev nine : List Bool
nine = set (replicate 128 false) 9 true

abbrev five : List Bool
five = set nine 5 true

flags_at : (a : ℕ) → active (set five 2 true) a ≡ is_in ring a
flags_at a =
    let long : length (replicate 128 false) ≡ 128 = length-replicate 128 false in
    let longer : length nine ≡ 128 = length-set (replicate 128 false) 9 true ∙ long in
    let longest : length five ≡ 128 = length-set nine 5 true ∙ longer in
    rw (
      set_at five 2 true a (omega arith),
      set_at nine 5 true a (omega arith),
      set_at (replicate 128 false) 9 true a (omega arith),
      clear_at a,
    )

knows_it : Knows ours ring (heard ours (two_rotations 2 ring) (ours.new 7).list)
unfolding made fresh witnessed effected effect_of in_phase with_flags updated passed swept next_of previous_of holds cleared quiet lowest_from highest_below
knows_it =
    record {
      active = flags_at;
      next = lowest_above {a = 9} refl (lit≤ tt) (λ b h e. member b e (λ f. omega arith) (λ f. omega arith) (λ f. omega arith));
      previous = theHighestBelow {a = 5} refl (lit≤ tt) (λ b h e. member b e (λ f. omega arith) (λ f. omega arith) (λ f. omega arith));
    }

not_before_lem : (j : ℕ) → j < 7 → ours.phase (heard ours (take j (two_rotations 2 ring)) (ours.new 7).list) ≡ Valid → ⊥
unfolding made fresh witnessed effected effect_of in_phase with_flags updated passed swept next_of previous_of holds cleared quiet lowest_from highest_below
not_before_lem zero h e = zero_one (cc)
not_before_lem (suc zero) h e = zero_one (cc)
not_before_lem (suc (suc zero)) h e = zero_one (cc)
not_before_lem (suc (suc (suc zero))) h e = zero_one (cc)
not_before_lem (suc (suc (suc (suc zero)))) h e = zero_one (cc)
not_before_lem (suc (suc (suc (suc (suc zero))))) h e = zero_one (cc)
not_before_lem (suc (suc (suc (suc (suc (suc zero)))))) h e = zero_one (cc)
not_before_lem (suc (suc (suc (suc (suc (suc (suc j))))))) h e = omega arith

-- what the sentence asks for, and what it then says, of one ring
pub record OneRing : Type 0 where
  pub own : 7 ≤ 125
  pub is_ring : Ring 125 ring
  pub begins : 2 < length ring
  pub learns : Learns ours 7 ring 2

-- Our list of own 7 hears 9-2, and then 2-5, 5-9, 9-2 twice: with the last pass it is Valid, and not before, and knows {2,5,9}, next 9, previous 5.
pub learns_one_ring : OneRing
unfolding made fresh witnessed effected effect_of in_phase with_flags updated passed swept next_of previous_of holds cleared quiet lowest_from highest_below
learns_one_ring =
    record {
      own = lit≤ tt;
      is_ring = below (lit≤ tt) (below (lit≤ tt) (alone (lit≤ tt)));
      begins = lit≤ tt;
      learns = record { valid = refl; not_before = not_before_lem; knows = knows_it };
    }

-- ---- what is document 01's and not the standard's

pub record BesideTheSentence : Type 0 where
  -- counting begins at the first wrap heard: two rotations from the first pass on are not enough
  pub twice : ours.phase (heard ours (0 to 0 ∷ 0 to 0 ∷ []) (ours.new 0).list) ≡ Verification
  pub thrice : ours.phase (heard ours (0 to 0 ∷ 0 to 0 ∷ 0 to 0 ∷ []) (ours.new 0).list) ≡ Valid
  -- claiming makes a list Valid that has heard nothing
  pub claimed : ours.phase (ours.claim (ours.new 3).list) ≡ Valid
  -- with nobody active, not even ourselves, next and previous are our own address
  pub emptied : ours.active (ours.remove 3 (ours.new 3).list).list 3 ≡ false
  pub emptied_next : ours.next (ours.remove 3 (ours.new 3).list).list ≡ 3
  pub emptied_previous : ours.previous (ours.remove 3 (ours.new 3).list).list ≡ 3

pub beside_the_sentence : BesideTheSentence
unfolding made fresh witnessed effected effect_of in_phase with_flags updated passed swept next_of previous_of holds cleared quiet lowest_from highest_below removed
beside_the_sentence = record { twice = refl; thrice = refl; claimed = refl; emptied = refl; emptied_next = refl; emptied_previous = refl }

-- ---- address 126

module _ (S : StationList) (is : IsStationList S) where
  -- a pass of 126 to itself changes no phase
  passed_over : (r : S.State) → Reached S r → S.phase (S.witness 126 126 r) ≡ S.phase r
  passed_over r w = (is.ignored 126 126 r w (inl (lit≤ tt))).phase

  -- The standard's addresses go up to 126, document 01's do not: no list of document 01 learns the ring of 126 alone.
  pub not_up_to_126 : LearnsRings 126 S → ⊥
  not_up_to_126 learns =
      let first = (S.new 0).list in
      let w : Reached S first = by_new 0 in
      let once = passed_over first w in
      let twice = passed_over (S.witness 126 126 first) (by_witness 126 126 w) in
      let thrice = passed_over (S.witness 126 126 (S.witness 126 126 first)) (by_witness 126 126 (by_witness 126 126 w)) in
      let new = (is.fresh 0 (lit≤ tt)).phase in
      let says = (learns 0 (126 ∷ []) 0 (lit≤ tt) (alone (lit≤ tt)) (lit≤ tt)).valid in
      let e = sym says ∙ thrice ∙ twice ∙ once ∙ new in
      zero_one (cc)
