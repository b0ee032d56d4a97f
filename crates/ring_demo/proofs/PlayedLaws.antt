-- What is told of the list that the program plays, computed on the rules: `played_shown`, `played_on_shown`.
use Rattle.std.proofs.Common.{◌≡◌, ℕ, ◌+◌, ◌<◌, List, [], ◌∷◌, ◌++◌, length, take, get_or, map, refl, sym, ap, true, false, eqb}
use Rattle.std.proofs.lemmas.List.{map_more}
use Rattle.token_ring.specs.Flags.{cleared, quiet, lowest_from, highest_below}
use Rattle.token_ring.specs.Rules.{swept, passed, next_of, previous_of, holds, fresh, made, in_phase, with_flags, updated, effect_of, effected, witnessed}
use Rattle.token_ring.specs.Phases.{is_valid}
use Rattle.token_ring.specs.Passes.{Pass, after, shown_list}
use Rattle.token_ring.specs.declared.ring.TokenRing.{TokenRing}
use Rattle.token_ring.specs.declared.las_state.LasState.TheVariants.{Verification, Valid}
use Rattle.ring_demo.specs.Played.{pass, played, played_on}

pub played_shown : shown_list played ≡ record { stations = 2 ∷ 5 ∷ 9 ∷ []; next = 9; previous = 5; phase = Verification }
unfolding cleared quiet lowest_from highest_below swept passed next_of previous_of holds fresh made in_phase with_flags updated effect_of effected witnessed
played_shown = refl

pub played_on_shown : shown_list played_on ≡ record { stations = 2 ∷ 5 ∷ 9 ∷ []; next = 9; previous = 5; phase = Valid }
unfolding cleared quiet lowest_from highest_below swept passed next_of previous_of holds fresh made in_phase with_flags updated effect_of effected witnessed
played_on_shown = refl

-- the same, of the list that the program has at its checks
pub next_is : (r : TokenRing) → r ≡ played → eqb r.next_station.0 9 ≡ true
next_is r e = rw e (rw (ap (λ t. t.next) played_shown))

pub previous_is : (r : TokenRing) → r ≡ played → eqb r.previous_station.0 5 ≡ true
previous_is r e = rw e (rw (ap (λ t. t.previous) played_shown))

pub not_ready : (r : TokenRing) → r ≡ played → is_valid r.las_state ≡ false
not_ready r e = rw e (rw (ap (λ t. t.phase) played_shown))

pub ready : (r : TokenRing) → r ≡ played_on → is_valid r.las_state ≡ true
ready r e = rw e (rw (ap (λ t. t.phase) played_on_shown))

-- ---- a row of passes

after_last : (ps : List Pass) (p : Pass) (r : TokenRing) → after (ps ++ p ∷ []) r ≡ witnessed p.sa p.da (after ps r)
after_last [] p r = refl
after_last (q ∷ ps) p r = after_last ps p (witnessed q.sa q.da r)

-- one pass more is heard
pub one_pass_more : (ps : List (ℕ × ℕ)) (i : ℕ) (d : ℕ × ℕ) (r : TokenRing) → i < length ps
    → witnessed (get_or ps i d).0 (get_or ps i d).1 (after (map pass (take i ps)) r) ≡ after (map pass (take (i + 1) ps)) r
one_pass_more ps i d r h = rw (map_more pass ps i d h) (sym (after_last (map pass (take i ps)) (pass (get_or ps i d)) r))
