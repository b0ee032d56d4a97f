-- Laws of the nearest active address: a turn of the loop that looks for it, and that it is the next station (`next_found`) or the previous one
-- (`previous_found`), and that there is none but ourselves where nothing is found (`next_own`, `previous_own`).
use Rattle.std.proofs.Common.{◌≡◌, ℕ, suc, ◌+◌, ◌%◌, ◌<◌, ◌≤◌, min, Bool, true, false, eqb, List, length, sym, refl, ◌∙◌, add-one, arith, eq-eqb, ne_eqb, None, Option, Some}
use mathlib.Core.Logic.{by_cases}
use native.Mathlib.Decide.{dec_lt}
use Rattle.ground.specs.Pick.{if}
use Rattle.token_ring.specs.Flags.{active, lowest_from, highest_below}
use Rattle.token_ring.specs.Leaves.{Nearest, nobody, nearest, away, place_above, place_below}
use Rattle.token_ring.specs.Rules.{next_of, previous_of}
use Rattle.token_ring.proofs.RuleLaws.{next_above, next_none, next_round, previous_below, previous_none, previous_round}
use Rattle.token_ring.proofs.Sets.{active_within, both, highest_found, highest_none, lowest_found, lowest_none}

-- ---- the loop

module _ (away : ℕ → ℕ) (small : (i : ℕ) → away i < 128) (n : ℕ) (l : List Bool) where
  -- what holds of each address below, and of this one, holds below the next
  one_more : (P : ℕ → Type 0) → ((i : ℕ) → i < n → P i) → P n → (i : ℕ) → i < suc n → P i
  one_more P h here i p = by_cases (dec_lt i n) (λ q. h i q) (λ q. let e : i ≡ n = omega arith in rw e here)

  turn : (best : ℕ) (x : Bool) → active l n ≡ x → Nearest away n l best → Nearest away (suc n) l (min best (if x (away n) 255))
  turn best false e (nobody h gone) = nobody (one_more (λ i. active l i ≡ false) h e) (omega arith)
  turn best false e (nearest j p a is least) =
      nearest j (omega arith) a (omega (arith, small j)) (one_more (λ i. active l i ≡ true → away j ≤ away i) least (λ f. both f e))
  turn best true e (nobody h gone) =
      nearest n (omega arith) e (omega (arith, small n)) (one_more (λ i. active l i ≡ true → away n ≤ away i) (λ i p f. both f (h i p)) (λ f. omega arith))
  turn best true e (nearest j p a is least) =
      by_cases (dec_lt (away n) (away j))
      (λ q. nearest n (omega arith) e (omega arith) (one_more (λ i. active l i ≡ true → away n ≤ away i) (λ i p f. let m : away j ≤ away i = least i p f in omega arith) (λ f. omega arith)))
      (λ q. nearest j (omega arith) a (omega arith) (one_more (λ i. active l i ≡ true → away j ≤ away i) least (λ f. omega arith)))

pub nearest_turn : (away : ℕ → ℕ) → ((i : ℕ) → away i < 128) → (n : ℕ) (l : List Bool) (best here : ℕ) (x : Bool)
    → active l n ≡ x → here ≡ if x (away n) 255 → Nearest away n l best → Nearest away (n + 1) l (min best here)
nearest_turn away small n l best here x e is w = rw (add-one, is) (turn away small n l best x e w)

pub away_small : (above : Bool) (from i : ℕ) → away above from i < 128
away_small true from i = omega arith
away_small false from i = omega arith

-- ---- distances round the 128 places

above_nearer : (own j a : ℕ) → suc own ≤ a → a < 128 → j < 128 → away true (place_above own) j ≤ away true (place_above own) a
    → (suc own ≤ j) × (j ≤ a)
above_nearer own j a h p q m = (omega arith, omega arith)

above_round : (own j a : ℕ) → j ≤ own → a ≤ own → a < 128 → j < 128 → away true (place_above own) j ≤ away true (place_above own) a → j ≤ a
above_round own j a h k p q m = omega arith

above_back : (own j r : ℕ) → j < 128 → r ≡ away true (place_above own) j → (place_above own + r) % 128 ≡ j
above_back own j r p is = omega arith

below_nearer : (own j a : ℕ) → a < own → a < 128 → j < 128 → away false (place_below own) j ≤ away false (place_below own) a
    → (j < own) × (a ≤ j)
below_nearer own j a h p q m = (omega arith, omega arith)

below_round : (own j a : ℕ) → own ≤ j → own ≤ a → a < 128 → j < 128 → away false (place_below own) j ≤ away false (place_below own) a
    → a ≤ j
below_round own j a h k p q m = omega arith

below_back : (own j r : ℕ) → j < 128 → r ≡ away false (place_below own) j → away false (place_below own) r ≡ j
below_back own j r p is = omega arith

-- ---- the nearest above is the next station, the nearest below the previous one

module _ (own : ℕ) (l : List Bool) (r : ℕ) (size : length l ≡ 128) where
  inside : (a : ℕ) → active l a ≡ true → a < 128
  inside a t = rw size at (active_within l a t)

  not_above : lowest_from (suc own) l ≡ None → (b : ℕ) → active l b ≡ true → b ≤ own
  not_above e b t = by_cases (dec_lt own b) (λ q. both t (lowest_none (suc own) l e b (omega arith))) (λ q. omega arith)

  next_by : (o o₀ : Option ℕ) → lowest_from (suc own) l ≡ o → lowest_from 0 l ≡ o₀ → Nearest (away true (place_above own)) 128 l r
      → if (eqb r 255) own ((place_above own + r) % 128) ≡ next_of own l
  next_by (Some a) o₀ e f (nobody h gone) = let w = lowest_found (suc own) l a e in both w.active (h a (inside a w.active))
  next_by (Some a) o₀ e f (nearest j p t is least) =
      let w = lowest_found (suc own) l a e in
      let x = above_nearer own j a w.reached (inside a w.active) p (least a (inside a w.active) w.active) in
      let k : a ≤ j = w.lowest j x.0 t in
      let same : j ≡ a = omega arith in
      rw (ne_eqb r 255 (λ z. omega (arith, away_small true (place_above own) j))) (above_back own j r p is ∙ same ∙ sym (next_above own l a e))
  next_by None (Some a) e f (nobody h gone) = let w = lowest_found 0 l a f in both w.active (h a (inside a w.active))
  next_by None (Some a) e f (nearest j p t is least) =
      let w = lowest_found 0 l a f in
      let x = above_round own j a (not_above e j t) (not_above e a w.active) (inside a w.active) p (least a (inside a w.active) w.active) in
      let k : a ≤ j = w.lowest j (omega arith) t in
      let same : j ≡ a = omega arith in
      rw (ne_eqb r 255 (λ z. omega (arith, away_small true (place_above own) j))) (above_back own j r p is ∙ same ∙ sym (next_round own l a e f))
  next_by None None e f (nobody h gone) = rw (eq-eqb r 255 gone) (sym (next_none own l e f))
  next_by None None e f (nearest j p t is least) = both t (lowest_none 0 l f j (omega arith))

  pub next_nearest : Nearest (away true (place_above own)) 128 l r → if (eqb r 255) own ((place_above own + r) % 128) ≡ next_of own l
  next_nearest x = next_by _ _ refl refl x

  pub next_found : r < 128 → Nearest (away true (place_above own)) 128 l r → (place_above own + r) % 128 ≡ next_of own l
  next_found h x = rw (ne_eqb r 255 (λ e. omega arith)) at (next_nearest x)

  pub next_own : r ≡ 255 → Nearest (away true (place_above own)) 128 l r → own ≡ next_of own l
  next_own e x = rw (eq-eqb r 255 e) at (next_nearest x)

  not_below : highest_below own l ≡ None → (b : ℕ) → active l b ≡ true → own ≤ b
  not_below e b t = by_cases (dec_lt b own) (λ q. both t (highest_none own l e b q)) (λ q. omega arith)

  previous_by : (o o₀ : Option ℕ) → highest_below own l ≡ o → highest_below 128 l ≡ o₀ → Nearest (away false (place_below own)) 128 l r
      → if (eqb r 255) own (away false (place_below own) r) ≡ previous_of own l
  previous_by (Some a) o₀ e f (nobody h gone) = let w = highest_found own l a e in both w.active (h a (inside a w.active))
  previous_by (Some a) o₀ e f (nearest j p t is least) =
      let w = highest_found own l a e in
      let x = below_nearer own j a w.below (inside a w.active) p (least a (inside a w.active) w.active) in
      let k : j ≤ a = w.highest j x.0 t in
      let same : j ≡ a = omega arith in
      rw (ne_eqb r 255 (λ z. omega (arith, away_small false (place_below own) j))) (below_back own j r p is ∙ same ∙ sym (previous_below own l a e))
  previous_by None (Some a) e f (nobody h gone) = let w = highest_found 128 l a f in both w.active (h a (inside a w.active))
  previous_by None (Some a) e f (nearest j p t is least) =
      let w = highest_found 128 l a f in
      let x = below_round own j a (not_below e j t) (not_below e a w.active) (inside a w.active) p (least a (inside a w.active) w.active) in
      let k : j ≤ a = w.highest j p t in
      let same : j ≡ a = omega arith in
      rw (ne_eqb r 255 (λ z. omega (arith, away_small false (place_below own) j))) (below_back own j r p is ∙ same ∙ sym (previous_round own l a e f))
  previous_by None None e f (nobody h gone) = rw (eq-eqb r 255 gone) (sym (previous_none own l e f))
  previous_by None None e f (nearest j p t is least) = both t (highest_none 128 l f j p)

  pub previous_nearest : Nearest (away false (place_below own)) 128 l r → if (eqb r 255) own (away false (place_below own) r) ≡ previous_of own l
  previous_nearest x = previous_by _ _ refl refl x

  pub previous_found : r < 128 → Nearest (away false (place_below own)) 128 l r → away false (place_below own) r ≡ previous_of own l
  previous_found h x = rw (ne_eqb r 255 (λ e. omega arith)) at (previous_nearest x)

  pub previous_own : r ≡ 255 → Nearest (away false (place_below own)) 128 l r → own ≡ previous_of own l
  previous_own e x = rw (eq-eqb r 255 e) at (previous_nearest x)
