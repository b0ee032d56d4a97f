-- Next and previous, and a pass that holds, said of the set of active addresses: `next_active` and `next_clear`, `previous_active` and
-- `previous_clear`, `holds_means` and `means_holds`.
use Rattle.std.proofs.Common.{◌≡◌, ℕ, suc, ◌<◌, ◌≤◌, Bool, true, false, ◌&&◌, ◌||◌, ltb, ◌⊎◌, List, length, refl, inl, inr, ⊎_elim, arith, ltb-true, lt-ltb, le-leb, leb-false, leb-true, None, Option, Some}
use mathlib.Core.Logic.{by_cases}
use native.Mathlib.Decide.{dec_le, dec_lt}
use borrow.Author.Tests.{lt-leb}
use lib.ListN.{get_or-eq_default}
use Rattle.ground.specs.Pick.{if}
use Rattle.token_ring.specs.Flags.{active, quiet, lowest_from, highest_below}
use Rattle.token_ring.specs.Rules.{wrap, or_else, next_of, previous_of, holds}
use Rattle.token_ring.specs.Meaning.{Active, between, NoneBetween}
use Rattle.token_ring.proofs.Sets.{both, unset, lowest_found, lowest_none, highest_found, highest_none, quiet_all, all_quiet}

-- ---- strictly between

pub and_parts : (x y : Bool) → (x && y) ≡ true → (x ≡ true) × (y ≡ true)
and_parts true y e = (refl, e)
and_parts false y e = both e refl

pub or_parts : (x y : Bool) → (x || y) ≡ true → (x ≡ true) ⊎ (y ≡ true)
or_parts true y e = inl refl
or_parts false y e = inr e

module _ (first second a : ℕ) where
  pub between_rise : first < second → between first second a ≡ true → (first < a) × (a < second)
  between_rise h e =
      let w = and_parts (ltb first a) (ltb a second) (rw (lt-leb second first h) at e) in
      (ltb-true _ _ w.0, ltb-true _ _ w.1)

  pub between_round : second ≤ first → between first second a ≡ true → (first < a) ⊎ (a < second)
  between_round h e =
      ⊎_elim (λ w. inl (ltb-true _ _ w)) (λ w. inr (ltb-true _ _ w))
      (or_parts (ltb first a) (ltb a second) (rw (le-leb second first h) at e))

-- ---- next

module _ (own : ℕ) (l : List Bool) where
  next_is : (o o₀ : Option ℕ) → lowest_from (suc own) l ≡ o → lowest_from 0 l ≡ o₀
      → (Active l (or_else o (or_else o₀ own)) ⊎ (or_else o (or_else o₀ own) ≡ own)) × NoneBetween own (or_else o (or_else o₀ own)) l
  next_is (Some a) o₀ e f =
      let w = lowest_found (suc own) l a e in (
        inl w.active,
        λ b t. let p = between_rise own a b (omega arith) t in
            unset _ (λ g. let m : a ≤ b = w.lowest b (omega arith) g in omega arith),
      )
  next_is None (Some a) e f =
      let w = lowest_found 0 l a f in
      let h : a ≤ own = by_cases (dec_le a own) (λ k. k) (λ k. both w.active (lowest_none (suc own) l e a (omega arith))) in (
        inl w.active,
        λ b t. ⊎_elim (λ k. lowest_none (suc own) l e b (omega arith)) (λ k. unset _ (λ g. let m : a ≤ b = w.lowest b (omega arith) g in omega arith))
            (between_round own a b h t),
      )
  next_is None None e f = (inr refl, λ b t. lowest_none 0 l f b (omega arith))

  -- next is an active station or own
  pub next_active : Active l (next_of own l) ⊎ (next_of own l ≡ own)
  unfolding next_of
  next_active = (next_is (lowest_from (suc own) l) (lowest_from 0 l) refl refl).0

  -- nothing active lies strictly between own and next, also round the end
  pub next_clear : NoneBetween own (next_of own l) l
  unfolding next_of
  next_clear = (next_is (lowest_from (suc own) l) (lowest_from 0 l) refl refl).1

-- ---- previous

module _ (own : ℕ) (l : List Bool) (size : length l ≡ 128) where
  past : (b : ℕ) → 128 ≤ b → active l b ≡ false
  past b h = let k : length l ≤ b = omega arith in get_or-eq_default l false k

  previous_is : (o o₀ : Option ℕ) → highest_below own l ≡ o → highest_below 128 l ≡ o₀
      → (Active l (or_else o (or_else o₀ own)) ⊎ (or_else o (or_else o₀ own) ≡ own)) × NoneBetween (or_else o (or_else o₀ own)) own l
  previous_is (Some a) o₀ e f =
      let w = highest_found own l a e in (
        inl w.active,
        λ b t. let p = between_rise a own b w.below t in
            unset _ (λ g. let m : b ≤ a = w.highest b p.1 g in omega arith),
      )
  previous_is None (Some a) e f =
      let w = highest_found 128 l a f in
      let h : own ≤ a = by_cases (dec_le own a) (λ k. k) (λ k. both w.active (highest_none own l e a (omega arith))) in (
        inl w.active,
        λ b t. ⊎_elim
            (λ k. by_cases (dec_lt b 128) (λ m. unset _ (λ g. let n : b ≤ a = w.highest b m g in omega arith)) (λ m. past b (omega arith)))
            (λ k. highest_none own l e b k)
            (between_round a own b h t),
      )
  previous_is None None e f =
      (inr refl, λ b t. by_cases (dec_lt b 128) (λ m. highest_none 128 l f b m) (λ m. past b (omega arith)))

  -- previous is an active station or own
  pub previous_active : Active l (previous_of own l) ⊎ (previous_of own l ≡ own)
  unfolding previous_of
  previous_active = (previous_is (highest_below own l) (highest_below 128 l) refl refl).0

  -- nothing active lies strictly between previous and own, also round the end
  pub previous_clear : NoneBetween (previous_of own l) own l
  unfolding previous_of
  previous_clear = (previous_is (highest_below own l) (highest_below 128 l) refl refl).1

-- ---- a pass that holds

module _ (sa da : ℕ) (l : List Bool) (size : length l ≡ 128) where
  holds_between : (t : Bool) → wrap sa da ≡ t → if t (quiet (suc sa) 128 l && quiet 0 da l) (quiet (suc sa) da l) ≡ true
      → NoneBetween sa da l
  holds_between true h e a t =
      let w = and_parts _ _ e in
      ⊎_elim
      (λ k. by_cases (dec_lt a 128) (λ m. quiet_all (suc sa) 128 l w.0 a (omega arith) m) (λ m. past sa l size a (omega arith)))
      (λ k. quiet_all 0 da l w.1 a (omega arith) k)
      (between_round sa da a (leb-true _ _ h) t)
  holds_between false h e a t = let p = between_rise sa da a (leb-false _ _ h) t in quiet_all (suc sa) da l e a (omega arith) p.1

  between_holds : (t : Bool) → wrap sa da ≡ t → NoneBetween sa da l
      → if t (quiet (suc sa) 128 l && quiet 0 da l) (quiet (suc sa) da l) ≡ true
  between_holds true h n =
      rw (all_quiet (suc sa) 128 l (λ b p q. n b (rw (h, lt-ltb sa b (omega arith))))) (all_quiet 0 da l (λ b p q. n b (rw (h, lt-ltb b da q) (or_yes (ltb sa b)))))
    where
      or_yes : (x : Bool) → (x || true) ≡ true
      or_yes true = refl
      or_yes false = refl
  between_holds false h n = all_quiet (suc sa) da l (λ b p q. n b (rw (h, lt-ltb sa b (omega arith), lt-ltb b da q)))

  -- a pass holds exactly where sa and da are active and nothing between is
  pub holds_means : holds sa da l ≡ true → (Active l sa) × (Active l da) × NoneBetween sa da l
  unfolding holds
  holds_means e =
      let w = and_parts (active l sa) _ e in
      let v = and_parts (active l da) _ w.1 in
      (w.0, v.0, holds_between (wrap sa da) refl v.1)

  pub means_holds : Active l sa → Active l da → NoneBetween sa da l → holds sa da l ≡ true
  unfolding holds
  means_holds p q n = rw (p, q) (between_holds (wrap sa da) refl n)
