-- What the searches find, said of the set of active addresses: the lowest from an address upward (`lowest_found`, `lowest_none`), the highest below
-- one (`highest_found`, `highest_none`), and nothing in a range (`quiet_all`, `all_quiet`).
use Rattle.std.proofs.Common.{◌≡◌, ℕ, zero, suc, ◌+◌, ◌-◌, ◌<◌, ◌≤◌, Bool, true, false, ◌⊎◌, List, [], ◌∷◌, length, take, drop, sym, refl, ◌∙◌, inl, inr, ⊎_elim, arith, length-take, get_or-drop, get_or-take, None, Option, Some}
use mathlib.Core.Logic.{by_cases}
use native.Mathlib.Decide.{dec_lt}
use lib.ListN.{get_or-eq_default}
use Rattle.ground.proofs.Injective.{injective, zero_one}
use Rattle.token_ring.specs.Flags.{active, all_clear, quiet, lowest, lowest_from, highest, highest_below, shown_found}
use Rattle.token_ring.specs.Meaning.{LowestFrom, HighestBelow}
use Rattle.ground.specs.declared.address.Address.{Address}

-- ---- a flag is set or not

some_same : {m n : ℕ} → ◌≡◌ {A = Option ℕ} (Some m) (Some n) → m ≡ n
some_same e = cc

pub both : {A : Type 0} {x : Bool} → x ≡ true → x ≡ false → A
both h k = absurd (zero_one (cc))

pub unset : (x : Bool) → (x ≡ true → ⊥) → x ≡ false
unset true h = absurd (h refl)
unset false h = refl

-- past the end nothing is active
pub active_within : (l : List Bool) (i : ℕ) → active l i ≡ true → i < length l
active_within l i e =
    by_cases (dec_lt i (length l)) (λ h. h) (λ h. let k : length l ≤ i = omega arith in both e (get_or-eq_default l false k))

-- ---- the lowest

record LowestAt (k : ℕ) (xs : List Bool) (a : ℕ) : Type 0 where
  index : ℕ
  place : a ≡ k + index
  is_set : active xs index ≡ true
  least : (j : ℕ) → active xs j ≡ true → index ≤ j

lowest_at : (k : ℕ) (xs : List Bool) (a : ℕ) → lowest k xs ≡ Some a → LowestAt k xs a
lowest_at k [] a e = absurd (zero_one (cc))
lowest_at k (true ∷ xs) a e =
    let z : k ≡ a = cc in
    record { index = 0; place = omega arith; is_set = refl; least = λ j _. omega arith }
lowest_at k (false ∷ xs) a e = further (lowest_at (suc k) xs a e)
  where
    least_after : (i : ℕ) → ((j : ℕ) → active xs j ≡ true → i ≤ j) → (j : ℕ) → active (false ∷ xs) j ≡ true → suc i ≤ j
    least_after i h zero f = both f refl
    least_after i h (suc j) f = let m : i ≤ j = h j f in omega arith

    further : LowestAt (suc k) xs a → LowestAt k (false ∷ xs) a
    further w = record { index = suc w.index; place = omega arith; is_set = w.is_set; least = least_after w.index w.least }

lowest_nowhere : (k : ℕ) (xs : List Bool) → lowest k xs ≡ None → (j : ℕ) → active xs j ≡ false
lowest_nowhere k [] e j = refl
lowest_nowhere k (true ∷ xs) e j = absurd (zero_one (cc))
lowest_nowhere k (false ∷ xs) e zero = refl
lowest_nowhere k (false ∷ xs) e (suc j) = lowest_nowhere (suc k) xs e j

-- the flag of an address from one upward, among those from that one
from_drop : (from : ℕ) (l : List Bool) (b : ℕ) → from ≤ b → active (drop from l) (b - from) ≡ active l b
from_drop from l b h =
    let e : from + (b - from) ≡ b = omega arith in
    get_or-drop from l (b - from) false ∙ rw e

-- what the search from an address upward finds is the lowest of the set from there
pub lowest_found : (from : ℕ) (l : List Bool) (a : ℕ) → lowest_from from l ≡ Some a → LowestFrom from l a
unfolding lowest_from
lowest_found from l a e = said (lowest_at from (drop from l) a e)
  where
    said : LowestAt from (drop from l) a → LowestFrom from l a
    said w =
        record {
          active = rw w.place (sym (get_or-drop from l w.index false) ∙ w.is_set);
          reached = omega arith;
          lowest = λ b h f. let m : w.index ≤ b - from = w.least (b - from) (from_drop from l b h ∙ f) in omega arith;
        }

-- where it finds nothing, nothing from there upward is active
pub lowest_none : (from : ℕ) (l : List Bool) → lowest_from from l ≡ None → (b : ℕ) → from ≤ b → active l b ≡ false
unfolding lowest_from
lowest_none from l e b h = sym (from_drop from l b h) ∙ lowest_nowhere from (drop from l) e (b - from)

-- ---- the highest

record HighestAt (k : ℕ) (xs : List Bool) (a : ℕ) : Type 0 where
  index : ℕ
  place : a ≡ k + index
  is_set : active xs index ≡ true
  most : (j : ℕ) → active xs j ≡ true → j ≤ index

-- of two parts: what was found below is the answer and nothing here is active, or the answer is here
abbrev HighestOr : ℕ → List Bool → Option ℕ → ℕ → Type 0
HighestOr k xs d a = ((d ≡ Some a) × ((j : ℕ) → active xs j ≡ false)) ⊎ HighestAt k xs a

nowhere_after : (xs : List Bool) → ((j : ℕ) → active xs j ≡ false) → (j : ℕ) → active (false ∷ xs) j ≡ false
nowhere_after xs h zero = refl
nowhere_after xs h (suc j) = h j

most_first : (xs : List Bool) → ((j : ℕ) → active xs j ≡ false) → (j : ℕ) → active (true ∷ xs) j ≡ true → j ≤ 0
most_first xs h zero f = omega arith
most_first xs h (suc j) f = both f (h j)

most_after : (x : Bool) (xs : List Bool) (i : ℕ) → ((j : ℕ) → active xs j ≡ true → j ≤ i) → (j : ℕ) → active (x ∷ xs) j ≡ true → j ≤ suc i
most_after x xs i h zero f = omega arith
most_after x xs i h (suc j) f = let m : j ≤ i = h j f in omega arith

highest_after : (k : ℕ) (x : Bool) (xs : List Bool) (a : ℕ) → HighestAt (suc k) xs a → HighestAt k (x ∷ xs) a
highest_after k x xs a w = record { index = suc w.index; place = omega arith; is_set = w.is_set; most = most_after x xs w.index w.most }

highest_at : (k : ℕ) (xs : List Bool) (d : Option ℕ) (a : ℕ) → highest k xs d ≡ Some a → HighestOr k xs d a
highest_at k [] d a e = inl (e, λ j. refl)
highest_at k (true ∷ xs) d a e =
    ⊎_elim
    (λ w. let z : k ≡ a = some_same w.0 in inr (record { index = 0; place = omega arith; is_set = refl; most = most_first xs w.1 }))
    (λ w. inr (highest_after k true xs a w))
    (highest_at (suc k) xs (Some k) a e)
highest_at k (false ∷ xs) d a e =
    ⊎_elim (λ w. inl (w.0, nowhere_after xs w.1)) (λ w. inr (highest_after k false xs a w)) (highest_at (suc k) xs d a e)

highest_nowhere : (k : ℕ) (xs : List Bool) (d : Option ℕ) → highest k xs d ≡ None → (d ≡ None) × ((j : ℕ) → active xs j ≡ false)
highest_nowhere k [] d e = (e, λ j. refl)
highest_nowhere k (true ∷ xs) d e = absurd (zero_one (let w : ◌≡◌ {A = Option ℕ} (Some k) None = (highest_nowhere (suc k) xs (Some k) e).0 in cc))
highest_nowhere k (false ∷ xs) d e = let w = highest_nowhere (suc k) xs d e in (w.0, nowhere_after xs w.1)

-- a flag among the first ones is one below
below_take : (to : ℕ) (l : List Bool) (i : ℕ) → active (take to l) i ≡ true → i < to
below_take to l i e = let h : i < length (take to l) = active_within (take to l) i e in omega (arith, length-take to l)

-- what the search below an address finds is the highest of the set below it
pub highest_found : (to : ℕ) (l : List Bool) (a : ℕ) → highest_below to l ≡ Some a → HighestBelow to l a
unfolding highest_below
highest_found to l a e = ⊎_elim (λ w. absurd (zero_one (let v : ◌≡◌ {A = Option ℕ} None (Some a) = w.0 in cc))) said (highest_at 0 (take to l) None a e)
  where
    said : HighestAt 0 (take to l) a → HighestBelow to l a
    said w =
        let i : w.index < to = below_take to l w.index w.is_set in
        let p : a ≡ w.index = omega arith in
        record {
          active = rw p (sym (get_or-take to l w.index false i) ∙ w.is_set);
          below = omega arith;
          highest = λ b h f. let m : b ≤ w.index = w.most b (get_or-take to l b false h ∙ f) in omega arith;
        }

-- where it finds nothing, nothing below is active
pub highest_none : (to : ℕ) (l : List Bool) → highest_below to l ≡ None → (b : ℕ) → b < to → active l b ≡ false
unfolding highest_below
highest_none to l e b h = sym (get_or-take to l b false h) ∙ (highest_nowhere 0 (take to l) None e).1 b

-- ---- nothing in a range

all_clear_all : (xs : List Bool) → all_clear xs ≡ true → (j : ℕ) → active xs j ≡ false
all_clear_all [] e j = refl
all_clear_all (true ∷ xs) e j = both e refl
all_clear_all (false ∷ xs) e zero = refl
all_clear_all (false ∷ xs) e (suc j) = all_clear_all xs e j

all_all_clear : (xs : List Bool) → ((j : ℕ) → active xs j ≡ false) → all_clear xs ≡ true
all_all_clear [] h = refl
all_all_clear (true ∷ xs) h = both refl (h 0)
all_all_clear (false ∷ xs) h = all_all_clear xs (λ j. h (suc j))

-- the test of a range says that nothing in it is active, and holds where that is so
pub quiet_all : (from to : ℕ) (l : List Bool) → quiet from to l ≡ true → (b : ℕ) → from ≤ b → b < to → active l b ≡ false
unfolding quiet
quiet_all from to l e b h k =
    let m : b - from < to - from = omega arith in
    sym (get_or-take (to - from) (drop from l) (b - from) false m ∙ from_drop from l b h) ∙ all_clear_all (take (to - from) (drop from l)) e (b - from)

pub all_quiet : (from to : ℕ) (l : List Bool) → ((b : ℕ) → from ≤ b → b < to → active l b ≡ false) → quiet from to l ≡ true
unfolding quiet
all_quiet from to l h =
    all_all_clear (take (to - from) (drop from l)) (λ j. unset _ (λ f.
    let m : j < to - from = below_take (to - from) (drop from l) j f in
    both (sym (get_or-take (to - from) (drop from l) j false m ∙ get_or-drop from l j false) ∙ f) (h (from + j) (omega arith) (omega arith))))

-- ---- a search has one answer: two that are shown alike are the same

abbrev found_back : Option ℕ → Option Address
found_back (Some n) = Some (record { 0 = n })
found_back None = None

found_again : (f : Option Address) → found_back (shown_found f) ≡ f
found_again (Some a) = refl
found_again None = refl

pub shown_found_injective : (f g : Option Address) → shown_found f ≡ shown_found g → f ≡ g
shown_found_injective = injective shown_found found_back found_again
