-- The flag at an address after each change of the flags: `set_at`, `swept_at`, `passed_at`, `updated_at`.
use Rattle.std.proofs.Common.{◌≡◌, ℕ, ◌<◌, Bool, true, false, ◌||◌, eqb, List, length, set, refl, ◌∙◌, get_or-set_other, get_or-set_same, eqb-true}
use borrow.Author.Tests.{eqb-false}
use Rattle.ground.specs.Pick.{if}
use Rattle.token_ring.specs.declared.ring.TokenRing.{TokenRing}
use Rattle.token_ring.specs.Flags.{active, within, cleared}
use Rattle.token_ring.specs.Rules.{wrap, swept, passed, updated, with_flags}
use Rattle.token_ring.specs.Meaning.{in_gap}
use Rattle.token_ring.proofs.FlagLaws.{cleared_at}
use Rattle.token_ring.proofs.RuleLaws.{length_swept}

-- ---- one flag set or cleared

set_where : (l : List Bool) (a : ℕ) (x : Bool) (i : ℕ) → a < length l → (t : Bool) → eqb i a ≡ t
    → active (set l a x) i ≡ if t x (active l i)
set_where l a x i h true e = rw (eqb-true i a e) (get_or-set_same l a x false h)
set_where l a x i h false e = get_or-set_other l a i x false (eqb-false i a e)

pub set_at : (l : List Bool) (a : ℕ) (x : Bool) (i : ℕ) → a < length l → active (set l a x) i ≡ if (eqb i a) x (active l i)
set_at l a x i h = set_where l a x i h (eqb i a) refl

-- ---- the gap of a pass cleared

clear_twice : (p q x : Bool) → if q false (if p false x) ≡ if (p || q) false x
clear_twice true true x = refl
clear_twice true false x = refl
clear_twice false true x = refl
clear_twice false false x = refl

swept_where : (sa da : ℕ) (l : List Bool) (i : ℕ) (t : Bool)
    → active (if t (cleared 0 da (cleared sa 128 l)) (cleared sa da l)) i ≡ if (if t (within sa 128 i || within 0 da i) (within sa da i)) false (active l i)
swept_where sa da l i true =
    cleared_at 0 da (cleared sa 128 l) i ∙ rw (cleared_at sa 128 l i) (clear_twice (within sa 128 i) (within 0 da i) (active l i))
swept_where sa da l i false = cleared_at sa da l i

pub swept_at : (sa da : ℕ) (l : List Bool) (i : ℕ) → active (swept sa da l) i ≡ if (in_gap sa da i) false (active l i)
unfolding swept
swept_at sa da l i = swept_where sa da l i (wrap sa da)

-- ---- the whole update: sa is set, the rest of its gap is clear, the others are as they were

pub passed_at : (sa da : ℕ) (l : List Bool) (i : ℕ) → sa < length l
    → active (passed sa da l) i ≡ if (eqb i sa) true (if (in_gap sa da i) false (active l i))
unfolding passed
passed_at sa da l i h =
    let k : sa < length (swept sa da l) = rw (length_swept sa da l) h in
    set_at (swept sa da l) sa true i k ∙ rw (swept_at sa da l i)

pub updated_at : (sa da : ℕ) (r : TokenRing) (i : ℕ) → sa < length r.active_stations
    → active (updated sa da r).active_stations i ≡ if (eqb i sa) true (if (in_gap sa da i) false (active r.active_stations i))
unfolding updated with_flags
updated_at sa da r i h = passed_at sa da r.active_stations i h
