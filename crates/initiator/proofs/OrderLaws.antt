-- Laws of the pending order: it fits its array, and is what was submitted.
use Prim.Native.Nat.{ℕ, ◌<◌, ◌≤◌}
use mathlib.Core.Bool.{Bool, true, false}
use mathlib.Core.List.{List}
use mathlib.Core.Path.{◌≡◌, refl}
use native.Mathlib.Omega.{arith}
use lib.Dec.{leb, lit≤}
use lib.ListN.{length}
use borrow.Author.Tests.{le-leb, lt-leb, leb-true}
use Rattle.ground.proofs.FrontLaws.{copied_front}
use Rattle.ground.specs.Pick.{if}
use Rattle.link_rules.proofs.RuleLaws.{length_small}
use Rattle.link_rules.specs.Rules.{longest}
use Rattle.initiator.specs.Calls.{keeping, wrong_order}
use Rattle.initiator.specs.Records.{len_of, order_of}
use Rattle.initiator.specs.declared.state.Initiator.{Initiator}

module _ (i : Initiator) where
  pub len_within : i.len ≤ longest → len_of i ≡ i.len
  len_within h = rw (le-leb _ _ h)

  pub len_past : longest < i.len → len_of i ≡ longest
  len_past h = rw (lt-leb _ _ h)

pub len_small : (i : Initiator) → len_of i ≤ longest
len_small i = go (leb i.len longest) refl
  where
    go : (t : Bool) → leb i.len longest ≡ t → if t i.len longest ≤ longest
    go true e = leb-true _ _ e
    go false e = lit≤ tt

-- An order that is not refused fits.
pub order_small : (q : List ℕ) → wrong_order q ≡ false → length q ≤ longest
order_small q e = length_small (length q) e

-- The order that is kept is the one that was submitted.
pub kept_order : (i : Initiator) (q : List ℕ) → longest ≤ length i.order → length q ≤ longest → order_of (keeping i q) ≡ q
kept_order i q l h = rw (le-leb _ _ h) (copied_front i.order q (omega (arith, l, h)))
