-- The walk by its first step, and that it has steps enough: each takes a byte at least.
use mathlib.Core.Path.{◌≡◌, ap, sym, ◌∙◌}
use mathlib.Core.List.{List, [], ◌∷◌}
use Prim.Native.Nat.{ℕ, zero, suc, ◌+◌, ◌-◌, ◌<◌}
use native.Mathlib.Decide.{dec_lt}
use native.Mathlib.Omega.{arith}
use lib.ListN.{length}
use Rattle.ground.specs.Part.{byte_at}
use Rattle.diagnostics.specs.Walk.{PlacedBlock, Stepped, at_end, block, broken, length_of, pictured, refused_at, step_of, walk_of, walk_steps, whole}
use Rattle.diagnostics.specs.Shown.{shown_block, shown_found, shown_step}
use Rattle.diagnostics.specs.declared.walk.ExtDiagBlock.{ExtDiagBlock}
use Rattle.diagnostics.specs.declared.walk.Found.TheVariants.{Block}
use Rattle.diagnostics.specs.declared.walk.ExtDiagBlockIter.{ExtDiagBlockIter}
use Rattle.diagnostics.specs.declared.walk.Found.{Found}
use Rattle.ground.specs.declared.returned.Returned.{Returned}
use Rattle.diagnostics.proofs.Steps.{StepCase, ended, found, refusal, step_case, step_found, step_stays}

module _ (k : ℕ) (s : List ℕ) (at : ℕ) where
  pub walk_on : (p : PlacedBlock) (next : ℕ) → step_of s at ≡ record { answer = block p; cursor = next }
      → walk_steps (suc k) s at ≡ record { blocks = pictured s p ∷ (walk_steps k s next).blocks; ending = (walk_steps k s next).ending }
  walk_on p next e = rw e

  pub walk_off : step_of s at ≡ record { answer = at_end; cursor = at } → walk_steps (suc k) s at ≡ record { blocks = []; ending = whole }
  walk_off e = rw e

  pub walk_refused : (n : ℕ) → step_of s at ≡ refused_at n (length s) → walk_steps (suc k) s at ≡ record { blocks = []; ending = broken n }
  walk_refused n e = rw e

enough_by : (k : ℕ) (s : List ℕ) (at : ℕ) → StepCase s at → ((next : ℕ) → at < next → walk_steps k s next ≡ walk_steps (suc k) s next)
    → walk_steps (suc k) s at ≡ walk_steps (suc (suc k)) s at
enough_by k s at (ended _ e) later = walk_off k s at e ∙ sym (walk_off (suc k) s at e)
enough_by k s at (refusal _ n _ e) later = walk_refused k s at n e ∙ sym (walk_refused (suc k) s at n e)
enough_by k s at (found _ _ some _ e) later = walk_on k s at _ _ e ∙ rw (later (at + length_of (byte_at s at)) (omega arith)) (sym (walk_on (suc k) s at _ _ e))

-- one step more changes nothing where there are more steps than bytes left
enough : (k : ℕ) (s : List ℕ) (at : ℕ) → length s < at + k → walk_steps k s at ≡ walk_steps (suc k) s at
enough zero s at h = sym (walk_off zero s at (step_stays s at (omega arith)))
enough (suc k) s at h = enough_by k s at (step_case s at) (λ next p. enough k s next (omega arith))

-- A walk ends: however many steps it is given above the number of bytes, it is the same walk.
pub walk_long_enough : (k : ℕ) (s : List ℕ) → length s < k → walk_steps k s 0 ≡ walk_of s
unfolding walk_of
walk_long_enough zero s h = absurd (omega arith)
walk_long_enough (suc k) s h = by (dec_lt (length s) k) (walk_long_enough k s)
  where
    by : Dec (length s < k) → (length s < k → walk_steps k s 0 ≡ walk_steps (suc (length s)) s 0)
        → walk_steps (suc k) s 0 ≡ walk_steps (suc (length s)) s 0
    by (yes more) fewer = sym (enough k s 0 (omega arith)) ∙ fewer more
    by (no less) fewer =
        let same : k ≡ length s = omega arith in
        rw same

-- a loop over the blocks ends: what is left to walk falls at each block that is found
pub block_falls : (s : List ℕ) (at : ℕ) (step : Returned Found ExtDiagBlockIter) (b : ExtDiagBlock) → shown_step step ≡ step_of s at → step.answer ≡ Block b
    → length s - step.after.cursor < length s - at
block_falls s at step b e f =
    let answer : (step_of s at).answer ≡ block (shown_block b) = ap (λ (x : Stepped). x.answer) (sym e) ∙ ap shown_found f in
    let cursor : step.after.cursor ≡ (step_of s at).cursor = ap (λ (x : Stepped). x.cursor) e in
    omega (arith, (step_found s at _ answer).moves, (step_found s at _ answer).within)
