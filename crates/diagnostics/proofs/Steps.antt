-- What a step of the walk can be: the end, a refusal or a block (`step_case`); and what follows for the cursor: `step_stays`, `step_onward`,
-- `step_found`, `step_refused`.
use mathlib.Core.Path.{◌≡◌, refl, ◌∙◌}
use mathlib.Core.List.{List}
use Prim.Native.Nat.{ℕ, ◌+◌, ◌/◌, ◌≤◌, ◌<◌}
use native.Mathlib.Decide.{dec_le, dec_lt, ℕ_discrete}
use native.Mathlib.Omega.{arith}
use borrow.Author.Tests.{le-leb, lt-leb}
use lib.ListN.{length}
use Rattle.ground.specs.Part.{byte_at}
use Rattle.diagnostics.specs.Meaning.{Onward, ToTheEnd}
use Rattle.diagnostics.specs.Walk.{PlacedBlock, at_end, block, block_at, headed_by, length_of, refused, refused_at, step_of}
use Rattle.diagnostics.proofs.Headers.{headed_block, headed_cut, headed_reserved, headed_zero}

-- two cases that exclude each other
pub clash : {A : Type 0} → ◌≡◌ {A = ℕ} 0 1 → A
clash z = absurd (omega arith)

-- a cursor at or past the end gives the end and stays
pub step_stays : (s : List ℕ) (at : ℕ) → length s ≤ at → step_of s at ≡ record { answer = at_end; cursor = at }
unfolding step_of
step_stays s at h = rw (le-leb _ _ h)

-- inside what is walked the header decides
pub step_inside : (s : List ℕ) (at : ℕ) → at < length s → step_of s at ≡ headed_by s at (byte_at s at)
unfolding step_of
step_inside s at h = rw (lt-leb _ _ h)

-- a whole block with a header that is not reserved is found
pub step_block : (s : List ℕ) (at header : ℕ) → at < length s → byte_at s at ≡ header → (header / 64 ≡ 3 → ⊥) → 1 ≤ length_of header
    → at + length_of header ≤ length s
    → step_of s at ≡ record { answer = block (block_at s at header); cursor = at + length_of header }
step_block s at header inside head open₃ some fits =
    rw (step_inside s at inside, head) (headed_block s at header open₃ (λ e. omega arith) fits)

-- why a header is refused, by the number
pub data Why (s : List ℕ) (at : ℕ) : ℕ → Type 0 where
  reserved : byte_at s at / 64 ≡ 3 → Why s at 13
  zero_long : (byte_at s at / 64 ≡ 3 → ⊥) → length_of (byte_at s at) ≡ 0 → Why s at 14
  too_long : (byte_at s at / 64 ≡ 3 → ⊥) → 1 ≤ length_of (byte_at s at) → length s < at + length_of (byte_at s at) → Why s at 12

-- the three outcomes of a step
pub data StepCase (s : List ℕ) (at : ℕ) : Type 0 where
  ended : length s ≤ at → step_of s at ≡ record { answer = at_end; cursor = at } → StepCase s at
  refusal : at < length s → (n : ℕ) → Why s at n → step_of s at ≡ refused_at n (length s) → StepCase s at
  found : at < length s → (byte_at s at / 64 ≡ 3 → ⊥) → 1 ≤ length_of (byte_at s at) → at + length_of (byte_at s at) ≤ length s
      → step_of s at ≡ record { answer = block (block_at s at (byte_at s at)); cursor = at + length_of (byte_at s at) }
      → StepCase s at

module _ (s : List ℕ) (at : ℕ) where
  by_room : at < length s → (byte_at s at / 64 ≡ 3 → ⊥) → 1 ≤ length_of (byte_at s at) → Dec (at + length_of (byte_at s at) ≤ length s)
      → StepCase s at
  by_room h open₃ some (yes fits) = found h open₃ some fits (step_block s at _ h refl open₃ some fits)
  by_room h open₃ some (no cut) = refusal h 12 (too_long open₃ some (omega arith)) (step_inside s at h ∙ headed_cut s at (byte_at s at) open₃ (λ e. omega arith) (omega arith))

  by_length : at < length s → (byte_at s at / 64 ≡ 3 → ⊥) → Dec (1 ≤ length_of (byte_at s at)) → StepCase s at
  by_length h open₃ (yes some) = by_room h open₃ some (dec_le _ _)
  by_length h open₃ (no none) = refusal h 14 (zero_long open₃ (omega arith)) (step_inside s at h ∙ headed_zero s at (byte_at s at) open₃ (omega arith))

  by_kind : at < length s → Dec (byte_at s at / 64 ≡ 3) → StepCase s at
  by_kind h (yes three) = refusal h 13 (reserved three) (step_inside s at h ∙ headed_reserved s at _ three)
  by_kind h (no open₃) = by_length h open₃ (dec_le _ _)

  by_place : Dec (at < length s) → StepCase s at
  by_place (yes h) = by_kind h (ℕ_discrete _ _)
  by_place (no h) = ended (omega arith) (step_stays s at (omega arith))

  pub step_case : StepCase s at
  step_case = by_place (dec_lt _ _)

onward_by : {s : List ℕ} {at : ℕ} → StepCase s at → at < length s → Onward s at
onward_by (ended past e) h = absurd (omega arith)
onward_by (refusal _ n _ e) h = record { moves = rw e h; within = rw e (omega arith) }
onward_by (found _ _ some fits e) h = record { moves = rw e (omega arith); within = rw e fits }

-- a step inside what is walked moves on by at least one byte, and not past the end
pub step_onward : (s : List ℕ) (at : ℕ) → at < length s → Onward s at
step_onward s at h = onward_by (step_case s at) h

found_by : {s : List ℕ} {at : ℕ} {p : PlacedBlock} → StepCase s at → (step_of s at).answer ≡ block p → Onward s at
found_by (ended past e) r = clash (cc)
found_by (refusal h n _ e) r = clash (cc)
found_by (found h open₃ some fits e) r = onward_by (found h open₃ some fits e) h

-- so does a step that finds a block: what a loop over the blocks ends by
pub step_found : (s : List ℕ) (at : ℕ) (p : PlacedBlock) → (step_of s at).answer ≡ block p → Onward s at
step_found s at p r = found_by (step_case s at) r

why_number : {s : List ℕ} {at n : ℕ} → Why s at n → (12 ≤ n) × (n ≤ 14)
why_number (reserved _) = omega arith
why_number (zero_long _ _) = omega arith
why_number (too_long _ _ _) = omega arith

to_the_end_by : {s : List ℕ} {at : ℕ} (n : ℕ) → StepCase s at → (step_of s at).answer ≡ refused n → ToTheEnd s at n
to_the_end_by n (ended past e) r = clash (cc)
to_the_end_by n (refusal h m why e) r =
    let same : n ≡ m = cc in
    record { inside = h; cursor_at = rw e; least = rw same (why_number why).0; most = rw same (why_number why).1 }
to_the_end_by n (found h _ some fits e) r = clash (cc)

-- a refused step: its number is 12, 13 or 14, and it moves the cursor to the end and nowhere else
pub step_refused : (s : List ℕ) (at n : ℕ) → (step_of s at).answer ≡ refused n → ToTheEnd s at n
step_refused s at n r = to_the_end_by n (step_case s at) r
