-- Laws of the refusals: an answer and a refusal are led back to from their numbers, so that no two are alike: `shown_injective`,
-- `number_injective`.
use Rattle.std.proofs.Common.{Err, Ok, Result}
use Prim.Native.Nat.{ℕ}
use mathlib.Core.Path.{◌≡◌, ap, refl}
use mathlib.Core.List.{List, [], ◌∷◌}
use Rattle.ground.proofs.Injective.{injective}
use Rattle.ground.specs.Lookup.{lookup}
use Rattle.ground.specs.Refusals.{number_of, shown}
use Rattle.ground.specs.declared.refusal.Refusal.{Refusal}
use Rattle.ground.specs.declared.refusal.Refusal.TheVariants as refusal

-- All refusals, in the order of their numbers, and the answer that a number stands for: `Done` for 0.
pub refusals : List Refusal
refusals =
    refusal.UnknownStart
    ∷ refusal.LengthsDiffer
    ∷ refusal.LengthTooSmall
    ∷ refusal.FunctionCode
    ∷ refusal.SapMissing
    ∷ refusal.Checksum
    ∷ refusal.EndDelimiter
    ∷ refusal.AddressTooLarge
    ∷ refusal.TooLong
    ∷ refusal.NoRoom
    ∷ refusal.NotAStation
    ∷ refusal.BlockCutOff
    ∷ refusal.BlockReserved
    ∷ refusal.BlockLengthZero
    ∷ refusal.CycleInactive
    ∷ refusal.OrderLength
    ∷ refusal.OrderPending
    ∷ refusal.LinkAddresses
    ∷ refusal.Tries
    ∷ refusal.SettingsForm
    ∷ refusal.NoReplyOwed
    ∷ refusal.InputTooLong
    ∷ []

pub answer_of : ℕ → Result Unit Refusal
answer_of = lookup number_of Err (Ok tt) refusals

-- An answer is the one that its number is looked up to, and so is a refusal.
pub answer_again : (a : Result Unit Refusal) → answer_of (shown a) ≡ a
unfolding answer_of refusals
answer_again (Ok tt) = refl
answer_again (Err refusal.UnknownStart) = refl
answer_again (Err refusal.LengthsDiffer) = refl
answer_again (Err refusal.LengthTooSmall) = refl
answer_again (Err refusal.FunctionCode) = refl
answer_again (Err refusal.SapMissing) = refl
answer_again (Err refusal.Checksum) = refl
answer_again (Err refusal.EndDelimiter) = refl
answer_again (Err refusal.AddressTooLarge) = refl
answer_again (Err refusal.TooLong) = refl
answer_again (Err refusal.NoRoom) = refl
answer_again (Err refusal.NotAStation) = refl
answer_again (Err refusal.BlockCutOff) = refl
answer_again (Err refusal.BlockReserved) = refl
answer_again (Err refusal.BlockLengthZero) = refl
answer_again (Err refusal.CycleInactive) = refl
answer_again (Err refusal.OrderLength) = refl
answer_again (Err refusal.OrderPending) = refl
answer_again (Err refusal.LinkAddresses) = refl
answer_again (Err refusal.Tries) = refl
answer_again (Err refusal.SettingsForm) = refl
answer_again (Err refusal.NoReplyOwed) = refl
answer_again (Err refusal.InputTooLong) = refl

pub shown_injective : (a b : Result Unit Refusal) → shown a ≡ shown b → a ≡ b
shown_injective = injective shown answer_of answer_again

-- The refusal that a number stands for.
abbrev refusal_in : Result Unit Refusal → Refusal
refusal_in (Ok tt) = refusal.UnknownStart
refusal_in (Err r) = r

abbrev pub refusal_of : ℕ → Refusal
refusal_of n = refusal_in (answer_of n)

pub refusal_again : (r : Refusal) → refusal_of (number_of r) ≡ r
refusal_again r = ap refusal_in (answer_again (Err r))

pub number_injective : (x y : Refusal) → number_of x ≡ number_of y → x ≡ y
number_injective = injective number_of refusal_of refusal_again
