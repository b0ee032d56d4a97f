-- Laws of reading: the form, and the answer to it; and that no two are shown alike, `shown_read_injective`.
use Rattle.std.proofs.Common.{Err, Ok, Result}
use mathlib.Core.Path.{◌≡◌, refl, ap}
use mathlib.Core.List.{List}
use Prim.Native.Nat.{ℕ}
use borrow.Author.Tests.{eq-eqb}
use lib.ListN.{length}
use Rattle.ground.specs.declared.refusal.Refusal.{Refusal}
use Rattle.ground.proofs.Injective.{injective}
use Rattle.ground.proofs.RefusalLaws.{refusal_of, refusal_again}
use Rattle.settings.specs.Lines.{own=, peer=, tries=, line_at, line_is}
use Rattle.settings.specs.Reading.{ReadAnswer, settings, refused, shown_read, numbers, form_of, checked_of, read_of}
use Rattle.settings.specs.declared.settings.Settings.{Settings}

pub three_lines : (text : List ℕ) {own at₁ peer at₂ tries end : ℕ} → line_at own= text 0 ≡ line_is own at₁
    → line_at peer= text at₁ ≡ line_is peer at₂
    → line_at tries= text at₂ ≡ line_is tries end
    → end ≡ length text
    → form_of text ≡ numbers own peer tries
unfolding form_of
three_lines text e₁ e₂ e₃ h = rw (e₁, e₂, e₃, eq-eqb _ _ h)

pub read_form : (text : List ℕ) {own peer tries : ℕ} → form_of text ≡ numbers own peer tries → read_of text ≡ checked_of own peer tries
unfolding read_of
read_form text e = rw e

-- ---- an answer is led back to from what is shown of it

read_by : ReadAnswer → Result Settings Refusal
read_by (settings own peer tries) = Ok (record { own = record { 0 = own }; peer = record { 0 = peer }; tries = tries })
read_by (refused number) = Err (refusal_of number)

read_again : (answer : Result Settings Refusal) → read_by (shown_read answer) ≡ answer
unfolding read_by
read_again (Ok s) = refl
read_again (Err refusal) = ap Err (refusal_again refusal)

pub shown_read_injective : (r s : Result Settings Refusal) → shown_read r ≡ shown_read s → r ≡ s
shown_read_injective = injective shown_read read_by read_again
