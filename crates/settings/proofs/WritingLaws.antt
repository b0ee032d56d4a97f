-- Laws of writing: the text, line by line; and that no two are shown alike, `shown_written_injective`.
use Rattle.std.proofs.Common.{Err, Ok, Result, ℕ}
use mathlib.Core.Path.{◌≡◌, refl, ap}
use mathlib.Core.List.{List}
use Prim.Native.Nat.{ℕ, ◌+◌, ◌^◌, ◌≤◌, ◌<◌}
use native.Mathlib.Omega.{arith}
use lib.ListN.{length, length-append}
use Rattle.ground.specs.declared.refusal.Refusal.{Refusal}
use Rattle.ground.proofs.Injective.{injective}
use Rattle.ground.proofs.RefusalLaws.{refusal_of, refusal_again}
use Rattle.text.specs.Decimal.{decimal_of}
use Rattle.text.specs.Placed.{Placed}
use Rattle.text.proofs.DecimalLaws.{decimal_length}
use Rattle.text.proofs.PlacedLaws.{then}
use Rattle.settings.specs.Lines.{own=, peer=, tries=, line_of}
use Rattle.settings.specs.Text.{text_of}
use Rattle.settings.specs.Writing.{WriteAnswer, written, refused, shown_written}

-- ---- the text

pub text_length : (own peer tries : ℕ)
    → length (text_of own peer tries) ≡ length (decimal_of own) + length (decimal_of peer) + length (decimal_of tries) + 18
unfolding text_of line_of
text_length own peer tries = simp length-append (omega arith)

-- a byte has at most three digits
pub byte_length : (n : ℕ) → n < 2 ^ 8 → length (decimal_of n) ≤ 3
byte_length n h = decimal_length 2 n (omega arith)

pub text_placed : {b₀ b₁ b₂ b₃ : List ℕ} {at n₁ n₂ n₃ : ℕ} (own peer tries : ℕ)
    → Placed b₀ at (line_of own= own) n₁ b₁
    → Placed b₁ n₁ (line_of peer= peer) n₂ b₂
    → Placed b₂ n₂ (line_of tries= tries) n₃ b₃
    → Placed b₀ at (text_of own peer tries) n₃ b₃
unfolding text_of
text_placed own peer tries p q r = then (then p q) r

-- ---- an answer is led back to from what is shown of it

written_by : WriteAnswer → Result ℕ Refusal
written_by (written len) = Ok len
written_by (refused number) = Err (refusal_of number)

written_again : (answer : Result ℕ Refusal) → written_by (shown_written answer) ≡ answer
unfolding written_by
written_again (Ok len) = refl
written_again (Err refusal) = ap Err (refusal_again refusal)

pub shown_written_injective : (r s : Result ℕ Refusal) → shown_written r ≡ shown_written s → r ≡ s
shown_written_injective = injective shown_written written_by written_again
