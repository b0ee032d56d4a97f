-- What writing the settings text answers, and what the buffer holds afterwards. Refusals in the order 18, 19, 10. Read `Wrote`, the call's promise.
use Rattle.std.specs.Prelude.{◌≡◌, List, ℕ, eqb, leb, length, Err, Ok, Result}
use Rattle.ground.specs.Pick.{if}
use Rattle.ground.specs.Refusals.{number_of}
use Rattle.text.specs.Placed.{laid}
use Rattle.settings.specs.Rules.{rule_of}
use Rattle.settings.specs.Text.{text_of}
use Rattle.ground.specs.declared.refusal.Refusal.{Refusal}

-- how many bytes were written, or the number of a refusal
pub data WriteAnswer : Type 0 where
  written : ℕ → WriteAnswer
  refused : ℕ → WriteAnswer

-- an answer as its length, or its number
abbrev pub shown_written : Result ℕ Refusal → WriteAnswer
shown_written (Ok len) = written len
shown_written (Err refusal) = refused (number_of refusal)

-- the rules of a link, 18 and 19; then 10, buffer too short; else the text's length
unfoldable pub write_of : ℕ → ℕ → ℕ → ℕ → WriteAnswer
write_of own peer tries room =
    if (eqb (rule_of own peer tries) 0)
    (if (leb (length (text_of own peer tries)) room) (written (length (text_of own peer tries))) (refused 10))
    (refused (rule_of own peer tries))

-- where it was written, the text stands at the front of the buffer; a refusal leaves it
abbrev pub left_by : List ℕ → List ℕ → WriteAnswer → List ℕ
left_by before text (written len) = laid before 0 text
left_by before text (refused number) = before

-- the call's promise: its answer, and every byte of the buffer afterwards
pub record Wrote (own peer tries : ℕ) (before : List ℕ) (answer : Result ℕ Refusal) (after : List ℕ) : Type 0 where
  pub result : shown_written answer ≡ write_of own peer tries (length before)
  pub buffer : after ≡ left_by before (text_of own peer tries) (write_of own peer tries (length before))
