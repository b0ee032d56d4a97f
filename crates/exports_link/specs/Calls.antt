-- What a call of either end is to a program in another language: a code, the numbers told, and the lent bytes at its end.
-- Read `Crossing`, `crossed`, `new_call`.
use Rattle.std.specs.Prelude.{ℕ, Bool, false, List, ◌∷◌, ltb}
use Rattle.ground.specs.Pick.{if}
use Rattle.link_telegrams.specs.Turns.{Said, sent, tells, nothing, refused, Turn, Made}

pub record Call : Type 0 where
  pub code : ℕ
  pub told : List ℕ
  pub state : List ℕ
  pub buffer : List ℕ

-- making an end
pub record NewCall : Type 0 where
  pub code : ℕ
  pub state : List ℕ

-- 0 is no refusal, nor is a code from 100 on; document 01's numbers are 1 to 22
abbrev pub is_refusal : ℕ → Bool
is_refusal code = if (ltb 0 code) (ltb code 100) false

-- numbers or bytes that were lent: a refused call leaves them as they came
abbrev pub unless_refused : ℕ → List ℕ → List ℕ → List ℕ
unless_refused code before after = if (is_refusal code) before after

-- how an end crosses: the bytes of its record, what its application is told as a code that no refusal has and as numbers, and the zeros
-- that stand after the first number where nothing is told
pub record Crossing (End Tale : Type 0) : Type 0 where
  pub bytes : End → List ℕ
  pub code : Tale → ℕ
  pub numbers : Tale → List ℕ
  pub zeros : List ℕ

-- 0 for nothing, a refusal's own number, or a code that no refusal has
abbrev pub code_of : {Tale : Type 0} → (Tale → ℕ) → Said Tale → ℕ
code_of code (sent n) = 102
code_of code (tells tale) = code tale
code_of code nothing = 0
code_of code (refused n) = n

-- the length of the telegram, or the numbers of what is told; 0 where there is none
abbrev pub told_of : {Tale : Type 0} → (Tale → List ℕ) → List ℕ → Said Tale → List ℕ
told_of numbers zeros (sent n) = n ∷ zeros
told_of numbers zeros (tells tale) = numbers tale
told_of numbers zeros nothing = 0 ∷ zeros
told_of numbers zeros (refused n) = 0 ∷ zeros

-- a call by value, with the state's bytes and the numbers as they came
unfoldable pub crossed : {End Tale : Type 0} → Crossing End Tale → List ℕ → List ℕ → Turn End Tale → Call
crossed across state told turn =
    record {
      code = code_of across.code turn.said;
      told = unless_refused (code_of across.code turn.said) told (told_of across.numbers across.zeros turn.said);
      state = unless_refused (code_of across.code turn.said) state (across.bytes turn.end);
      buffer = turn.buffer;
    }

-- making an end
unfoldable pub new_call : {End Tale : Type 0} → Crossing End Tale → Made End → List ℕ → NewCall
new_call across made state = record { code = made.number; state = unless_refused made.number state (across.bytes made.end) }
