-- What the diagnostics calls tell a program in another language: numbers alone. Read the definitions named like the calls: each is the whole
-- promise of its call, over what is lent at entry.
use Rattle.std.specs.Prelude.{ℕ, Bool, List, [], ◌∷◌, get_or}
use Rattle.ground.specs.Bits.{digit}
use Rattle.diagnostics_blocks.specs.Channel.{error_number}
use Rattle.diagnostics_blocks.specs.Modules.{bit_of}
use Rattle.diagnostics.specs.Store.{Filling, fill_of, walked_of}
use Rattle.diagnostics.specs.Walk.{PlacedBlock, StepAnswer, Stepped, at_end, block, channel_is, device_at, identifier_at, refused, step_of}

-- kind, start and length of the body, module, channel, input, output, type, error; 0 where a block has none
abbrev pub told_of : PlacedBlock → List ℕ
told_of (identifier_at start size) = 1 ∷ start ∷ size ∷ 0 ∷ 0 ∷ 0 ∷ 0 ∷ 0 ∷ 0 ∷ []
told_of (device_at start size) = 2 ∷ start ∷ size ∷ 0 ∷ 0 ∷ 0 ∷ 0 ∷ 0 ∷ 0 ∷ []
told_of (channel_is c) =
    3 ∷ 0 ∷ 0 ∷ c.module_no ∷ c.channel_no ∷ digit c.input ∷ digit c.output ∷ c.dtype ∷ error_number c.error ∷ []

-- a step: its code, and the lent numbers at its end
pub record StepCall : Type 0 where
  pub code : ℕ
  pub cursor : List ℕ
  pub told : List ℕ

-- 0 and the block; 101 at the end, which no refusal has; or a refusal's number. The cursor is always told
abbrev pub step_call : StepAnswer → ℕ → List ℕ → StepCall
step_call (block p) next before = record { code = 0; cursor = next ∷ []; told = told_of p }
step_call at_end next before = record { code = 101; cursor = next ∷ []; told = before }
step_call (refused n) next before = record { code = n; cursor = next ∷ []; told = before }

-- a step of the walk, told
abbrev pub stepped_call : Stepped → List ℕ → StepCall
stepped_call s before = step_call s.answer s.cursor before

-- a filling: its answer, and the lent number and bytes at its end
pub record FillCall : Type 0 where
  pub answer : Bool
  pub walked : List ℕ
  pub store : List ℕ

abbrev pub fill_call : Filling → FillCall
fill_call f = record { answer = f.answer; walked = f.walked ∷ []; store = f.store }

-- ---- the calls

abbrev pub koy_diagnostics_step : List ℕ → ℕ → List ℕ → List ℕ → StepCall
koy_diagnostics_step store walked cursor told = stepped_call (step_of (walked_of walked store) (get_or cursor 0 0)) told

abbrev pub koy_diagnostics_fill : List ℕ → List ℕ → List ℕ → FillCall
koy_diagnostics_fill store walked bytes = fill_call (fill_of store (get_or walked 0 0) bytes)

abbrev pub koy_diagnostics_module : List ℕ → ℕ → Bool
koy_diagnostics_module body index = bit_of body index
