-- A scene as a row of steps, and its telegrams. Read `stepped`, `played` and `telegrams`.
use Rattle.std.specs.Prelude.{ℕ, ◌+◌, List, [], ◌∷◌}
use Rattle.stage.specs.Stages.{fresh_with, with_ends, on_line, submit_step, silence_step, initiator_hear_step, restart_step, responder_hear_step, answer_step, responder_anew_of, restarted_of, lost_of}
use Rattle.stage.specs.declared.state.Stage.{Stage}

-- who does what; an order and a reply with their bytes
pub data Step : Type 0 where
  head_end_submits : List ℕ → Step
  head_end_hears_nothing : Step
  head_end_hears : Step
  head_end_calls_restart : Step
  head_end_made_anew : Step
  cabinet_hears : Step
  cabinet_answers : List ℕ → Step
  cabinet_restarts : Step
  cabinet_made_anew : Step
  line_loses : Step

-- the initiator has "one made anew", with so many tries
abbrev pub anew_with : ℕ → Stage → Stage
anew_with tries s = with_ends s (fresh_with tries).initiator s.responder

-- the stage after a step; an initiator that is made anew in it is given so many tries
unfoldable pub stepped : ℕ → Step → Stage → Stage
stepped tries (head_end_submits order) s = (submit_step s order).stage
stepped tries head_end_hears_nothing s = (silence_step s).stage
stepped tries head_end_hears s = (initiator_hear_step s).stage
stepped tries head_end_calls_restart s = (restart_step s).stage
stepped tries head_end_made_anew s = anew_with tries s
stepped tries cabinet_hears s = (responder_hear_step s).stage
stepped tries (cabinet_answers reply) s = (answer_step s reply).stage
stepped tries cabinet_restarts s = restarted_of s
stepped tries cabinet_made_anew s = responder_anew_of s
stepped tries line_loses s = lost_of s

-- the stage after a row of steps
abbrev pub played_from : ℕ → List Step → Stage → Stage
played_from tries [] s = s
played_from tries (step ∷ row) s = played_from tries row (stepped tries step s)

-- what is on the line after each step of a row: a telegram, or no byte
abbrev pub telegrams_from : ℕ → List Step → Stage → List (List ℕ)
telegrams_from tries [] s = []
telegrams_from tries (step ∷ row) s = on_line (stepped tries step s) ∷ telegrams_from tries row (stepped tries step s)

-- a row from two ends made, the initiator with so many tries
abbrev pub played : ℕ → List Step → Stage
played tries row = played_from tries row (fresh_with tries)

abbrev pub telegrams : ℕ → List Step → List (List ℕ)
telegrams tries row = telegrams_from tries row (fresh_with tries)

-- how often silence is reported in a row
abbrev pub silences_in : Step → ℕ
silences_in (head_end_submits order) = 0
silences_in head_end_hears_nothing = 1
silences_in head_end_hears = 0
silences_in head_end_calls_restart = 0
silences_in head_end_made_anew = 0
silences_in cabinet_hears = 0
silences_in (cabinet_answers reply) = 0
silences_in cabinet_restarts = 0
silences_in cabinet_made_anew = 0
silences_in line_loses = 0

abbrev pub silences : List Step → ℕ
silences [] = 0
silences (step ∷ row) = silences_in step + silences row
