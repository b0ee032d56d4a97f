-- A scene that is played, step by step: where a step's own promise gives the next stage, the row has one step more. Each law takes the promise
-- of the call, and what was known of the stage before.
use Prim.Native.Nat.{ℕ}
use mathlib.Core.List.{List}
use mathlib.Core.Path.{◌≡◌, ap, ◌∙◌}
use Rattle.initiator.specs.Records.{made_of}
use Rattle.link_rules.specs.Rules.{default_tries, wrong_addresses, wrong_tries}
use Rattle.stage.specs.Exchanges.{opening_passed, order_passed}
use Rattle.stage.specs.Rows.{head_end_submits, head_end_hears_nothing, head_end_hears, head_end_calls_restart, head_end_made_anew, cabinet_hears, cabinet_answers, cabinet_restarts, cabinet_made_anew, line_loses, stepped}
use Rattle.stage.specs.Stages.{fresh, fresh_with, submit_step, silence_step, initiator_hear_step, restart_step, responder_hear_step, answer_step, anew_of, responder_anew_of, restarted_of, lost_of}
use Rattle.stage.specs.declared.state.Stage.{Stage}

-- the stage of a scene that states no number of tries
pub begins : {s : Stage} → s ≡ fresh → s ≡ fresh_with default_tries
unfolding made_of wrong_addresses wrong_tries
begins e = e

module _ (n : ℕ) {s t u : Stage} where
  pub submits : (order : List ℕ) → t ≡ (submit_step s order).stage → s ≡ u → t ≡ stepped n (head_end_submits order) u
  unfolding stepped
  submits order e f = e ∙ ap (λ (x : Stage). (submit_step x order).stage) f

  pub hears_nothing : t ≡ (silence_step s).stage → s ≡ u → t ≡ stepped n head_end_hears_nothing u
  unfolding stepped
  hears_nothing e f = e ∙ ap (λ (x : Stage). (silence_step x).stage) f

  pub hears : t ≡ (initiator_hear_step s).stage → s ≡ u → t ≡ stepped n head_end_hears u
  unfolding stepped
  hears e f = e ∙ ap (λ (x : Stage). (initiator_hear_step x).stage) f

  pub calls_restart : t ≡ (restart_step s).stage → s ≡ u → t ≡ stepped n head_end_calls_restart u
  unfolding stepped
  calls_restart e f = e ∙ ap (λ (x : Stage). (restart_step x).stage) f

  pub cabinet_hears_lem : t ≡ (responder_hear_step s).stage → s ≡ u → t ≡ stepped n cabinet_hears u
  unfolding stepped
  cabinet_hears_lem e f = e ∙ ap (λ (x : Stage). (responder_hear_step x).stage) f

  pub answers : (reply : List ℕ) → t ≡ (answer_step s reply).stage → s ≡ u → t ≡ stepped n (cabinet_answers reply) u
  unfolding stepped
  answers reply e f = e ∙ ap (λ (x : Stage). (answer_step x reply).stage) f

  pub restarts : t ≡ restarted_of s → s ≡ u → t ≡ stepped n cabinet_restarts u
  unfolding stepped
  restarts e f = e ∙ ap restarted_of f

  pub cabinet_anew : t ≡ responder_anew_of s → s ≡ u → t ≡ stepped n cabinet_made_anew u
  unfolding stepped
  cabinet_anew e f = e ∙ ap responder_anew_of f

  pub loses : t ≡ lost_of s → s ≡ u → t ≡ stepped n line_loses u
  unfolding stepped
  loses e f = e ∙ ap lost_of f

  pub opening_passes_lem : t ≡ opening_passed s → s ≡ u → t ≡ stepped n head_end_hears (stepped n cabinet_hears u)
  unfolding stepped
  opening_passes_lem e f = e ∙ ap opening_passed f

  pub order_passes_lem : (reply : List ℕ) → t ≡ order_passed s reply → s ≡ u → t ≡ stepped n head_end_hears (stepped n (cabinet_answers reply) (stepped n cabinet_hears u))
  unfolding stepped
  order_passes_lem reply e f = e ∙ ap (λ (x : Stage). order_passed x reply) f

-- a record made anew states no number either
pub made_anew_lem : {s t u : Stage} → t ≡ anew_of s → s ≡ u → t ≡ stepped default_tries head_end_made_anew u
unfolding stepped made_of wrong_addresses wrong_tries
made_anew_lem e f = e ∙ ap anew_of f
