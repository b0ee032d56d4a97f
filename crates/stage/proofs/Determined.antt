-- No second outcome fits the promise of a public call of `stage`: two outcomes that its promise allows are the same.
use mathlib.Core.Path.{refl}
use Rattle.stage.proofs.ShownLaws.{initiator_step_injective, responder_step_injective}
use Rattle.ground.proofs.DeterminedLaws.{fixed, seen}
use Rattle.ground.specs.Determined.{Determined}
use Rattle.stage.specs.contracts.scenes.cabinet_answers as cabinet_answers
use Rattle.stage.proofs.scenes.cabinet_answers.Reads as cabinet_answers_reads
use Rattle.stage.specs.contracts.scenes.cabinet_hears as cabinet_hears
use Rattle.stage.proofs.scenes.cabinet_hears.Reads as cabinet_hears_reads
use Rattle.stage.specs.contracts.scenes.cabinet_made_anew as cabinet_made_anew
use Rattle.stage.proofs.scenes.cabinet_made_anew.Reads as cabinet_made_anew_reads
use Rattle.stage.specs.contracts.scenes.cabinet_restarts as cabinet_restarts
use Rattle.stage.proofs.scenes.cabinet_restarts.Reads as cabinet_restarts_reads
use Rattle.stage.specs.contracts.scenes.close_scene as close_scene
use Rattle.stage.proofs.scenes.close_scene.Reads as close_scene_reads
use Rattle.stage.specs.contracts.scenes.head_end_calls_restart as head_end_calls_restart
use Rattle.stage.proofs.scenes.head_end_calls_restart.Reads as head_end_calls_restart_reads
use Rattle.stage.specs.contracts.scenes.head_end_hears as head_end_hears
use Rattle.stage.proofs.scenes.head_end_hears.Reads as head_end_hears_reads
use Rattle.stage.specs.contracts.scenes.head_end_hears_nothing as head_end_hears_nothing
use Rattle.stage.proofs.scenes.head_end_hears_nothing.Reads as head_end_hears_nothing_reads
use Rattle.stage.specs.contracts.scenes.head_end_restarts as head_end_restarts
use Rattle.stage.proofs.scenes.head_end_restarts.Reads as head_end_restarts_reads
use Rattle.stage.specs.contracts.scenes.head_end_submits as head_end_submits
use Rattle.stage.proofs.scenes.head_end_submits.Reads as head_end_submits_reads
use Rattle.stage.specs.contracts.scenes.line_loses as line_loses
use Rattle.stage.proofs.scenes.line_loses.Reads as line_loses_reads
use Rattle.stage.specs.contracts.scenes.open_scene as open_scene
use Rattle.stage.proofs.scenes.open_scene.Reads as open_scene_reads
use Rattle.stage.specs.contracts.scenes.open_scene_with_tries as open_scene_with_tries
use Rattle.stage.proofs.scenes.open_scene_with_tries.Reads as open_scene_with_tries_reads
use Rattle.stage.specs.contracts.scenes.opening_passes as opening_passes
use Rattle.stage.proofs.scenes.opening_passes.Reads as opening_passes_reads
use Rattle.stage.specs.contracts.scenes.order_passes as order_passes
use Rattle.stage.proofs.scenes.order_passes.Reads as order_passes_reads
use Rattle.stage.specs.contracts.state.Stage.answer as answer
use Rattle.stage.proofs.state.Stage.answer.Reads as answer_reads
use Rattle.stage.specs.contracts.state.Stage.initiator_hears as initiator_hears
use Rattle.stage.proofs.state.Stage.initiator_hears.Reads as initiator_hears_reads
use Rattle.stage.specs.contracts.state.Stage.lose as lose
use Rattle.stage.proofs.state.Stage.lose.Reads as lose_reads
use Rattle.stage.specs.contracts.state.Stage.make_initiator_anew as make_initiator_anew
use Rattle.stage.proofs.state.Stage.make_initiator_anew.Reads as make_initiator_anew_reads
use Rattle.stage.specs.contracts.state.Stage.make_responder_anew as make_responder_anew
use Rattle.stage.proofs.state.Stage.make_responder_anew.Reads as make_responder_anew_reads
use Rattle.stage.specs.contracts.state.Stage.new as new_stage
use Rattle.stage.proofs.state.Stage.new.Reads as new_stage_reads
use Rattle.stage.specs.contracts.state.Stage.report_silence as report_silence
use Rattle.stage.proofs.state.Stage.report_silence.Reads as report_silence_reads
use Rattle.stage.specs.contracts.state.Stage.responder_hears as responder_hears
use Rattle.stage.proofs.state.Stage.responder_hears.Reads as responder_hears_reads
use Rattle.stage.specs.contracts.state.Stage.restart_initiator as restart_initiator
use Rattle.stage.proofs.state.Stage.restart_initiator.Reads as restart_initiator_reads
use Rattle.stage.specs.contracts.state.Stage.restart_responder as restart_responder
use Rattle.stage.proofs.state.Stage.restart_responder.Reads as restart_responder_reads
use Rattle.stage.specs.contracts.state.Stage.submit as submit
use Rattle.stage.proofs.state.Stage.submit.Reads as submit_reads
use Rattle.stage.specs.contracts.state.Stage.tally as tally
use Rattle.stage.proofs.state.Stage.tally.Reads as tally_reads
use Rattle.stage.specs.contracts.state.Stage.with_tries as with_tries
use Rattle.stage.proofs.state.Stage.with_tries.Reads as with_tries_reads

pub record Calls : Type 0 where
  pub open_scene : Determined open_scene.ended open_scene_reads.Learnt
  pub open_scene_with_tries : Determined open_scene_with_tries.ended open_scene_with_tries_reads.Learnt
  pub close_scene : Determined close_scene.ended close_scene_reads.Learnt
  pub head_end_submits : Determined head_end_submits.ended head_end_submits_reads.Learnt
  pub head_end_hears_nothing : Determined head_end_hears_nothing.ended head_end_hears_nothing_reads.Learnt
  pub head_end_hears : Determined head_end_hears.ended head_end_hears_reads.Learnt
  pub head_end_calls_restart : Determined head_end_calls_restart.ended head_end_calls_restart_reads.Learnt
  pub head_end_restarts : Determined head_end_restarts.ended head_end_restarts_reads.Learnt
  pub cabinet_hears : Determined cabinet_hears.ended cabinet_hears_reads.Learnt
  pub cabinet_answers : Determined cabinet_answers.ended cabinet_answers_reads.Learnt
  pub cabinet_restarts : Determined cabinet_restarts.ended cabinet_restarts_reads.Learnt
  pub cabinet_made_anew : Determined cabinet_made_anew.ended cabinet_made_anew_reads.Learnt
  pub line_loses : Determined line_loses.ended line_loses_reads.Learnt
  pub opening_passes : Determined opening_passes.ended opening_passes_reads.Learnt
  pub order_passes : Determined order_passes.ended order_passes_reads.Learnt
  pub new_stage : Determined new_stage.ended new_stage_reads.Learnt
  pub with_tries : Determined with_tries.ended with_tries_reads.Learnt
  pub tally : Determined tally.ended tally_reads.Learnt
  pub make_initiator_anew : Determined make_initiator_anew.ended make_initiator_anew_reads.Learnt
  pub make_responder_anew : Determined make_responder_anew.ended make_responder_anew_reads.Learnt
  pub restart_responder : Determined restart_responder.ended restart_responder_reads.Learnt
  pub lose : Determined lose.ended lose_reads.Learnt
  pub submit : Determined submit.ended submit_reads.Learnt
  pub report_silence : Determined report_silence.ended report_silence_reads.Learnt
  pub initiator_hears : Determined initiator_hears.ended initiator_hears_reads.Learnt
  pub restart_initiator : Determined restart_initiator.ended restart_initiator_reads.Learnt
  pub responder_hears : Determined responder_hears.ended responder_hears_reads.Learnt
  pub answer : Determined answer.ended answer_reads.Learnt

pub determined : Calls
determined =
    record {
      open_scene = fixed (λ κs a u v. refl);
      open_scene_with_tries = fixed (λ κs a u v. refl);
      close_scene = record { one = λ κs a m n. (refl, refl) };
      head_end_submits = fixed (λ κs a u v. refl);
      head_end_hears_nothing = fixed (λ κs a u v. refl);
      head_end_hears = fixed (λ κs a u v. refl);
      head_end_calls_restart = fixed (λ κs a u v. refl);
      head_end_restarts = fixed (λ κs a u v. refl);
      cabinet_hears = fixed (λ κs a u v. refl);
      cabinet_answers = fixed (λ κs a u v. refl);
      cabinet_restarts = fixed (λ κs a u v. refl);
      cabinet_made_anew = fixed (λ κs a u v. refl);
      line_loses = fixed (λ κs a u v. refl);
      opening_passes = fixed (λ κs a u v. refl);
      order_passes = fixed (λ κs a u v. refl);
      new_stage = fixed (λ κs a u v. refl);
      with_tries = fixed (λ κs a u v. refl);
      tally = fixed (λ κs a u v. refl);
      make_initiator_anew = fixed (λ κs a u v. refl);
      make_responder_anew = fixed (λ κs a u v. refl);
      restart_responder = fixed (λ κs a u v. refl);
      lose = fixed (λ κs a u v. refl);
      submit = seen (λ κs. initiator_step_injective) (λ κs a u v. refl);
      report_silence = seen (λ κs. initiator_step_injective) (λ κs a u v. refl);
      initiator_hears = seen (λ κs. initiator_step_injective) (λ κs a u v. refl);
      restart_initiator = seen (λ κs. initiator_step_injective) (λ κs a u v. refl);
      responder_hears = seen (λ κs. responder_step_injective) (λ κs a u v. refl);
      answer = seen (λ κs. responder_step_injective) (λ κs a u v. refl);
    }
