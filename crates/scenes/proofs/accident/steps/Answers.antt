-- The steps of the scene meet their contract: each step of the row by the promise of its call.
use Rattle.link_rules.specs.Rules.{default_tries}
use Rattle.stage.proofs.PlayLaws.{begins, made_anew_lem, opening_passes_lem, order_passes_lem, submits}
use Rattle.scenes.proofs.accident.steps.Goals as goal

pub returns : goal.returns
returns c =
    order_passes_lem default_tries _ c.order_passes-stage-2.ensures
    (opening_passes_lem default_tries c.opening_passes-stage-2.ensures
    (submits default_tries _ c.head_end_submits-stage-2.ensures
    (made_anew_lem c.head_end_restarts-stage.ensures
    (order_passes_lem default_tries _ c.order_passes-stage.ensures
    (opening_passes_lem default_tries c.opening_passes-stage.ensures
    (submits default_tries _ c.head_end_submits-stage.ensures
    (begins c.open_scene-stage.ensures)))))))
