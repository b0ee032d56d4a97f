-- The steps of the scene meet their contract: each step of the row by the promise of its call.
use Rattle.link_rules.specs.Rules.{default_tries}
use Rattle.stage.proofs.PlayLaws.{begins, cabinet_hears_lem, calls_restart, hears, opening_passes_lem, order_passes_lem, submits}
use Rattle.scenes.proofs.restart_in_opening.steps.Goals as goal

pub returns : goal.returns
returns c =
    order_passes_lem default_tries _ c.order_passes-stage.ensures
    (opening_passes_lem default_tries c.opening_passes-stage.ensures
    (submits default_tries _ c.head_end_submits-stage-2.ensures
    (hears default_tries c.head_end_hears-stage.ensures
    (cabinet_hears_lem default_tries c.cabinet_hears-stage.ensures
    (calls_restart default_tries c.head_end_calls_restart-stage.ensures
    (submits default_tries _ c.head_end_submits-stage.ensures
    (begins c.open_scene-stage.ensures)))))))
