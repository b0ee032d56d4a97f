-- The steps of the scene meet their contract: each step of the row by the promise of its call.
use Rattle.stage.proofs.PlayLaws.{cabinet_hears_lem, hears_nothing, loses, opening_passes_lem, order_passes_lem, restarts, submits}
use Rattle.scenes.proofs.cabinet_restart.steps.Goals as goal

pub returns : goal.returns
returns c =
    order_passes_lem 2 _ c.order_passes-stage.ensures
    (opening_passes_lem 2 c.opening_passes-stage-2.ensures
    (submits 2 _ c.head_end_submits-stage-2.ensures
    (hears_nothing 2 c.head_end_hears_nothing-stage-2.ensures
    (cabinet_hears_lem 2 c.cabinet_hears-stage.ensures
    (hears_nothing 2 c.head_end_hears_nothing-stage.ensures
    (restarts 2 c.cabinet_restarts-stage.ensures
    (loses 2 c.line_loses-stage.ensures
    (opening_passes_lem 2 c.opening_passes-stage.ensures
    (submits 2 _ c.head_end_submits-stage.ensures
    c.open_scene_with_tries-stage.ensures)))))))))
