-- The steps of the scene meet their contract: each step of the row by the promise of its call.
use Rattle.stage.proofs.PlayLaws.{answers, cabinet_hears_lem, hears, hears_nothing, opening_passes_lem, submits}
use Rattle.scenes.proofs.slow_cabinet.steps.Goals as goal

pub returns : goal.returns
returns c =
    hears 1 c.head_end_hears-stage.ensures
    (answers 1 _ c.cabinet_answers-stage.ensures
    (cabinet_hears_lem 1 c.cabinet_hears-stage-2.ensures
    (opening_passes_lem 1 c.opening_passes-stage-2.ensures
    (submits 1 _ c.head_end_submits-stage-2.ensures
    (hears_nothing 1 c.head_end_hears_nothing-stage.ensures
    (cabinet_hears_lem 1 c.cabinet_hears-stage.ensures
    (opening_passes_lem 1 c.opening_passes-stage.ensures
    (submits 1 _ c.head_end_submits-stage.ensures
    c.open_scene_with_tries-stage.ensures))))))))
