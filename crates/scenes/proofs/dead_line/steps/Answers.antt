-- The steps of the scene meet their contract: each step of the row by the promise of its call.
use Rattle.stage.proofs.PlayLaws.{hears_nothing, loses, opening_passes_lem, submits}
use Rattle.scenes.proofs.dead_line.steps.Goals as goal

pub returns : goal.returns
returns c =
    hears_nothing 2 c.head_end_hears_nothing-stage-4.ensures
    (loses 2 c.line_loses-stage-4.ensures
    (hears_nothing 2 c.head_end_hears_nothing-stage-3.ensures
    (loses 2 c.line_loses-stage-3.ensures
    (opening_passes_lem 2 c.opening_passes-stage.ensures
    (submits 2 _ c.head_end_submits-stage-2.ensures
    (hears_nothing 2 c.head_end_hears_nothing-stage-2.ensures
    (loses 2 c.line_loses-stage-2.ensures
    (hears_nothing 2 c.head_end_hears_nothing-stage.ensures
    (loses 2 c.line_loses-stage.ensures
    (submits 2 _ c.head_end_submits-stage.ensures
    c.open_scene_with_tries-stage.ensures))))))))))
