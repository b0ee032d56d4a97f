-- The steps of the scene meet their contract: each step of the row by the promise of its call.
use Rattle.link_rules.specs.Rules.{default_tries}
use Rattle.stage.proofs.PlayLaws.{answers, begins, cabinet_hears_lem, hears, hears_nothing, loses, opening_passes_lem, submits}
use Rattle.scenes.proofs.lost_reply.steps.Goals as goal

pub returns : goal.returns
returns c =
    hears default_tries c.head_end_hears-stage.ensures
    (cabinet_hears_lem default_tries c.cabinet_hears-stage-2.ensures
    (hears_nothing default_tries c.head_end_hears_nothing-stage.ensures
    (loses default_tries c.line_loses-stage.ensures
    (answers default_tries _ c.cabinet_answers-stage.ensures
    (cabinet_hears_lem default_tries c.cabinet_hears-stage.ensures
    (opening_passes_lem default_tries c.opening_passes-stage.ensures
    (submits default_tries _ c.head_end_submits-stage.ensures
    (begins c.open_scene-stage.ensures))))))))
