-- What is shown of a step tells its values apart.
use mathlib.Core.Path.{◌≡◌}
use Rattle.ground.specs.declared.returned.Returned.{Returned}
use Rattle.initiator.proofs.ShownLaws as initiator
use Rattle.initiator.specs.declared.answer.InitiatorAnswer.{InitiatorAnswer}
use Rattle.responder.proofs.ShownLaws as responder
use Rattle.responder.specs.declared.answer.ResponderAnswer.{ResponderAnswer}
use Rattle.stage.specs.Stages.{shown_initiator_step, shown_responder_step}
use Rattle.stage.specs.declared.state.Stage.{Stage}

pub initiator_step_injective : (x y : Returned InitiatorAnswer Stage) → shown_initiator_step x ≡ shown_initiator_step y → x ≡ y
initiator_step_injective x y e i = record { answer = initiator.said_injective x.answer y.answer (λ j. (e j).said) i; after = (e i).stage }

pub responder_step_injective : (x y : Returned ResponderAnswer Stage) → shown_responder_step x ≡ shown_responder_step y → x ≡ y
responder_step_injective x y e i = record { answer = responder.said_injective x.answer y.answer (λ j. (e j).said) i; after = (e i).stage }
