-- Rows of steps in which nothing is lost.
use Rattle.std.specs.Prelude.{ℕ, List}
use Rattle.stage.specs.Stages.{initiator_hear_step, responder_hear_step, answer_step}
use Rattle.stage.specs.declared.state.Stage.{Stage}

-- the responder hears the opening, and the initiator its reply
abbrev pub opening_passed : Stage → Stage
opening_passed s = (initiator_hear_step (responder_hear_step s).stage).stage

-- the responder hears the order and answers it, and the initiator hears the reply
abbrev pub order_passed : Stage → List ℕ → Stage
order_passed s reply = (initiator_hear_step (answer_step (responder_hear_step s).stage reply).stage).stage
