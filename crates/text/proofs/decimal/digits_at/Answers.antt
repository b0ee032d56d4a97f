-- One digit more is read.
use mathlib.Core.Path.{sym, ◌∙◌}
use Rattle.text.proofs.ReadingLaws.{left_turn}
use Rattle.text.proofs.decimal.digits_at.Goals as goal

pub loop-next-preserved : goal.loop-next-preserved
loop-next-preserved c =
    left_turn c.loop-next.invariant c.loop-next-test.true (sym c.is_digit.ensures ∙ c.if-not-is_digit.false) c.append-value.ensures
