-- What the digits at `at` say is, at each turn, what those at `next` say read on from `value`.
use Rattle.text.proofs.ReadingLaws.{DigitsLeft}
use Rattle.text.proofs.decimal.digits_at.Given as goal

abbrev pub invariant-loop-next : goal.invariant-loop-next
invariant-loop-next l = DigitsLeft l.text l.at l.limit l.value l.next
