-- After some turns the numbers so far are laid down, with commas between them.
use Rattle.std.proofs.Common.{◌≡◌}
use Rattle.line_text.specs.Out.{Laid, number_pieces}
use Rattle.line_text.proofs.OutLaws.{none_yet}
use Rattle.line_text.proofs.answers.Out.list.Given as goal

abbrev pub invariant-loop-item : goal.invariant-loop-item
invariant-loop-item g l = record {
  laid : Laid l.initial.self (number_pieces l.yielded) l.self;
  first : l.is_first ≡ none_yet l.yielded;
}
