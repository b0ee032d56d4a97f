use Rattle.std.proofs.Common.{◌≡◌}
use Rattle.line_text.proofs.StringsLaws.{HexLeft}
use Rattle.line_text.proofs.strings.decode.Given as goal

abbrev pub invariant-loop-pair : goal.invariant-loop-pair
invariant-loop-pair l = goal.iterator-loop-pair.can_next l.pair-iterator × goal.iterator-loop-pair.is_finite l.pair-iterator × (l.pair-iterator.size ≡ 2)
    × HexLeft l.fn.digits l.bytes l.len l.pair-iterator.rest.now
