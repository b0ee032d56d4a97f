-- The name, the number and the line feed are placed one behind the other.
use Rattle.settings.proofs.LineLaws.{line_placed}
use Rattle.settings.proofs.line.put_line.Goals as goal

pub returns : goal.returns
returns c = line_placed _ c.put_bytes-number.ensures c.put_decimal-end.ensures c.put_byte.ensures
