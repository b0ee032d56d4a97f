-- `put_end_name` meets its contract: the arm of an incomplete telegram places the bytes of that end.
use Rattle.listing_lines.proofs.line.put_end_name.Goals as goal

pub returns-in-Incomplete : goal.returns-in-Incomplete
returns-in-Incomplete c = rw c.in-Incomplete.is c.put_bytes-in-Incomplete.ensures
