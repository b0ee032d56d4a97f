-- `FunctionCode::to_byte` meets its contract: each arm is a clause of `code_byte`, and its sums stay in a byte.
use Rattle.codes.specs.FunctionCodes.{code_byte}
use Rattle.codes.proofs.function_code.FunctionCode.to_byte.Goals as goal

pub returns-in-Request : goal.returns-in-Request
unfolding code_byte
returns-in-Request c = rw (c.in-Request.is, c.frame_count_part.ensures, c.number.ensures)

pub returns-in-Response : goal.returns-in-Response
unfolding code_byte
returns-in-Response c = rw (c.in-Response.is, c.number-in-Response.ensures, c.number-in-Response-2.ensures)
