-- Read `WriteAfterRead` and `Samples`; the rest serves them and the functions.
-- what was read is written back, exactly where a writer would write it so
pub mod WriteAfterRead
-- document 01's samples of writing
pub mod Samples
-- no second outcome fits the promise of any public call
pub mod Determined
-- laws of the answer of writing and of the buffer that is left
pub mod WritingLaws
-- writing by a header whose function code is a byte
mod CodedLaws
-- how long a telegram's parts are; that all of it is bytes
pub mod LengthLaws
pub mod ByteLaws
