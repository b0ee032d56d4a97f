-- Read `Determined: determined`.
-- no second outcome fits the promise of any public call
pub mod Determined
-- the calls that never refuse meet their contracts
pub mod Replacing
-- the calls that may refuse meet theirs
pub mod Answering
