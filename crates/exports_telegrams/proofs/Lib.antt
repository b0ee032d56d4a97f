-- Read `Determined`; the other serves the functions' proofs.
-- no second outcome fits the promise of any public call
pub mod Determined
-- what was told of the writer's answer to a header with a byte
mod WriteLaws
