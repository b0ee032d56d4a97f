-- Read `Store` and `Walk`, which the promises of the calls cite, seen through `Shown`. What a block says is in crate `diagnostics_blocks`.
-- a buffer as a row of blocks, by the standard and by document 01
pub mod Blocks
-- what ends a walk before its bytes do: document 01's refusals 12 to 14
pub mod Faults
-- the walk, step by step
pub mod Walk
-- the store: what is walked of it, and filling it
pub mod Store
-- the smallest inputs that document 01 takes and the standard does not
pub mod Samples
-- the numbers and values of document 01 for each answer of the code
pub mod Shown
-- what the rules mean for whoever walks, and for a body's modules
pub mod Meaning
