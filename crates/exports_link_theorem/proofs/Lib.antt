-- Read `Theorem`, `There` and `Sizes`, then `Runs` and `Wrong`; the rest serves them.
-- demand 3 of the exported calls
pub mod Theorem
-- what a driver is told the place of is there
pub mod There
-- the bytes of the records stay as many as their arrays have
pub mod Sizes
-- runs of the exported calls, computed
pub mod Runs
-- wrong boundaries, for which demand 3 is refuted
pub mod Wrong
-- a call by value, crossed and read by its driver, is that call
pub mod Crossings
-- what is refused, and where what is told lies
pub mod Fair
