-- Document 01's initiator. Read `Calls`, then `Records`, then `Heads`.
-- what each call answers, and what it leaves
pub mod Calls
-- the record, and how one is made
pub mod Records
-- the same calls on a head by value and a lent order
pub mod Heads
-- what private functions promise each other
pub mod Leaves
