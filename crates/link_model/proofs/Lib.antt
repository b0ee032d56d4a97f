-- Read `Theorem` and `Coded`: demand 3 of our ends on messages and over any encoding, and `Wrong`: wrong ends refuted. The rest serves them.
-- what an end ignores
pub mod Ignored
-- the invariant, and that every call keeps it
pub mod Invariant
pub mod Kept
pub mod Steps
pub mod Always
-- from it the clauses about what has happened
pub mod Safety
-- from it the last sentence, and that orders are taken
pub mod Going
pub mod Liveness
-- demand 3 of our ends on messages, and over any encoding that gives back what was put
pub mod Theorem
pub mod Coded
-- runs that the statements are tried on, and wrong ends refuted
pub mod Scenes
pub mod Runs
pub mod Wrong
-- ends that count, and our ends answered by number
pub mod Counting
