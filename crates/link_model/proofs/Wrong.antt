-- Pairs of ends for which demand 3 is refuted: each is wrong in one rule, and a scene shows the clause that fails.
pub mod Tools
pub mod Initiators
pub mod Responders
pub mod Carrying
-- answers by number
pub mod Numbers
