-- Our two ends on messages. Nothing here has to be believed: demand 3 is stated in the crate demand_3, and holds of the calls
-- themselves in link_theorem; this model carries the proof.
-- what the two ends say to each other
pub mod Messages
-- the two ends' rules on messages
pub mod Initiator
pub mod Responder
-- the two as a pair of ends, and any two ends on messages
pub mod Ours
-- the two over any way to write messages as telegrams
pub mod Coded
-- any pair of ends whose responder numbers what it hands up
pub mod Counting
