-- Demand 3, stated of any pair of ends. Read `Demand`; what it says of a run stands in the files above it, in reading order.
-- what a call of an end gives, and how an order ends
pub mod Turns
-- what has happened: orders submitted, handed up, answered, and their outcomes
pub mod History
-- any pair of ends, the calls, the line between them and the runs
pub mod Line
-- the demand's clauses about what has happened
pub mod Safe
-- its last sentence, and which orders are taken
pub mod Live
-- the demand
pub mod Demand
-- beside the demand: whose reply a confirmed order shows, where the application answers by number
pub mod Numbers
