-- What follows of the demand for any pair of ends: a pair that follows another which keeps it, keeps it. Read `Transfer`.
-- what it is that one pair follows another
pub mod Follows
-- the demand carries over
pub mod Transfer
-- when a reply is owed, which carries over too
pub mod Owing
-- what a log of numbered answers is beside the history
pub mod Labelled
-- the demand of a pair that looks at the number of an answer
pub mod ByNumber
