-- Read `Samples`, document 01's example, and `output_shown` of `AnswerLaws`: with its room, what is printed is what document 01 says.
-- what the calls answer, and what is shown of it
pub mod AnswerLaws
-- the lines from a place on, what the two loops keep, the room that is always enough
pub mod ListingLaws
-- the item at a place
pub mod ItemLaws
-- the listing by example, and what `bytes=` says of every input
pub mod Samples
-- no second outcome fits the promise of any public call
pub mod Determined
