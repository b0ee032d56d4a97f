-- Read `Listing`, the whole text, over the stream of crate `telegram` and the lines of crate `listing_lines`; then `Answers`, what the two calls promise.
-- the line of a telegram
pub mod Telegrams
-- the whole text
pub mod Listing
-- what the calls answer, and what the buffer holds afterwards
pub mod Answers
-- what private functions promise each other
pub mod Leaves
