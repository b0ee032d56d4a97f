-- Read `Picture` and `Begins`: what a telegram is; then `Reading`: what a reader answers.
-- the bytes of a telegram, as the standard draws it
pub mod Picture
-- which bytes begin with a telegram, by the standard, by document 01 and in strict mode
pub mod Begins
-- document 01's steps of reading, with their refusals
pub mod Reading
-- which bytes are refused and why, and how many an incomplete string asks for: what the table means
pub mod Refused
pub mod Asked
-- the same up to step 3: where a data telegram stands, and whether it is sealed
pub mod Frames
-- each point in which document 01 is wider than the standard
pub mod Points
-- the small questions that the Rust answers of a telegram
pub mod Questions
-- the smallest inputs that are read beyond the standard
pub mod Samples
-- the telegrams of a byte string, one behind the other, and how it ends
pub mod Stream
-- what private functions promise each other
pub mod Leaves
