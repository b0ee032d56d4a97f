-- Read `Text`, the text as a picture; `Reading` and `Writing` are what the two calls answer.
-- a line `name=number`
pub mod Lines
-- the three lines
pub mod Text
-- the rules of a link, 18 and 19
pub mod Rules
-- what reading a text answers
pub mod Reading
-- what writing it answers, and what the buffer holds afterwards
pub mod Writing
