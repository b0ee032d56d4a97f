-- Read `Words`, what is read from a line and what is left of it, and `Out`, what is laid down for its answer.
-- the words of a line, and the numbers and byte strings in them
pub mod Words
-- what is laid down for the answer of a line
pub mod Out
