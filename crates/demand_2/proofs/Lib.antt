-- Read `Theorem`; then the wrong systems, each refuted.
-- demand 2 holds of ours
pub mod Theorem
-- what it rests on, part by part
pub mod OurReader
pub mod OurStrictReader
pub mod OurWriter
pub mod OurWalk
-- systems for which it is refuted
pub mod WrongReaders
pub mod WrongStrictReaders
pub mod WrongWriters
pub mod WrongWalks
pub mod WrongLists
-- rows of numbers that are bytes, by computing
pub mod ByteRows
