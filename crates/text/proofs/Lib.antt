-- Read `ReadingLaws`: the number that is read is the one that is written (`number_written`, `number_read`).
-- what a `put_` call leaves: one row after another, a row that fits, byte by byte
pub mod PlacedLaws
-- the digits of a number: their rule, how many there are, that reading undoes writing
pub mod DecimalLaws
-- the number at a place
pub mod ReadingLaws
-- hexadecimal digits, byte by byte
pub mod HexLaws
-- whether a text begins with given bytes
pub mod BeginsLaws
-- text by example
pub mod Samples
-- no second outcome fits the promise of any public call
pub mod Determined
