-- Read `Placed`, what every `put_` call promises; the others say which bytes, and what is read.
-- bytes laid into a lent buffer at a place
pub mod Placed
-- the bytes of a quoted text
pub mod Quoted
-- decimal numbers, written and read
pub mod Decimal
-- bytes as hexadecimal digits
pub mod Hex
-- whether a text begins with given bytes
pub mod Begins
-- what private functions promise each other
pub mod Leaves
