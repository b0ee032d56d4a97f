-- Read `FunctionCodeLaws`; the rest serves it.
-- the function code, read and written: inverses on the 120 bytes; the bytes of a code
pub mod FunctionCodeLaws
-- the table of function codes, and that it keeps the rule where a test computed over all of it holds
pub mod TableLaws
-- a test computed at each of the first numbers
pub mod EachNumber
-- the numbers of the codes, each looked up again
pub mod NumberLaws
-- the checksum of a joined list
pub mod ChecksumLaws
-- no second outcome fits the promise of any public call
pub mod Determined
