-- the words of a line, and the numbers in them
pub mod WordsLaws
-- the bytes of a byte string
pub mod StringsLaws
-- pieces laid down for an answer, one after another
pub mod OutLaws
