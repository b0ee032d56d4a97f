-- Read `Theorems`; the rest serves it.
-- the reader and the standard's picture, joined
pub mod Theorems
-- what is read beyond the standard, computed
pub mod Samples
-- no second outcome fits the promise of any public call
pub mod Determined
-- what begins with a picture is read; what is read begins with its picture; what is written is a picture
pub mod DrawnLaws
pub mod PictureLaws
-- two drawings of one telegram
pub mod OneDrawing
pub mod WrittenLaws
-- reading looks at a telegram's own bytes alone
pub mod AgreementLaws
-- laws of reading for callers: lengths, places, refusals
pub mod ReadingLaws
-- refused exactly where document 01 says, incomplete exactly where fewer bytes are there than asked for
pub mod RefusedLaws
pub mod AskedLaws
-- laws of the frame: reading is made from it, and what is known of one that was found
pub mod FrameLaws
-- laws of a stream: its rule without a count of steps, and what it is exactly
pub mod StreamLaws
-- every answer of reading, with what is known where it is given
pub mod Answers
-- lists of bytes
pub mod ByteLaws
