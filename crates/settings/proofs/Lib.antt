-- Read `TextLaws`: which texts are read as which settings (`reads_settings`, `reads_no_form`, `read_as_written`).
-- the texts that are read, as pictures of their bytes
pub mod TextLaws
-- a line `name=number`
pub mod LineLaws
-- the rules of a link, 18 and 19
pub mod RuleLaws
-- reading and writing, answer by answer
pub mod ReadingLaws
pub mod WritingLaws
-- the text by example
pub mod Samples
-- no second outcome fits the promise of any public call
pub mod Determined
