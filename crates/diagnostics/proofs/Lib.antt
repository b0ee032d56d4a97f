-- Read `Theorems`, which joins the walk with the rows of blocks and the faults, and `StandardRows`, which holds document 01's rows against the
-- standard's; `Steps`, `Bodies` and `Searches`, which tie the rules to specs/Meaning.antt; `Samples` and `Determined`. The rest serves them and
-- the functions' proofs.
-- the walk gives a row, or a row and a fault, exactly where the bytes are that
pub mod Theorems
-- the points in which document 01's rows are wider than the standard's
pub mod StandardRows
-- what a step can be, and where it leaves the cursor
pub mod Steps
-- where the body of a block lies
pub mod Bodies
-- the first module set, and all of them, one after the other
pub mod Searches
-- what is answered to bad input of each kind; what document 01 takes and the standard does not
pub mod Samples
-- no second outcome fits the promise of any public call
pub mod Determined
-- what the promises say of an answer determines it
pub mod Shows
-- a row, and a row and a fault, are walked so
pub mod RowWalked
-- what a walk gives, the bytes say
pub mod WalkSays
-- the walk by its first step, and that it has steps enough
pub mod Walks
-- a step at a header, by its kind
pub mod Headers
