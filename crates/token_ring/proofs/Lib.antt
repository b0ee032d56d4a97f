-- Read `Sets`, `Neighbours`, `ByIndex` and `Sound`, which tie the rules to specs/Meaning.antt, and `Determined`; the rest serves the functions' proofs.
-- what the searches find, said of the set of active addresses
pub mod Sets
-- next, previous and a pass that holds, said of the set
pub mod Neighbours
-- the flag at an address after each change
pub mod ByIndex
-- what every list has that the calls make
pub mod Sound
-- no second outcome fits the promise of any public call
pub mod Determined
-- laws of the flags, and of one turn of each loop over them
pub mod FlagLaws
-- the rules, test by test
pub mod RuleLaws
-- the nearest active address is the next or the previous station
pub mod NearestLaws
