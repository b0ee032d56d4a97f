-- Read `Rules`, which the promises of the calls cite, over the flags of `Flags`.
-- the four phases, and which of them may be trusted
pub mod Phases
-- the 128 flags, and what a search finds among them
pub mod Flags
-- document 01's rules, over the flags and over the whole list
pub mod Rules
-- the promise of a call that may refuse: its number, and the list
pub mod Promises
-- what the rules mean for the set of active addresses: `station_lists` says demand 2 by it, and proofs/ ties the rules to it
pub mod Meaning
-- the words of document 01's samples, which `acceptance` and `ring_demo` state: a row of passes, and what is told of the list after it
pub mod Passes
-- what private functions promise each other: nothing to believe
pub mod Leaves
