-- Read `WrittenLaws` and `TurnLaws`; the rest serves them or the code.
-- what an end writes, its peer hears, and the end itself does not
pub mod WrittenLaws
-- calls of either end: the room, a telegram written, what is said
pub mod TurnLaws
-- an order that is heard lies within the heard bytes
pub mod HeardLaws
-- what heard bytes are, case by case: on their frame, and by the code's byte
pub mod PlainLaws
pub mod HeardCases
-- the link's bit as a frame count bit
pub mod BitLaws
-- no second outcome fits the promise of any public call
pub mod Determined
