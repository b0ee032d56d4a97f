-- What the order link's telegrams are, and the words that both of its ends speak.
-- the headers of the four telegrams
pub mod Headers
-- what heard bytes are to an end
pub mod Heard
-- a call of an end: what it says, the end that it leaves and the lent buffer
pub mod Turns
-- what private functions promise each other
pub mod Leaves
