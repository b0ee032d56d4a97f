-- no second outcome fits the promise of any public call
pub mod Determined
-- laws of the answer and of the buffer that is left: one for each refusal, and one for what is written
pub mod SerializedLaws
-- how long a telegram's parts are
pub mod LengthLaws
-- laws of what a leaf leaves in the buffer
pub mod LeafLaws
