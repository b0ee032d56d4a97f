-- Read `FunctionCodes`; what stands before it names its parts.
-- the bytes that start and end a telegram, and its checksum
pub mod Delimiters
pub mod Checksums
-- the frame count bit, the request types, a response's state and status, with their numbers
pub mod FrameCountBits
pub mod RequestTypes
pub mod Responses
-- the function code's byte, read and written
pub mod FunctionCodes
