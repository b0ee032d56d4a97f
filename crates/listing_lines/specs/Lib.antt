-- a line: its figures, and its bytes
pub mod Lines
