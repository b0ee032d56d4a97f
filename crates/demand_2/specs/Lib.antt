-- Read `Demand2`, then what each of the four is held to; the station list's stands in `station_lists`.
pub mod Demand2
-- of any reader
pub mod Readers
-- of any strict reader (request 2026-05), which is none of the four
pub mod StrictReaders
-- of any writer
pub mod Writers
-- of any walk over a diagnostics buffer
pub mod Walks
