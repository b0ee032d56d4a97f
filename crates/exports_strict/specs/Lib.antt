-- Read `koy_read_strict`: it is the promise of the call so named.
pub mod Calls
