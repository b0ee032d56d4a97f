-- Read `koy_settings_read` and `koy_settings_write`: each is the promise of the call so named.
pub mod Calls
