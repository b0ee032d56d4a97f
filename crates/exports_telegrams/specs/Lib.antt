-- Read `koy_read` in `Read`, and `koy_write_data`, `koy_write_token`, `koy_write_confirmation` in `Write`: each is the promise of the call so named.
-- what reading tells
pub mod Read
-- what writing takes and tells
pub mod Write
-- what private functions promise each other
pub mod Leaves
