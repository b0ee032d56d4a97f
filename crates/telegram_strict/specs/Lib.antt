-- Read `Strict`: what strict mode answers; then `Sloppy`: the same of its two refusals, without an order of tests.
-- the answer to every byte string
pub mod Strict
-- which starts strict mode refuses, and with which number
pub mod Sloppy
