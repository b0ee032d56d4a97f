-- Document 01, "Refusal numbers" and "The order link": what a link asks of its addresses, its tries, an order's length and a lent
-- buffer. Read `wrong_addresses`, `wrong_tries`, `wrong_length` and the numbers above them.
use Rattle.std.specs.Prelude.{ℕ, ◌≤◌, Bool, true, ◌≡◌, eqb, ltb}
use Rattle.ground.specs.Pick.{if}
use Rattle.ground.specs.declared.address.Address.{Address}
use Rattle.link_rules.specs.declared.link.Link.{Link}

-- "link calls that may write want 255 bytes"
abbrev pub room : ℕ
room = 255

-- an order has "1 to 246 bytes", a reply "0 to 246 bytes"
abbrev pub longest : ℕ
longest = 246

-- "tries outside 1 to 8"
abbrev pub most_tries : ℕ
most_tries = 8

-- document 02, 2026-04: "A link made without a stated number takes 4"
abbrev pub default_tries : ℕ
default_tries = 4

-- 18: "link addresses above 125 or equal"
unfoldable pub wrong_addresses : Link → Bool
wrong_addresses link =
    if (ltb 125 link.own.0) true (if (ltb 125 link.peer.0) true (eqb link.own.0 link.peer.0))

-- 19: "tries outside 1 to 8"
unfoldable pub wrong_tries : ℕ → Bool
wrong_tries tries = if (ltb tries 1) true (ltb most_tries tries)

-- 16: "order empty or above 246"
unfoldable pub wrong_length : ℕ → Bool
wrong_length n = if (eqb n 0) true (ltb longest n)

-- The same said as facts: the addresses that a link may have, and its tries.
pub record Linked (link : Link) : Type 0 where
  pub own_small : link.own.0 ≤ 125
  pub peer_small : link.peer.0 ≤ 125
  pub differ : link.own.0 ≡ link.peer.0 → ⊥

pub record Permitted (tries : ℕ) : Type 0 where
  pub from_one : 1 ≤ tries
  pub to_most : tries ≤ most_tries

-- an address that no station has
abbrev pub no_station : Address
no_station = record { 0 = 255 }

-- what stands beside a refusal to make an end: a link of no stations, so that it writes nothing and hears nothing
abbrev pub no_link : Link
no_link = record { own = no_station; peer = no_station }

-- the link of two addresses
abbrev pub link_of : ℕ → ℕ → Link
link_of own peer = record { own = record { 0 = own }; peer = record { 0 = peer } }

-- the same link as its other end has it
abbrev pub turned : Link → Link
turned link = record { own = link.peer; peer = link.own }
