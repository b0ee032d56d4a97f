-- Laws of the rules: the tests one after the other, and what holds where they refuse nothing. Read `addresses_linked`,
-- `linked_addresses`, `tries_permitted`, `permitted_tries`, `length_small`.
use Prim.Native.Nat.{ℕ, ◌≤◌, ◌<◌}
use mathlib.Core.Bool.{Bool, true, false, true≢false}
use mathlib.Core.Path.{◌≡◌, refl, sym}
use lib.Dec.{eqb, ltb}
use borrow.Author.Tests.{ltb-false, eqb-false, lt-ltb, le-ltb, eq-eqb, ne_eqb}
use Rattle.ground.specs.Pick.{if}
use Rattle.link_rules.specs.Rules.{longest, most_tries, wrong_addresses, wrong_tries, wrong_length, Linked, Permitted, turned}
use Rattle.link_rules.specs.declared.link.Link.{Link}

-- ---- the tests, one after the other

module _ (link : Link) where
  pub own_above : 125 < link.own.0 → wrong_addresses link ≡ true
  unfolding wrong_addresses
  own_above h = rw (lt-ltb _ _ h)

  pub peer_above : link.own.0 ≤ 125 → 125 < link.peer.0 → wrong_addresses link ≡ true
  unfolding wrong_addresses
  peer_above h k = rw (le-ltb _ _ h, lt-ltb _ _ k)

  pub both_stations : link.own.0 ≤ 125 → link.peer.0 ≤ 125 → wrong_addresses link ≡ eqb link.own.0 link.peer.0
  unfolding wrong_addresses
  both_stations h k = rw (le-ltb _ _ h, le-ltb _ _ k)

module _ (tries : ℕ) where
  pub no_try : tries < 1 → wrong_tries tries ≡ true
  unfolding wrong_tries
  no_try h = rw (lt-ltb tries 1 h)

  pub some_tries : 1 ≤ tries → wrong_tries tries ≡ ltb most_tries tries
  unfolding wrong_tries
  some_tries h = rw (le-ltb tries 1 h)

module _ (n : ℕ) where
  pub no_bytes : n ≡ 0 → wrong_length n ≡ true
  unfolding wrong_length
  no_bytes e = rw (eq-eqb n 0 e)

  pub some_bytes : (n ≡ 0 → ⊥) → wrong_length n ≡ ltb longest n
  unfolding wrong_length
  some_bytes d = rw (ne_eqb n 0 d)

-- ---- the tests refuse nothing just where the facts hold

pub addresses_linked : (link : Link) → wrong_addresses link ≡ false → Linked link
unfolding wrong_addresses
addresses_linked link e = go (ltb 125 link.own.0) refl (ltb 125 link.peer.0) refl (eqb link.own.0 link.peer.0) refl e
  where
    go :
        (a : Bool) → ltb 125 link.own.0 ≡ a → (b : Bool) → ltb 125 link.peer.0 ≡ b
        → (c : Bool) → eqb link.own.0 link.peer.0 ≡ c → if a true (if b true c) ≡ false
        → Linked link
    go true p b q c s e = absurd (true≢false e)
    go false p true q c s e = absurd (true≢false e)
    go false p false q true s e = absurd (true≢false e)
    go false p false q false s e =
        record { own_small = ltb-false _ _ p; peer_small = ltb-false _ _ q; differ = eqb-false _ _ s }

pub linked_addresses : (link : Link) → Linked link → wrong_addresses link ≡ false
unfolding wrong_addresses
linked_addresses link k = rw (le-ltb _ _ k.own_small, le-ltb _ _ k.peer_small, ne_eqb _ _ k.differ)

-- the other end of a link that may be is one that may be
pub linked_turned : (link : Link) → Linked link → Linked (turned link)
linked_turned link k = record { own_small = k.peer_small; peer_small = k.own_small; differ = λ e. k.differ (sym e) }

pub tries_permitted : (tries : ℕ) → wrong_tries tries ≡ false → Permitted tries
unfolding wrong_tries
tries_permitted tries e = go (ltb tries 1) refl (ltb most_tries tries) refl e
  where
    go : (a : Bool) → ltb tries 1 ≡ a → (b : Bool) → ltb most_tries tries ≡ b → if a true b ≡ false → Permitted tries
    go true p b q e = absurd (true≢false e)
    go false p true q e = absurd (true≢false e)
    go false p false q e = record { from_one = ltb-false tries 1 p; to_most = ltb-false most_tries tries q }

pub permitted_tries : (tries : ℕ) → Permitted tries → wrong_tries tries ≡ false
unfolding wrong_tries
permitted_tries tries k = rw (le-ltb tries 1 k.from_one, le-ltb most_tries tries k.to_most)

-- ---- an order that is one fits its array

pub length_small : (n : ℕ) → wrong_length n ≡ false → n ≤ longest
unfolding wrong_length
length_small n e = go (eqb n 0) e
  where
    go : (t : Bool) → if t true (ltb longest n) ≡ false → n ≤ longest
    go true h = absurd (true≢false h)
    go false h = ltb-false longest n h
