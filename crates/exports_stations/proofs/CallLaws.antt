-- Laws that carry a call by value across to a call on lent bytes.
use mathlib.Core.Path.{◌≡◌, ap, ◌∙◌}
use mathlib.Core.List.{List}
use Prim.Native.Nat.{ℕ, suc}
use Rattle.std.proofs.Common.{◌≢◌, ◌<◌, arith, lt-ltb, Err, Ok, Result}
use Rattle.ground.proofs.Injective.{zero_one}
use Rattle.ground.proofs.RefusalLaws.{shown_injective}
use Rattle.ground.specs.Refusals.{number_of, shown}
use Rattle.ground.specs.declared.refusal.Refusal.{Refusal}
use Rattle.ground.specs.declared.returned.Returned.{Returned}
use Rattle.token_ring.specs.Flags.{active, lowest_from, highest_below}
use Rattle.token_ring.specs.Promises.{Gives}
use Rattle.token_ring.specs.declared.ring.TokenRing.{TokenRing}
use Rattle.exports_stations.specs.Bytes.{stations_bytes}
use Rattle.exports_stations.specs.Calls.{Call, crossed, found_number}

-- A call that was refused leaves the bytes: no refusal has the number of what was done.
numbered : (r : Refusal) → number_of r ≢ 0
numbered r e = zero_one (let alike = shown_injective (Err r) (Ok tt) e in cc)

pub refused : (s : List ℕ) (r : Refusal) (after : TokenRing) → record { code = number_of r; state = s } ≡ crossed s (number_of r) after
unfolding crossed
refused s r after = let above : 0 < number_of r = omega (arith, numbered r) in rw (lt-ltb 0 (number_of r) above)

-- A call that may refuse gives what its promise says.
pub given : (s : List ℕ) {c : Call} (ch : Returned (Result Unit Refusal) TokenRing) (n : ℕ) (r : TokenRing) → c ≡ crossed s (shown ch.answer) ch.after → Gives n r ch
    → c ≡ crossed s n r
given s ch n r e g = e ∙ (ap (λ k. crossed s k ch.after) g.answer ∙ ap (λ x. crossed s n x) g.ring)

-- The same, on the list that the bytes are.
pub given_on : (s : List ℕ) {c : Call} (ch : Returned (Result Unit Refusal) TokenRing) (n : ℕ) (f : TokenRing → TokenRing) {i j : TokenRing}
    → c ≡ crossed s (shown ch.answer) ch.after → Gives n (f i) ch → i ≡ j
    → c ≡ crossed s n (f j)
given_on s ch n f e g h = given s ch n (f _) e g ∙ ap (λ x. crossed s n (f x)) h

-- A call that never refuses.
pub changes_on : {b : List ℕ} {w : TokenRing} (f : TokenRing → TokenRing) {i j : TokenRing} → b ≡ stations_bytes w → w ≡ f i → i ≡ j
    → b ≡ stations_bytes (f j)
changes_on f e g h = e ∙ ap (λ (x : TokenRing). stations_bytes x) (g ∙ ap f h)

-- Questions, on the list that the bytes are.
module _ (a : ℕ) {i j : TokenRing} (h : i ≡ j) where
  pub active_as : active i.active_stations a ≡ active j.active_stations a
  active_as = ap (λ (x : TokenRing). active x.active_stations a) h

  pub first_as : found_number (lowest_from a i.active_stations) ≡ found_number (lowest_from a j.active_stations)
  first_as = ap (λ (x : TokenRing). found_number (lowest_from a x.active_stations)) h

  pub last_as : found_number (highest_below (suc a) i.active_stations) ≡ found_number (highest_below (suc a) j.active_stations)
  last_as = ap (λ (x : TokenRing). found_number (highest_below (suc a) x.active_stations)) h
