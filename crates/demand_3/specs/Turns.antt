-- What one call of an end gives: the record that comes back, the telegram that it wrote, and its answer.
use Rattle.std.specs.Prelude.{ℕ, List}
use Rattle.std.proofs.Math.Option.{Option, none}

-- bytes of orders and replies, which nothing here looks into
abbrev pub Bytes : Type 0
Bytes = List ℕ

-- how an order ends for the application of the head end; each outcome reports the tries of its last phase
pub data Outcome : Type 0 where
  -- with the reply that is shown
  confirmed : Bytes → ℕ → Outcome
  not_sent : ℕ → Outcome
  unknown : ℕ → Outcome

-- the answer of a call: refused; done, with nothing to tell; or done, with something to tell.
-- An initiator tells an outcome; a responder tells an order, which is to hand it up.
pub data Told (A : Type 0) : Type 0 where
  refused : Told A
  nothing : Told A
  tells : A → Told A

-- one call: the record that comes back, what was written, and the answer
pub record Turn (End Telegram Tale : Type 0) : Type 0 where
  pub next : End
  pub writes : Option Telegram
  pub says : Told Tale

module _ {End Telegram Tale : Type 0} where
  -- a refused call: the record stays, nothing is written
  abbrev pub refusing : End → Turn End Telegram Tale
  refusing e = record { next = e; writes = none; says = refused }

  -- a call that does nothing: the record stays, nothing is written, nothing is told
  abbrev pub ignoring : End → Turn End Telegram Tale
  ignoring e = record { next = e; writes = none; says = nothing }
