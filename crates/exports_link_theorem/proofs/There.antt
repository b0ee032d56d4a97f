-- What a driver is told the place of is there: the reply and the order lie within the heard bytes, whatever the bytes of the record are, so
-- that it reads nothing beyond them. Read `reply_is_there`, `order_is_there`.
use Prim.Native.Nat.{ℕ, ◌+◌, ◌≤◌}
use mathlib.Core.List.{List}
use mathlib.Core.Path.{◌≡◌}
use native.Mathlib.Omega.{arith}
use lib.ListN.{length}
use Rattle.exports_link.specs.Calls.{Call, crossed}
use Rattle.exports_link.specs.InitiatorBytes.{initiator_of}
use Rattle.exports_link.specs.InitiatorCalls.{initiator_crosses, koy_initiator_hear}
use Rattle.exports_link.specs.ResponderBytes.{responder_of}
use Rattle.exports_link.specs.ResponderCalls.{responder_crosses, koy_responder_hear}
use Rattle.exports_link_theorem.proofs.Crossings.{refusal_most}
use Rattle.exports_link_theorem.proofs.Fair.{FairlySaid, OutcomeWithin, initiator_hear_fair, responder_hear_fair}
use Rattle.exports_link_theorem.specs.ExportedLink.{number}
use Rattle.ground.specs.declared.part.Part.{Part}
use Rattle.initiator.specs.Calls as initiator
use Rattle.initiator.specs.Calls.{Outcome, confirmed, not_sent, unknown}
use Rattle.initiator.specs.declared.state.Initiator.{Initiator}
use Rattle.link_telegrams.proofs.HeardLaws.{Within}
use Rattle.link_telegrams.specs.Turns.{Said, sent, tells, nothing, refused}
use Rattle.responder.specs.Calls as responder
use Rattle.responder.specs.declared.state.Responder.{Responder}

-- told[1] bytes from heard[told[0]] on are there
abbrev pub IsThere : List ℕ → Call → Type 0
IsThere heard c = number c.told 0 + number c.told 1 ≤ length heard

module _ (state heard buf told : List ℕ) where
  reply_said :
      (said : Said Outcome) (end : Initiator) (after : List ℕ) → FairlySaid (OutcomeWithin heard) (initiator_of state) said end
      → (crossed initiator_crosses state told (record { said = said; end = end; buffer = after })).code ≡ 103
      → IsThere heard (crossed initiator_crosses state told (record { said = said; end = end; buffer = after }))
  unfolding crossed
  reply_said (sent n) end after f e = absurd (omega (arith, e))
  reply_said (tells (confirmed reply k)) end after f e = f
  reply_said (tells (not_sent k)) end after f e = absurd (omega (arith, e))
  reply_said (tells (unknown k)) end after f e = absurd (omega (arith, e))
  reply_said nothing end after f e = absurd (omega (arith, e))
  reply_said (refused n) end after f e = absurd (omega (arith, refusal_most n f.0, e))

  -- KOY_CONFIRMED
  pub reply_is_there : (koy_initiator_hear state heard buf told).code ≡ 103 → IsThere heard (koy_initiator_hear state heard buf told)
  reply_is_there e =
      let turn = initiator.hear_of (initiator_of state) heard buf in
      reply_said turn.said turn.end turn.buffer (initiator_hear_fair heard (initiator_of state) buf).said e

  order_said :
      (said : Said Part) (end : Responder) (after : List ℕ) → FairlySaid (Within heard) (responder_of state) said end
      → (crossed responder_crosses state told (record { said = said; end = end; buffer = after })).code ≡ 106
      → IsThere heard (crossed responder_crosses state told (record { said = said; end = end; buffer = after }))
  unfolding crossed
  order_said (sent n) end after f e = absurd (omega (arith, e))
  order_said (tells order) end after f e = f
  order_said nothing end after f e = absurd (omega (arith, e))
  order_said (refused n) end after f e = absurd (omega (arith, refusal_most n f.0, e))

  -- KOY_HANDED_UP
  pub order_is_there : (koy_responder_hear state heard buf told).code ≡ 106 → IsThere heard (koy_responder_hear state heard buf told)
  order_is_there e =
      let turn = responder.hear_of (responder_of state) heard buf in
      order_said turn.said turn.end turn.buffer (responder_hear_fair heard (responder_of state) buf).said e
