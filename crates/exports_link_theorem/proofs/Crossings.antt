-- A call by value, crossed to the bytes of a record and read by its driver, is that call: of either end, `crossed_same`; of the initiator
-- `initiator_crossed`, of the responder `responder_crossed`.
use Prim.Native.Nat.{ℕ, ◌<◌, ◌≤◌}
use mathlib.Core.Bool.{true, false}
use mathlib.Core.List.{List, ◌∷◌}
use mathlib.Core.Option.{none, some}
use mathlib.Core.Path.{◌≡◌, refl, sym, ap, ◌∙◌, subst⁻¹}
use native.Mathlib.Nat.{add-sub_cancel_left}
use native.Mathlib.Omega.{arith}
use lib.Dec.{eqb, ltb, lit≤}
use lib.ListN.{take, drop}
use borrow.Author.Tests.{ltb-true, ne_eqb}
use Rattle.demand_3.proofs.Follows.{Same}
use Rattle.demand_3.specs.Turns.{Told, refused, nothing, tells, Turn}
use Rattle.demand_3.specs.Turns as demand
use Rattle.exports_link.proofs.InitiatorLossless.{SmallOrder, initiator_again}
use Rattle.exports_link.proofs.ResponderLossless.{SizedRow, responder_again}
use Rattle.exports_link.specs.Calls.{Call, Crossing, is_refusal, crossed}
use Rattle.exports_link.specs.InitiatorBytes.{initiator_of}
use Rattle.exports_link.specs.InitiatorCalls.{initiator_crosses}
use Rattle.exports_link.specs.ResponderBytes.{responder_of}
use Rattle.exports_link.specs.ResponderCalls.{responder_crosses}
use Rattle.exports_link_theorem.proofs.Fair.{FairlySaid, Fair, OutcomeWithin}
use Rattle.exports_link_theorem.specs.ExportedLink.{done_of, outcome_of, order_of, turn_of}
use Rattle.ground.proofs.PartLaws.{shown_fits}
use Rattle.ground.proofs.PickLaws.{both_first, both_second}
use Rattle.ground.specs.Part.{shown_part}
use Rattle.ground.specs.declared.part.Part.{Part}
use Rattle.initiator.specs.Calls.{Outcome, confirmed, not_sent, unknown}
use Rattle.initiator.specs.declared.state.Initiator.{Initiator}
use Rattle.link_telegrams.proofs.HeardLaws.{Within}
use Rattle.link_telegrams.proofs.TurnLaws.{Keeps}
use Rattle.link_telegrams.specs.Turns as call
use Rattle.link_theorem.specs.OrderLink as byValue
use Rattle.link_theorem.specs.OrderLink.{outcome_shown, order_shown}
use Rattle.responder.specs.declared.state.Responder.{Responder}

-- ---- a refusal's number is none of the other codes

refusal_least : (n : ℕ) → is_refusal n ≡ true → 0 < n
refusal_least n e = ltb-true 0 n (both_first (ltb 0 n) (ltb n 100) e)

pub refusal_most : (n : ℕ) → is_refusal n ≡ true → n < 100
refusal_most n e = ltb-true n 100 (both_second (ltb 0 n) (ltb n 100) e)

module _ (n : ℕ) (e : is_refusal n ≡ true) where
  pub refusal_unsent : eqb n 102 ≡ false
  refusal_unsent = ne_eqb n 102 (λ z. omega (arith, refusal_most n e, z))

  pub refusal_unhanded : eqb n 106 ≡ false
  refusal_unhanded = ne_eqb n 106 (λ z. omega (arith, refusal_most n e, z))

  pub refusal_some : eqb n 0 ≡ false
  refusal_some = ne_eqb n 0 (λ z. omega (arith, refusal_least n e, z))

  refusal_read : {Tale : Type 0} → done_of {Tale = Tale} n ≡ refused
  refusal_read = rw (refusal_some, refusal_unsent)

-- ---- either end

-- an end that crosses: its record again of its bytes, and how its driver reads what it tells
pub record Reads {End Tale Shown : Type 0} (across : Crossing End Tale) (of : List ℕ → End) (Sound : End → Type 0) (Q : Tale → Type 0) (show : Tale → Shown) (reads : Call → Told Shown)
    : Type 0 where
  pub again : (end : End) → Sound end → of (across.bytes end) ≡ end
  pub unrefused : (tale : Tale) → is_refusal (across.code tale) ≡ false
  pub unsent : (tale : Tale) → eqb (across.code tale) 102 ≡ false
  pub tale :
      (tale : Tale) (state buf : List ℕ) → Q tale
      → reads (record { code = across.code tale; told = across.numbers tale; state = state; buffer = buf }) ≡ tells (show tale)
  pub done : (c : Call) → c.code ≤ 102 → reads c ≡ done_of c.code

module _ {End Tale Shown : Type 0} (across : Crossing End Tale) (of : List ℕ → End) (Sound : End → Type 0) (Q : Tale → Type 0) (show : Tale → Shown) (reads : Call → Told Shown)
    (R : Reads across of Sound Q show reads) (state told : List ℕ) (sound : Sound (of state)) where
  -- the exported call is, seen as the record of its bytes, the call by value
  abbrev CallSame : call.Turn End Tale → Type 0
  CallSame t =
      Same of (λ s. s) (λ s. Sound (of s)) (λ (s : List ℕ). Unit {0}) (turn_of reads (crossed across state told t)) (byValue.turn_of show t)

  -- a call that is not refused: its record's bytes, and these told numbers
  abbrev taken : ℕ → List ℕ → End → List ℕ → Call
  taken code numbers end buf = record { code = code; told = numbers; state = across.bytes end; buffer = buf }

  stored : (end : End) → Sound end → Sound (of (across.bytes end))
  stored end z = subst⁻¹ Sound (R.again end z) z

  same_said :
      (said : call.Said Tale) (end : End) (buf : List ℕ) → FairlySaid Q (of state) said end → Sound end
      → CallSame (record { said = said; end = end; buffer = buf })
  unfolding crossed
  same_said (call.sent n) end buf f z =
      let says = R.done (taken 102 (n ∷ across.zeros) end buf) (lit≤ tt) in
      record {
        same = λ i. record { next = R.again end z i; writes = some (take n buf); says = says i };
        sound_next = stored end z;
        sound_writes = tt;
      }
  same_said (call.tells tale) end buf f z =
      let says = R.tale tale (across.bytes end) buf f in
      rw (R.unrefused tale, R.unsent tale)
      (record {
        same = λ i. record { next = R.again end z i; writes = none; says = says i };
        sound_next = stored end z;
        sound_writes = tt;
      })
  same_said call.nothing end buf f z =
      let says = R.done (taken 0 (0 ∷ across.zeros) end buf) (lit≤ tt) in
      record {
        same = λ i. record { next = R.again end z i; writes = none; says = says i };
        sound_next = stored end z;
        sound_writes = tt;
      }
  same_said (call.refused n) end buf f z =
      let says = R.done (record { code = n; told = told; state = state; buffer = buf }) (omega (arith, refusal_most n f.0)) ∙ refusal_read n f.0 in
      rw (f.0, refusal_unsent n f.0, f.1)
      (record {
        same = λ i. record { next = of state; writes = none; says = says i };
        sound_next = sound;
        sound_writes = tt;
      })

  pub crossed_same : (t : call.Turn End Tale) → Fair Q (of state) t → Keeps Sound t → CallSame t
  crossed_same t f k = same_said t.said t.end t.buffer f.said k.after

-- ---- the initiator

-- a part that lies within the heard bytes is what its start and length name
part_read : (p : Part) (heard : List ℕ) → Within heard p → take p.len (drop p.start heard) ≡ shown_part p heard
part_read p heard w = sym (shown_fits p heard w ∙ rw (add-sub_cancel_left))

module _ (heard : List ℕ) where
  outcome_read :
      (o : Outcome) (state buf : List ℕ) → OutcomeWithin heard o
      → outcome_of heard (record { code = initiator_crosses.code o; told = initiator_crosses.numbers o; state = state; buffer = buf }) ≡ tells (outcome_shown heard o)
  outcome_read (confirmed reply k) state buf w = ap (λ (p : List ℕ). tells (demand.confirmed p k)) (part_read reply heard w)
  outcome_read (not_sent k) state buf w = refl
  outcome_read (unknown k) state buf w = refl

  outcome_done : (c : Call) → c.code ≤ 102 → outcome_of heard c ≡ done_of c.code
  outcome_done c h =
      rw (
        ne_eqb c.code 103 (λ z. omega (arith, h, z)),
        ne_eqb c.code 104 (λ z. omega (arith, h, z)),
        ne_eqb c.code 105 (λ z. omega (arith, h, z)),
      )

  outcome_unrefused : (o : Outcome) → is_refusal (initiator_crosses.code o) ≡ false
  outcome_unrefused (confirmed reply k) = refl
  outcome_unrefused (not_sent k) = refl
  outcome_unrefused (unknown k) = refl

  outcome_unsent : (o : Outcome) → eqb (initiator_crosses.code o) 102 ≡ false
  outcome_unsent (confirmed reply k) = refl
  outcome_unsent (not_sent k) = refl
  outcome_unsent (unknown k) = refl

  initiator_reads : Reads initiator_crosses initiator_of SmallOrder (OutcomeWithin heard) (outcome_shown heard) (outcome_of heard)
  initiator_reads =
      record {
        again = initiator_again;
        unrefused = outcome_unrefused;
        unsent = outcome_unsent;
        tale = outcome_read;
        done = outcome_done;
      }

  pub initiator_crossed :
      (state told : List ℕ) → SmallOrder (initiator_of state) → (t : call.Turn Initiator Outcome)
      → Fair (OutcomeWithin heard) (initiator_of state) t → Keeps SmallOrder t
      → Same initiator_of (λ s. s) (λ s. SmallOrder (initiator_of s)) (λ (s : List ℕ). Unit {0})
      (turn_of (outcome_of heard) (crossed initiator_crosses state told t)) (byValue.turn_of (outcome_shown heard) t)
  initiator_crossed state told z t f k =
      crossed_same initiator_crosses initiator_of SmallOrder (OutcomeWithin heard) (outcome_shown heard) (outcome_of heard) initiator_reads state told z t f k

  -- ---- the responder

  order_done : (c : Call) → c.code ≤ 102 → order_of heard c ≡ done_of c.code
  order_done c h = rw (ne_eqb c.code 106 (λ z. omega (arith, h, z)))

  responder_reads : Reads responder_crosses responder_of SizedRow (Within heard) (order_shown heard) (order_of heard)
  responder_reads =
      record {
        again = responder_again;
        unrefused = λ order. refl;
        unsent = λ order. refl;
        tale = λ order state buf w. ap (λ (p : List ℕ). tells p) (part_read order heard w);
        done = order_done;
      }

  pub responder_crossed :
      (state told : List ℕ) → SizedRow (responder_of state) → (t : call.Turn Responder Part)
      → Fair (Within heard) (responder_of state) t → Keeps SizedRow t
      → Same responder_of (λ s. s) (λ s. SizedRow (responder_of s)) (λ (s : List ℕ). Unit {0})
      (turn_of (order_of heard) (crossed responder_crosses state told t)) (byValue.turn_of (order_shown heard) t)
  responder_crossed state told z t f k =
      crossed_same responder_crosses responder_of SizedRow (Within heard) (order_shown heard) (order_of heard) responder_reads state told z t f k
