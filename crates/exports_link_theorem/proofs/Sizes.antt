-- The bytes of the two records stay as many as their arrays have, 252 and 250: in every run what a call is lent is an array that its
-- type takes. Read `sizes`.
use Prim.Native.Nat.{ℕ}
use mathlib.Core.List.{List, [], ◌∷◌}
use mathlib.Core.Logic.{inl}
use mathlib.Core.Path.{◌≡◌, ap, sym, ◌∙◌, subst⁻¹}
use native.Mathlib.Omega.{arith}
use lib.ListN.{length, drop, length-drop}
use Rattle.demand_3.proofs.Follows.{Follows}
use Rattle.demand_3.specs.Line.{Pair, State, Call, initiator_made, submits, silent, initiator_hears, initiator_restarts, responder_made, responder_hears, answers, responder_restarts, step, start, run, Lawful, Obeys}
use Rattle.exports_link.proofs.InitiatorLossless.{SmallOrder}
use Rattle.exports_link.proofs.ResponderLossless.{SizedRow}
use Rattle.exports_link.specs.InitiatorBytes.{initiator_of}
use Rattle.exports_link.specs.ResponderBytes.{responder_of}
use Rattle.exports_link_theorem.proofs.Theorem.{calls_follow}
use Rattle.exports_link_theorem.specs.ExportedLink.{Found, exported_link}
use Rattle.initiator.specs.declared.state.Initiator.{Initiator}
use Rattle.link_rules.specs.Rules.{Linked, Permitted, longest}
use Rattle.link_rules.specs.declared.link.Link.{Link}
use Rattle.link_theorem.proofs.InitiatorCalls as byValue
use Rattle.link_theorem.proofs.Views.{OfInitiator, of_initiator}
use Rattle.link_theorem.specs.OrderLink.{order_link}

-- so many bytes behind the head are so many in all
initiator_whole : (s : List ℕ) → length (drop 6 s) ≡ longest → length s ≡ 252
initiator_whole s e = let z = sym (length-drop 6 s) ∙ e in omega (arith, z)

responder_whole : (s : List ℕ) → length (drop 4 s) ≡ longest → length s ≡ 250
responder_whole s e = let z = sym (length-drop 4 s) ∙ e in omega (arith, z)

array_of : (link : Link) (i : Initiator) → OfInitiator link i → length i.order ≡ longest
array_of link i (of_initiator n p a l e) = e

module _ (found : Found) (link : Link) (linked : Linked link) where
  abbrev P : Pair
  P = exported_link found link

  abbrev F : Follows P (order_link link)
  F = calls_follow found link linked

  -- what every call keeps of the bytes of the two records
  record Kept (i r : List ℕ) : Type 0 where
    of_link : OfInitiator link (initiator_of i)
    small : SmallOrder (initiator_of i)
    sized : SizedRow (responder_of r)

  abbrev StateKept : State P → Type 0
  StateKept s = Kept s.initiator s.responder

  -- the record that a call leaves is the one of the call by value, which is of this link
  of_next : {i end : Initiator} → i ≡ end → OfInitiator link end → OfInitiator link i
  of_next e of = subst⁻¹ (OfInitiator link) e of

  made_of_link : (n : ℕ) → Permitted n → OfInitiator link (initiator_of (P.make_initiator n))
  made_of_link n p = of_next (F.made_initiator n p) (byValue.made_of_link link linked n p)

  step_kept : (s : State P) (c : Call P) → Lawful P s c → StateKept s → StateKept (step P s c)
  step_kept s (initiator_made n) p k = record { of_link = made_of_link n p; small = F.made_sound n p; sized = k.sized }
  step_kept s (submits lent q) l k =
      let i = s.initiator in
      let m = F.submits i lent q k.small in
      let of = (byValue.submit_same link linked (initiator_of i) lent.buffer q k.of_link).sound_next in
      record { of_link = of_next (ap (λ t. t.next) m.same) of; small = m.sound_next; sized = k.sized }
  step_kept s (silent lent) l k =
      let i = s.initiator in
      let m = F.silence i lent k.small in
      let of = (byValue.silence_same link linked (initiator_of i) lent.buffer k.of_link).sound_next in
      record { of_link = of_next (ap (λ t. t.next) m.same) of; small = m.sound_next; sized = k.sized }
  step_kept s (initiator_hears lent t) l k =
      let i = s.initiator in
      let m = F.initiator_hears i lent t k.small (inl tt) in
      let of = (byValue.hear_same link linked (initiator_of i) lent.buffer t k.of_link).sound_next in
      record { of_link = of_next (ap (λ t. t.next) m.same) of; small = m.sound_next; sized = k.sized }
  step_kept s initiator_restarts l k =
      let i = s.initiator in
      let m = F.initiator_restarts i k.small in
      let of = (byValue.restart_same link linked (initiator_of i) k.of_link).sound_next in
      record { of_link = of_next (ap (λ t. t.next) m.same) of; small = m.sound_next; sized = k.sized }
  step_kept s responder_made l k = record { of_link = k.of_link; small = k.small; sized = F.responder_sound }
  step_kept s (responder_hears lent t) l k =
      record { of_link = k.of_link; small = k.small; sized = (F.responder_hears s.responder lent t k.sized (inl tt)).sound_next }
  step_kept s (answers lent p) l k =
      record { of_link = k.of_link; small = k.small; sized = (F.answers s.responder lent p k.sized).sound_next }
  step_kept s responder_restarts l k =
      record { of_link = k.of_link; small = k.small; sized = (F.responder_restarts s.responder k.sized).1 }

  run_kept : (cs : List (Call P)) (s : State P) → Obeys P s cs → StateKept s → StateKept (run P s cs)
  run_kept [] s o k = k
  run_kept (c ∷ cs) s o k = run_kept cs (step P s c) o.1 (step_kept s c o.0 k)

  pub sizes :
      (n : ℕ) → Permitted n → (cs : List (Call P)) → Obeys P (start P n) cs
      → (length (run P (start P n) cs).initiator ≡ 252) × (length (run P (start P n) cs).responder ≡ 250)
  sizes n p cs o =
      let k = run_kept cs (start P n) o (record { of_link = made_of_link n p; small = F.made_sound n p; sized = F.responder_sound }) in
      let z = run P (start P n) cs in
      (initiator_whole z.initiator (array_of link (initiator_of z.initiator) k.of_link), responder_whole z.responder k.sized.array)
