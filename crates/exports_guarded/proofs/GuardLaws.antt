-- What the guards are for. Read `stale_to_the_initiator`, `stale_to_the_responder`; `answer_named`, `another_number`; `Counted` and `Stamps`,
-- which hold of every guarded call that they speak of. Else a guarded call is the plain one: `fresh_to_the_initiator`, `fresh_to_the_responder`,
-- `its_number_lem`.
use mathlib.Core.Bool.{Bool, true, false}
use mathlib.Core.Path.{◌≡◌, refl}
use mathlib.Core.List.{List, [], ◌∷◌}
use Prim.Native.Nat.{ℕ, ◌≤◌, ◌<◌}
use native.Mathlib.Omega.{arith}
use lib.Dec.{eqb, ltb}
use lib.ListN.{get_or}
use borrow.Author.Tests.{eq-eqb, eqb-true, le-leb, lt-leb, ltb-true, ltb-false, ne_eqb}
use Rattle.ground.proofs.PickLaws.{picked}
use Rattle.exports_link.specs.Calls.{Call}
use Rattle.exports_link.specs.InitiatorCalls.{koy_initiator_submit, koy_initiator_silence, koy_initiator_hear}
use Rattle.exports_link.specs.ResponderCalls.{koy_responder_hear, koy_responder_answer}
use Rattle.exports_guarded.specs.Calls.{GuardedCall, ignored}
use Rattle.guards.specs.Guards.{last_of, handed_of, is_stale, later_of, next_of, stamp_after}
use Rattle.exports_guarded.specs.InitiatorCalls.{stamped, koy_guarded_initiator_submit, koy_guarded_initiator_silence, koy_guarded_initiator_hear}
use Rattle.exports_guarded.specs.ResponderCalls.{numbered, koy_guarded_responder_hear, koy_guarded_responder_answer}

-- the responder's plain calls under the guarded ones
abbrev pub plain_hear : List ℕ → List ℕ → List ℕ → Call
plain_hear state heard buf = koy_responder_hear state heard buf (0 ∷ 0 ∷ [])

abbrev pub plain_answer : List ℕ → List ℕ → List ℕ → Call
plain_answer state reply buf = koy_responder_answer state reply buf (0 ∷ 0 ∷ [])

-- ---- what is stale

module _ (state guard : List ℕ) (received moment : ℕ) (heard buf told : List ℕ) (old : received ≤ last_of guard) where
  -- A stale hearing changes nothing but what is told.
  pub stale_to_the_initiator : koy_guarded_initiator_hear state guard received moment heard buf told ≡ ignored state guard buf
  stale_to_the_initiator = rw (le-leb _ _ old)

  pub stale_to_the_responder : koy_guarded_responder_hear state guard received moment heard buf told ≡ ignored state guard buf
  stale_to_the_responder = rw (le-leb _ _ old)

module _ (state guard : List ℕ) (received moment : ℕ) (heard buf told : List ℕ) (new : last_of guard < received) where
  -- Any other is the plain call, with its guard.
  pub fresh_to_the_initiator :
      koy_guarded_initiator_hear state guard received moment heard buf told ≡ stamped guard moment (koy_initiator_hear state heard buf told)
  fresh_to_the_initiator = rw (lt-leb _ _ new)

  pub fresh_to_the_responder :
      koy_guarded_responder_hear state guard received moment heard buf told ≡ numbered guard moment told (plain_hear state heard buf)
  fresh_to_the_responder = rw (lt-leb _ _ new)

-- ---- numbers

module _ (state guard : List ℕ) (number moment : ℕ) (reply buf told : List ℕ) where
  abbrev answering : GuardedCall
  answering = koy_guarded_responder_answer state guard number moment reply buf told

  -- An answer that is taken named the order that was handed up last.
  named_in : (t : Bool) → eqb number (handed_of guard) ≡ t → answering.code ≡ 102 → number ≡ handed_of guard
  named_in true e taken = eqb-true _ _ e
  named_in false e taken = omega (arith, rw e at taken)

  pub answer_named : answering.code ≡ 102 → number ≡ handed_of guard
  answer_named taken = named_in (eqb number (handed_of guard)) refl taken

  -- Any other is refused, and everything stays.
  pub another_number : (number ≡ handed_of guard → ⊥) → answering ≡ record { code = 21; told = told; state = state; guard = guard; buffer = buf }
  another_number other = rw (ne_eqb _ _ other)

  -- That of the order handed up last is the plain call, with its guard.
  pub its_number_lem : number ≡ handed_of guard → answering ≡ numbered guard moment told (plain_answer state reply buf)
  its_number_lem e = rw (eq-eqb _ _ e)

-- The count: an order handed up is the next, and its number is told; else the count stays.
pub record Counted (guard : List ℕ) (c : GuardedCall) : Type 0 where
  pub next : c.code ≡ 106 → handed_of c.guard ≡ next_of (handed_of guard)
  pub number_told_lem : c.code ≡ 106 → get_or c.told 2 0 ≡ handed_of c.guard
  pub else_stays : (c.code ≡ 106 → ⊥) → handed_of c.guard ≡ handed_of guard

numbered_counts : (guard : List ℕ) (moment : ℕ) (told : List ℕ) (c : Call) → Counted guard (numbered guard moment told c)
numbered_counts guard moment told c =
    record {
      next = λ e. rw e;
      number_told_lem = λ e. rw e;
      else_stays = λ other. rw (ne_eqb _ _ other);
    }

-- where nothing is handed up and the guard stays
stays_counted : (guard : List ℕ) (c : GuardedCall) → (c.code ≡ 106 → ⊥) → c.guard ≡ guard → Counted guard c
stays_counted guard c never same = record { next = λ e. absurd (never e); number_told_lem = λ e. absurd (never e); else_stays = λ other. rw same }

module _ (state guard : List ℕ) (received number moment : ℕ) (heard reply buf told : List ℕ) where
  pub hearing_counted : Counted guard (koy_guarded_responder_hear state guard received moment heard buf told)
  hearing_counted =
      picked (Counted guard) (is_stale guard received)
      (λ e. stays_counted guard _ (λ z. omega (arith, z)) refl)
      (λ e. numbered_counts guard moment told (plain_hear state heard buf))

  pub answering_counted : Counted guard (koy_guarded_responder_answer state guard number moment reply buf told)
  answering_counted =
      picked (Counted guard) (eqb number (handed_of guard))
      (λ e. numbered_counts guard moment told (plain_answer state reply buf))
      (λ e. stays_counted guard _ (λ z. omega (arith, z)) refl)

-- ---- stamps

-- A guard's stamp never goes back; where a telegram was written, nothing received up to this moment is heard any more.
pub record Stamps (guard : List ℕ) (moment : ℕ) (c : GuardedCall) : Type 0 where
  pub never_back : last_of guard ≤ last_of c.guard
  pub written : c.code ≡ 102 → moment ≤ last_of c.guard

later_last : (last moment : ℕ) → last ≤ later_of last moment
later_last last moment =
    picked (λ x. last ≤ x) (ltb last moment) (λ e. omega (arith, ltb-true last moment e)) (λ e. omega arith)

later_moment : (last moment : ℕ) → moment ≤ later_of last moment
later_moment last moment =
    picked (λ x. moment ≤ x) (ltb last moment) (λ e. omega arith) (λ e. omega (arith, ltb-false last moment e))

stamp_never_back : (code last moment : ℕ) → last ≤ stamp_after code last moment
stamp_never_back code last moment =
    picked (λ x. last ≤ x) (eqb code 102) (λ e. later_last last moment) (λ e. omega arith)

stamp_written : (code last moment : ℕ) → code ≡ 102 → moment ≤ stamp_after code last moment
stamp_written code last moment e = rw (eq-eqb _ _ e) (later_moment last moment)

stamped_stamps : (last : List ℕ) (moment : ℕ) (c : Call) → Stamps last moment (stamped last moment c)
stamped_stamps last moment c =
    record { never_back = stamp_never_back c.code (last_of last) moment; written = stamp_written c.code (last_of last) moment }

numbered_stamps : (guard : List ℕ) (moment : ℕ) (told : List ℕ) (c : Call) → Stamps guard moment (numbered guard moment told c)
numbered_stamps guard moment told c =
    record { never_back = stamp_never_back c.code (last_of guard) moment; written = stamp_written c.code (last_of guard) moment }

-- where nothing is written and the guard stays
stays_stamped : (guard : List ℕ) (moment : ℕ) (c : GuardedCall) → (c.code ≡ 102 → ⊥) → c.guard ≡ guard → Stamps guard moment c
stays_stamped guard moment c never same = record { never_back = rw same (omega arith); written = λ e. absurd (never e) }

module _ (state guard : List ℕ) (received number moment : ℕ) (order heard reply buf told : List ℕ) where
  pub submitting_stamps : Stamps guard moment (koy_guarded_initiator_submit state guard moment order buf told)
  submitting_stamps = stamped_stamps guard moment (koy_initiator_submit state order buf told)

  pub silence_stamps : Stamps guard moment (koy_guarded_initiator_silence state guard moment buf told)
  silence_stamps = stamped_stamps guard moment (koy_initiator_silence state buf told)

  pub initiator_hearing_stamps : Stamps guard moment (koy_guarded_initiator_hear state guard received moment heard buf told)
  initiator_hearing_stamps =
      picked (Stamps guard moment) (is_stale guard received)
      (λ e. stays_stamped guard moment _ (λ z. omega (arith, z)) refl)
      (λ e. stamped_stamps guard moment (koy_initiator_hear state heard buf told))

  pub responder_hearing_stamps : Stamps guard moment (koy_guarded_responder_hear state guard received moment heard buf told)
  responder_hearing_stamps =
      picked (Stamps guard moment) (is_stale guard received)
      (λ e. stays_stamped guard moment _ (λ z. omega (arith, z)) refl)
      (λ e. numbered_stamps guard moment told (plain_hear state heard buf))

  pub answering_stamps : Stamps guard moment (koy_guarded_responder_answer state guard number moment reply buf told)
  answering_stamps =
      picked (Stamps guard moment) (eqb number (handed_of guard))
      (λ e. numbered_stamps guard moment told (plain_answer state reply buf))
      (λ e. stays_stamped guard moment _ (λ z. omega (arith, z)) refl)
