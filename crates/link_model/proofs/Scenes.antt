-- Scenes on two ends on messages: what the callers do and what the line loses, from which the calls and their law
-- follow by computation. With a scene a clause of demand 3 is refuted for wrong ends in a line or two.
use Prim.Native.Nat.{ℕ, suc}
use native.Mathlib.Omega.{arith}
use lib.Dec.{T, leb, leb→le}
use lib.ListN.{length}
use mathlib.Core.Bool.{Bool, true, false}
use mathlib.Core.List.{List, [], ◌∷◌, ◌++◌}
use mathlib.Core.Option.{Option, none, some}
use mathlib.Core.Path.{◌≡◌, refl, subst⁻¹}
use Rattle.demand_3.specs.Turns.{Bytes, Told, refused, nothing, tells}
use Rattle.demand_3.specs.History.{nothingSent, openingSent, orderSent}
use Rattle.demand_3.specs.Line.{Pair, State, Call, initiator_made, submits, silent, initiator_hears, initiator_restarts, responder_made, responder_hears, answers, responder_restarts, sent_of, step, start, run, Heard, in_flight, Obeys}
use Rattle.link_rules.specs.Rules.{Permitted}
use Rattle.demand_3.specs.Safe.{Safe, entries_of}
use Rattle.demand_3.specs.Live.{report_at, any_pending, Accepted, Wide, Prompt, Silent, theTry, answers_at_once, reaches_responder, passes, Between, over, silent_short, submits_beside, initiator_misses, responder_attends, responder_serves, Tried, passed, again, Phase, Phases, opens_first, order_at_once, says_nothing}
use Rattle.demand_3.specs.Demand.{Demand}
use Rattle.link_model.specs.Ours.{AnyInitiator, AnyResponder, linked}
use Rattle.link_model.proofs.Kept.{IsConfirmed}
use Rattle.link_model.proofs.Wrong.Tools.{not_confirmed}

pub data Doing : Type 0 where
  -- the head end's application submits an order; silence is reported; the head end restarts, or is made anew with so
  -- many tries
  order : Bytes → Doing
  silence : Doing
  head_restarts : Doing
  head_made : (n : ℕ) → Permitted n → Doing
  -- the cabinet's application answers; the cabinet restarts, or is made anew
  answer : Bytes → Doing
  cabinet_restarts : Doing
  cabinet_made : Doing
  -- what is in flight reaches the cabinet, or the head end
  to_cabinet : Doing
  to_head : Doing
  -- the same, and silence, in a call without room
  short_silence : Doing
  short_cabinet : Doing
  short_head : Doing

-- a try that is lost, before silence is reported: nothing else happens; silence is refused first for want of room; the
-- head end hears its own telegram; its application submits another order; or the try reaches the cabinet, where an
-- order handed up is answered so, and what is written in answer is lost
pub data Lost : Type 0 where
  whole andRefused andEchoed : Lost
  andOrdered andReached : Bytes → Lost

module _ {M : Type 0} (first : M → Bool) (h : AnyInitiator M) (c : AnyResponder M) where
  abbrev pub P : Pair
  P = linked first h c

  abbrev heard_by : (M → Call P) → Option M → List (Call P)
  heard_by f none = []
  heard_by f (some m) = f m ∷ []

  -- the call that is done; none where nothing is in flight to be heard
  abbrev call_of : State P → Doing → List (Call P)
  call_of s (order q) = submits true q ∷ []
  call_of s silence = silent true ∷ []
  call_of s head_restarts = initiator_restarts ∷ []
  call_of s (head_made n p) = initiator_made n ∷ []
  call_of s (answer p) = answers true p ∷ []
  call_of s cabinet_restarts = responder_restarts ∷ []
  call_of s cabinet_made = responder_made ∷ []
  call_of s to_cabinet = heard_by (responder_hears true) s.line
  call_of s to_head = heard_by (initiator_hears true) s.line
  call_of s short_silence = silent false ∷ []
  call_of s short_cabinet = heard_by (responder_hears false) s.line
  call_of s short_head = heard_by (initiator_hears false) s.line

  abbrev scene : State P → List Doing → List (Call P)
  scene s [] = []
  scene s (d ∷ ds) = call_of s d ++ scene (run P s (call_of s d)) ds

  -- where a scene ends
  abbrev pub ends : ℕ → List Doing → State P
  ends n ds = run P (start P n) (scene (start P n) ds)

  to_responder_lem :
      (room : Bool) (s : State P) (ds : List Doing) (l : Option M) → s.line ≡ l → ((x : State P) → Obeys P x (scene x ds))
      → Obeys P s (heard_by (responder_hears room) l ++ scene (run P s (heard_by (responder_hears room) l)) ds)
  to_responder_lem room s ds none e f = f s
  to_responder_lem room s ds (some m) e f = (
    subst⁻¹ (λ l. Heard (P.StrayToResponder s.responder) l m) e in_flight,
    f (step P s (responder_hears room m)),
  )

  to_initiator_lem :
      (room : Bool) (s : State P) (ds : List Doing) (l : Option M) → s.line ≡ l → ((x : State P) → Obeys P x (scene x ds))
      → Obeys P s (heard_by (initiator_hears room) l ++ scene (run P s (heard_by (initiator_hears room) l)) ds)
  to_initiator_lem room s ds none e f = f s
  to_initiator_lem room s ds (some m) e f = (
    subst⁻¹ (λ l. Heard (P.StrayToInitiator s.initiator) l m) e in_flight,
    f (step P s (initiator_hears room m)),
  )

  scene_obeys : (s : State P) (ds : List Doing) → Obeys P s (scene s ds)
  scene_obeys s [] = tt
  scene_obeys s (order q ∷ ds) = (tt, scene_obeys (step P s (submits true q)) ds)
  scene_obeys s (silence ∷ ds) = (tt, scene_obeys (step P s (silent true)) ds)
  scene_obeys s (head_restarts ∷ ds) = (tt, scene_obeys (step P s initiator_restarts) ds)
  scene_obeys s (head_made n p ∷ ds) = (p, scene_obeys (step P s (initiator_made n)) ds)
  scene_obeys s (answer p ∷ ds) = (tt, scene_obeys (step P s (answers true p)) ds)
  scene_obeys s (cabinet_restarts ∷ ds) = (tt, scene_obeys (step P s responder_restarts) ds)
  scene_obeys s (cabinet_made ∷ ds) = (tt, scene_obeys (step P s responder_made) ds)
  scene_obeys s (to_cabinet ∷ ds) = to_responder_lem true s ds s.line refl (λ x. scene_obeys x ds)
  scene_obeys s (to_head ∷ ds) = to_initiator_lem true s ds s.line refl (λ x. scene_obeys x ds)
  scene_obeys s (short_silence ∷ ds) = (tt, scene_obeys (step P s (silent false)) ds)
  scene_obeys s (short_cabinet ∷ ds) = to_responder_lem false s ds s.line refl (λ x. scene_obeys x ds)
  scene_obeys s (short_head ∷ ds) = to_initiator_lem false s ds s.line refl (λ x. scene_obeys x ds)

  -- a scene after which a clause of the first sentence fails
  pub unsafe : (n : ℕ) → Permitted n → (ds : List Doing) → (Safe (ends n ds).past → ⊥) → Demand P → ⊥
  unsafe n p ds bad d = bad (d.safe n p (scene (start P n) ds) (scene_obeys (start P n) ds))

  -- a scene after which an order is not taken, though none is pending
  pub untaken :
      (n : ℕ) → Permitted n → (ds : List Doing) (q : Bytes) → any_pending (entries_of (ends n ds).past) ≡ false
      → (Accepted (h.submit (ends n ds).initiator true q).says → ⊥) → Demand P → ⊥
  untaken n p ds q e bad d = bad (d.takes n p (scene (start P n) ds) (scene_obeys (start P n) ds) true q refl refl e)

  abbrev wide : Wide P
  wide = record { room = true; is_enough = refl }

  abbrev at_once : Bytes → Prompt P
  at_once a = record { bytes = a; is_answerable = refl; into = wide }

  abbrev echoed : Option M → State P → State P
  echoed none s = s
  echoed (some m) s = step P s (initiator_hears true m)

  -- what happens before silence is reported
  abbrev lost_by : Lost → State P → State P
  lost_by whole s = s
  lost_by andRefused s = step P s (silent false)
  lost_by andEchoed s = echoed s.line s
  lost_by (andOrdered q) s = step P s (submits true q)
  lost_by (andReached a) s = reaches_responder P wide (at_once a) s.line s

  reached_between :
      (a : Bytes) (s : State P) (l : Option M) → s.line ≡ l → Between P theTry s (reaches_responder P wide (at_once a) l s)
  reached_between a s none e = over
  reached_between a s (some m) e = go (P.responder_hear s.responder true m).says refl
    where
      heard : Heard (P.StrayToResponder s.responder) s.line m
      heard = subst⁻¹ (λ l. Heard (P.StrayToResponder s.responder) l m) e in_flight

      go :
          (x : Told Bytes) → (P.responder_hear s.responder true m).says ≡ x
          → Between P theTry s (answers_at_once P (at_once a) x (step P s (responder_hears true m)))
      go refused y = responder_attends true m heard (subst⁻¹ Silent y tt) over
      go nothing y = responder_attends true m heard (subst⁻¹ Silent y tt) over
      go (tells q) y = responder_serves true m heard q y (at_once a) over

  lost_between : (l : Lost) (s : State P) → Between P theTry s (lost_by l s)
  lost_between whole s = over
  lost_between andRefused s = silent_short false refl over
  lost_between andEchoed s = go s.line refl
    where
      go : (l : Option M) → s.line ≡ l → Between P theTry s (echoed l s)
      go none e = over
      go (some m) e =
          initiator_misses true m (subst⁻¹ (λ l. Heard (P.StrayToInitiator s.initiator) l m) e in_flight) tt over
  lost_between (andOrdered q) s = submits_beside true q over
  lost_between (andReached a) s = reached_between a s s.line refl

  -- these tries are lost, and the next one passes; an order handed up then is answered so
  abbrev pub after : List Lost → Bytes → State P → State P
  after [] a s = passes P wide (at_once a) wide s
  after (l ∷ ls) a s = after ls a (step P (lost_by l s) (silent true))

  after_tried : (ls : List Lost) (a : Bytes) (s : State P) → Tried P (suc (length ls)) s (after ls a s)
  after_tried [] a s = passed wide (at_once a) wide
  after_tried (l ∷ ls) a s = again (lost_between l s) wide (after_tried ls a (step P (lost_by l s) (silent true)))

  phase : (ls : List Lost) (a : Bytes) (s : State P) → T (leb (suc (length ls)) s.tries) → Phase P s (after ls a s)
  phase ls a s y =
      record {
        k = suc (length ls);
        from_one = omega arith;
        to_tries = leb→le (suc (length ls)) s.tries y;
        tried = after_tried ls a s;
      }

  -- the number of orders submitted in a scene
  abbrev pub order_no : ℕ → List Doing → ℕ
  order_no n ds = length (entries_of (ends n ds).past)

  -- the state after a scene and one more order
  abbrev pub ordered : ℕ → List Doing → Bytes → State P
  ordered n ds q = step P (ends n ds) (submits true q)

  -- An order is submitted after a scene, and an opening is written: the tries i of the opening and j of the order are
  -- lost, the next ones pass, the cabinet answers at once; and yet the order is not confirmed.
  pub unopened :
      (n : ℕ) → Permitted n → (ds : List Doing) (q a : Bytes) (i j : List Lost)
      → Accepted (P.submit (ends n ds).initiator true q).says → (ordered n ds q).unbroken ≡ true
      → sent_of P (P.submit (ends n ds).initiator true q).writes ≡ openingSent → T (leb (suc (length i)) (ordered n ds q).tries)
      → T (leb (suc (length j)) (after i a (ordered n ds q)).tries)
      → (IsConfirmed (report_at (order_no n ds) (entries_of (after j a (after i a (ordered n ds q))).past)) → ⊥) → Demand P → ⊥
  unopened n p ds q a i j y u w k l bad d =
      not_confirmed (order_no n ds) (after j a (after i a (ordered n ds q))).past bad
      (d.live n p (scene (start P n) ds) (scene_obeys (start P n) ds) true q (after j a (after i a (ordered n ds q))) y u
      (subst⁻¹ (λ x. Phases P x (ordered n ds q) (after j a (after i a (ordered n ds q)))) w
      (opens_first (phase i a (ordered n ds q) k) (phase j a (after i a (ordered n ds q)) l))))

  -- the same where the order is written at once, and where nothing is written
  pub unanswered :
      (n : ℕ) → Permitted n → (ds : List Doing) (q a : Bytes) (j : List Lost)
      → Accepted (P.submit (ends n ds).initiator true q).says → (ordered n ds q).unbroken ≡ true
      → sent_of P (P.submit (ends n ds).initiator true q).writes ≡ orderSent → T (leb (suc (length j)) (ordered n ds q).tries)
      → (IsConfirmed (report_at (order_no n ds) (entries_of (after j a (ordered n ds q)).past)) → ⊥) → Demand P → ⊥
  unanswered n p ds q a j y u w k bad d =
      not_confirmed (order_no n ds) (after j a (ordered n ds q)).past bad
      (d.live n p (scene (start P n) ds) (scene_obeys (start P n) ds) true q (after j a (ordered n ds q)) y u
      (subst⁻¹ (λ x. Phases P x (ordered n ds q) (after j a (ordered n ds q))) w
      (order_at_once (phase j a (ordered n ds q) k))))

  pub unwritten :
      (n : ℕ) → Permitted n → (ds : List Doing) (q a : Bytes) (j : List Lost)
      → Accepted (P.submit (ends n ds).initiator true q).says → (ordered n ds q).unbroken ≡ true
      → sent_of P (P.submit (ends n ds).initiator true q).writes ≡ nothingSent → T (leb (suc (length j)) (ordered n ds q).tries)
      → (IsConfirmed (report_at (order_no n ds) (entries_of (after j a (ordered n ds q)).past)) → ⊥) → Demand P → ⊥
  unwritten n p ds q a j y u w k bad d =
      not_confirmed (order_no n ds) (after j a (ordered n ds q)).past bad
      (d.live n p (scene (start P n) ds) (scene_obeys (start P n) ds) true q (after j a (ordered n ds q)) y u
      (subst⁻¹ (λ x. Phases P x (ordered n ds q) (after j a (ordered n ds q))) w
      (says_nothing (phase j a (ordered n ds q) k))))
