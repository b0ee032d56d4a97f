-- Each call of an initiator of the link is, through the view of its record, the call on messages: case by case of its phase. A
-- telegram that it writes is the message put, since with 255 bytes of room the writer refuses none.
use Prim.Native.Nat.{ℕ, suc, ◌+◌, ◌≤◌}
use mathlib.Core.Bool.{Bool, true, false, not}
use mathlib.Core.List.{List, []}
use mathlib.Core.Path.{◌≡◌, refl, ◌∙◌, ap, subst}
use native.Mathlib.Nat.{add-suc, add-zero, le_trans, min-le_left}
use native.Mathlib.Omega.{arith}
use lib.Dec.{leb, lit≤}
use lib.ListN.{length, replicate, length-append, length-drop, length-take}
use Rattle.ground.proofs.FrontLaws.{copied_fits}
use Rattle.ground.specs.Front.{copied_to}
use Rattle.ground.specs.Pick.{if}
use Rattle.initiator.proofs.OrderLaws.{len_small, order_small, kept_order}
use Rattle.initiator.proofs.RecordLaws as maker
use Rattle.initiator.specs.Calls as call
use Rattle.initiator.specs.Calls.{submit_of, silence_of, hear_of, restart_of}
use Rattle.initiator.specs.Records.{len_of, order_of, closed_of, made_of}
use Rattle.initiator.specs.declared.state.Initiator.{Initiator}
use Rattle.initiator.specs.declared.state.Phase.{Phase}
use Rattle.initiator.specs.declared.state.Phase.TheVariants.{Closed, Ready, Opening, Order}
use Rattle.demand_3.proofs.Follows.{Same}
use Rattle.link_model.specs.Coded.{Codec, response_of, put_turn, coded}
use Rattle.link_model.specs.Initiator as message
use Rattle.link_model.specs.Messages as said
use Rattle.demand_3.specs.Turns.{Outcome, Turn, refusing}
use Rattle.link_rules.specs.Rules.{room, longest, Linked, Permitted}
use Rattle.link_rules.specs.declared.link.Link.{Link}
use Rattle.link_telegrams.specs.Headers.{cycled_bit, opening_header, order_header}
use Rattle.link_telegrams.specs.Heard.{reply_heard_of}
use Rattle.link_telegrams.specs.declared.headers.Bit.{Bit}
use Rattle.link_telegrams.specs.declared.headers.Bit.TheVariants.{Low}
use Rattle.link_telegrams.specs.declared.heard.ReplyHeard.{ReplyHeard}
use Rattle.link_telegrams.specs.declared.heard.ReplyHeard.TheVariants as heard
use Rattle.link_theorem.proofs.Codec.{codec, reply_seen}
use Rattle.link_theorem.proofs.EitherEnd.{written, both, with_room_lem}
use Rattle.link_theorem.proofs.Views.{bit_seen, put_seen, cycled_seen, phase_seen, initiator_seen, OfInitiator, of_initiator}
use Rattle.link_theorem.specs.OrderLink.{turn_of, outcome_shown}
use Rattle.telegram_tx.proofs.LengthLaws.{length_byte_is}

-- The pending order fits a telegram.
pending_small : (i : Initiator) → length (order_of i) ≤ longest
pending_small i = le_trans (rw length-take (min-le_left (len_of i) (length i.order))) (len_small i)

module _ (link : Link) (linked : Linked link) where
  abbrev C : Codec
  C = codec link

  -- a call of the code is the call on messages, and leaves an initiator of this link
  abbrev pub InitiatorSame : Turn Initiator (List ℕ) Outcome → Turn message.Initiator (List ℕ) Outcome → Type 0
  InitiatorSame t u = Same initiator_seen (λ s. s) (OfInitiator link) (λ s. Unit {0}) t u

  -- any initiator of this link
  abbrev at : ℕ → Phase → List ℕ → ℕ → Initiator
  at n p a l = record { link = link; tries = n; phase = p; order = a; len = l }

  module _ (n : ℕ) (a : List ℕ) (array : length a ≡ longest) (l : ℕ) (s buf : List ℕ) where
    -- a call that leaves an initiator of this link and writes nothing
    stays : (p : Phase) → OfInitiator link (at n p a l)
    stays p = of_initiator n p a l array

    module _ (wide : room ≤ length buf) where
      next : (k : ℕ) → k + 1 ≡ suc k
      next k = add-suc k 0 ∙ ap suc (add-zero k)

      opens :
          (i : Initiator) (p : Phase) (k : ℕ)
          → InitiatorSame
          (turn_of (outcome_shown s) (call.sends_opening i (at n p a l) k buf))
          (put_turn C (message.goes_on n (message.opening_phase (order_of (at n p a l)) k) said.opening))
      unfolding opening_header
      opens i p k =
          rw (written (outcome_shown s) i (at n (Opening k) a l) (opening_header link) [] buf (le_trans linked.peer_small (lit≤ tt)) (le_trans linked.own_small (lit≤ tt)) (rw length_byte_is (omega arith)) wide)
          (record { same = refl; sound_next = stays (Opening k); sound_writes = tt })

      sends :
          (i : Initiator) (p : Phase) (b : Bit) (k : ℕ)
          → InitiatorSame
          (turn_of (outcome_shown s) (call.sends_order i (at n p a l) b k buf))
          (put_turn C (message.goes_on n (message.order_phase (bit_seen b) (order_of (at n p a l)) k) (said.order (bit_seen b) (order_of (at n p a l)))))
      unfolding order_header
      sends i p b k =
          rw (written (outcome_shown s) i (at n (Order b k) a l) (order_header link b) (order_of (at n p a l)) buf (le_trans linked.peer_small (lit≤ tt)) (le_trans linked.own_small (lit≤ tt)) (rw length_byte_is (omega (arith, pending_small (at n p a l)))) wide, put_seen b)
          (record { same = refl; sound_next = stays (Order b k); sound_writes = tt })

      -- "Silence reported: the same telegram again, until the tries of that phase are used"
      silences :
          (p : Phase) (u : Bool) → message.try_left n (phase_seen p (order_of (at n p a l))) ≡ u
          → InitiatorSame
          (turn_of (outcome_shown s) (call.silence_in p (at n p a l) buf))
          (put_turn C (message.silence_in u n (phase_seen p (order_of (at n p a l)))))
      silences Closed u e = record { same = refl; sound_next = stays Closed; sound_writes = tt }
      silences (Ready b) u e = record { same = refl; sound_next = stays (Ready b); sound_writes = tt }
      silences (Opening k) true e = rw (e, next k) (opens (at n (Opening k) a l) (Opening k) (suc k))
      silences (Opening k) false e = rw e (record { same = refl; sound_next = of_initiator n Closed a 0 array; sound_writes = tt })
      silences (Order b k) true e = rw (e, next k) (sends (at n (Order b k) a l) (Order b k) b (suc k))
      silences (Order b k) false e = rw e (record { same = refl; sound_next = of_initiator n Closed a 0 array; sound_writes = tt })

      -- "Awaited reply from the peer to us"
      hears :
          (p : Phase) (h : ReplyHeard)
          → InitiatorSame
          (turn_of (outcome_shown s) (call.hear_in p h (at n p a l) buf))
          (put_turn C (message.hear_in n (phase_seen p (order_of (at n p a l))) (response_of (reply_seen s h))))
      hears Closed h = record { same = refl; sound_next = stays Closed; sound_writes = tt }
      hears (Ready b) h = record { same = refl; sound_next = stays (Ready b); sound_writes = tt }
      hears (Opening k) heard.Ok = sends (at n (Opening k) a l) (Opening k) Low 1
      hears (Opening k) (heard.Reply p) = record { same = refl; sound_next = stays (Opening k); sound_writes = tt }
      hears (Opening k) heard.Nothing = record { same = refl; sound_next = stays (Opening k); sound_writes = tt }
      hears (Order b k) heard.Ok = record { same = refl; sound_next = stays (Order b k); sound_writes = tt }
      hears (Order b k) (heard.Reply p) =
          rw (← cycled_seen b)
          (record { same = refl; sound_next = of_initiator n (Ready (cycled_bit b)) a 0 array; sound_writes = tt })
      hears (Order b k) heard.Nothing = record { same = refl; sound_next = stays (Order b k); sound_writes = tt }

  -- "Submitting sends the opening if closed, else the order"
  module _ (n : ℕ) (a : List ℕ) (array : length a ≡ longest) (l : ℕ) (q buf : List ℕ) (wide : room ≤ length buf) where
    kept_array : length q ≤ longest → length (copied_to a q) ≡ longest
    kept_array small = rw (copied_fits a q (rw array small), length-append, length-drop) (omega arith)

    submits :
        (p : Phase) (w : Bool) → call.wrong_order q ≡ w
        → InitiatorSame
        (turn_of (outcome_shown []) (call.submit_in p (at n p a l) q buf))
        (if (not w) (put_turn C (message.submit_in n (phase_seen p (order_of (at n p a l))) q)) (refusing (initiator_seen (at n p a l))))
    submits Closed true e = rw e (record { same = refl; sound_next = of_initiator n Closed a l array; sound_writes = tt })
    submits Closed false e =
        let small = order_small q e in
        let kept = kept_order (at n Closed a l) q (omega (arith, array)) small in
        rw e
        (subst (λ (r : List ℕ). InitiatorSame (turn_of (outcome_shown []) (call.sends_opening (at n Closed a l) (call.keeping (at n Closed a l) q) 1 buf)) (put_turn C (message.submit_in n message.closed r))) kept
        (opens n (copied_to a q) (kept_array small) (length q) [] buf wide (at n Closed a l) Closed 1))
    submits (Ready b) true e = rw e (record { same = refl; sound_next = of_initiator n (Ready b) a l array; sound_writes = tt })
    submits (Ready b) false e =
        let small = order_small q e in
        let kept = kept_order (at n (Ready b) a l) q (omega (arith, array)) small in
        rw e
        (subst (λ (r : List ℕ). InitiatorSame (turn_of (outcome_shown []) (call.sends_order (at n (Ready b) a l) (call.keeping (at n (Ready b) a l) q) b 1 buf)) (put_turn C (message.submit_in n (message.ready (bit_seen b)) r))) kept
        (sends n (copied_to a q) (kept_array small) (length q) [] buf wide (at n (Ready b) a l) (Ready b) b 1))
    submits (Opening k) true e = record { same = refl; sound_next = of_initiator n (Opening k) a l array; sound_writes = tt }
    submits (Opening k) false e = record { same = refl; sound_next = of_initiator n (Opening k) a l array; sound_writes = tt }
    submits (Order b k) true e = record { same = refl; sound_next = of_initiator n (Order b k) a l array; sound_writes = tt }
    submits (Order b k) false e = record { same = refl; sound_next = of_initiator n (Order b k) a l array; sound_writes = tt }

  pub submit_same :
      (i : Initiator) (buf q : List ℕ) → OfInitiator link i
      → InitiatorSame (turn_of (outcome_shown []) (submit_of i q buf)) ((coded C).submit (initiator_seen i) buf q)
  unfolding submit_of
  submit_same i buf q (of_initiator n p a l array) =
      rw (both (leb room (length buf)))
      (with_room_lem (outcome_shown []) initiator_seen (OfInitiator link) (at n p a l) buf _ _ (leb room (length buf)) refl (of_initiator n p a l array)
      (λ wide. submits n a array l q buf wide p (call.wrong_order q) refl))

  pub silence_same :
      (i : Initiator) (buf : List ℕ) → OfInitiator link i
      → InitiatorSame (turn_of (outcome_shown []) (silence_of i buf)) ((coded C).silence (initiator_seen i) buf)
  unfolding silence_of
  silence_same i buf (of_initiator n p a l array) =
      with_room_lem (outcome_shown []) initiator_seen (OfInitiator link) (at n p a l) buf _ _ (leb room (length buf)) refl (of_initiator n p a l array)
      (λ wide. silences n a array l [] buf wide p (message.try_left n (phase_seen p (order_of (at n p a l)))) refl)

  pub hear_same :
      (i : Initiator) (buf s : List ℕ) → OfInitiator link i
      → InitiatorSame (turn_of (outcome_shown s) (hear_of i s buf)) ((coded C).initiator_hear (initiator_seen i) buf s)
  unfolding hear_of
  hear_same i buf s (of_initiator n p a l array) =
      with_room_lem (outcome_shown s) initiator_seen (OfInitiator link) (at n p a l) buf _ _ (leb room (length buf)) refl (of_initiator n p a l array)
      (λ wide. hears n a array l s buf wide p (reply_heard_of link s))

  -- "Restart reports a pending order as silence at the last try would"
  pub restart_same :
      (i : Initiator) → OfInitiator link i
      → InitiatorSame (turn_of (outcome_shown []) (restart_of i)) ((coded C).initiator_restart (initiator_seen i))
  unfolding restart_of
  restart_same i (of_initiator n Closed a l array) = record { same = refl; sound_next = of_initiator n Closed a 0 array; sound_writes = tt }
  restart_same i (of_initiator n (Ready b) a l array) = record { same = refl; sound_next = of_initiator n Closed a 0 array; sound_writes = tt }
  restart_same i (of_initiator n (Opening k) a l array) = record { same = refl; sound_next = of_initiator n Closed a 0 array; sound_writes = tt }
  restart_same i (of_initiator n (Order b k) a l array) = record { same = refl; sound_next = of_initiator n Closed a 0 array; sound_writes = tt }

  -- a record made with permitted tries is closed
  module _ (n : ℕ) (tries : Permitted n) where
    made_closed : (made_of link n).end ≡ closed_of link n
    made_closed = maker.made_closed link n linked tries

    pub made_seen : initiator_seen (made_of link n).end ≡ message.new_initiator n
    made_seen = rw made_closed

    pub made_of_link : OfInitiator link (made_of link n).end
    made_of_link = rw made_closed (of_initiator n Closed (replicate longest 0) 0 refl)
