-- Our two ends over a faithful codec follow our two ends on messages, and so keep demand 3. A telegram is seen as the
-- message that it is to either end. What an end writes is of a length that is got back, since a pending order and a
-- held reply are.
use Prim.Native.Nat.{ℕ}
use mathlib.Core.Bool.{Bool, true, false, ◌&&◌, ◌||◌, false≢true}
use mathlib.Core.Logic.{◌⊎◌, inl, inr}
use mathlib.Core.Option.{Option, none, some, map}
use mathlib.Core.Path.{◌≡◌, refl, sym, ◌∙◌, ap, ap₂, subst, subst⁻¹}
use Rattle.ground.specs.Pick.{if}
use Rattle.link_model.specs.Messages.{Bit, Message, opening, ok, order, reply, other, is_opening}
use Rattle.demand_3.specs.Turns.{Bytes, Turn, refusing, ignoring}
use Rattle.link_model.specs.Initiator.{Initiator, InitiatorTurn, Phase, closed, ready, opening_phase, order_phase, submit_in, submit_of, try_left, silence_in, silence_of, hear_in, hear_of, restart_in, restart_of}
use Rattle.link_model.specs.Responder.{Row, RowTurn, blank, opened, owes, holds, ordered_on, same_bit, row_hears, row_answers}
use Rattle.demand_3.specs.Line.{Pair}
use Rattle.demand_3.specs.Demand.{Demand}
use Rattle.link_model.specs.Ours.{ours}
use Rattle.link_model.specs.Coded.{Request, an_opening, an_order, no_request, Response, an_ok, a_reply, no_response, request_of, response_of, Codec, taken_of, put_turn, coded, Faithful}
use Rattle.demand_3.proofs.Follows.{Written, Same, Follows}
use Rattle.link_model.proofs.Ignored.{ignores_own, ignores_other}
use Rattle.link_model.proofs.Theorem.{follower_demand}
use Rattle.demand_3.proofs.Transfer.{demand_same}

-- a telegram is what it is to the responder, or else what it is to the initiator
abbrev joined : Request → Response → Message
joined an_opening r = opening
joined (an_order b q) r = order b q
joined no_request r = response_of r

same_opening : (q : Request) (r : Response) → is_opening (request_of q) ≡ is_opening (joined q r)
same_opening an_opening r = refl
same_opening (an_order b q) r = refl
same_opening no_request an_ok = refl
same_opening no_request (a_reply p) = refl
same_opening no_request no_response = refl

-- a responder ignores responses, an initiator ignores requests
same_to_responder : (x : Row) (q : Request) (r : Response) → row_hears x (request_of q) ≡ row_hears x (joined q r)
same_to_responder x an_opening r = refl
same_to_responder x (an_order b q) r = refl
same_to_responder x no_request an_ok = refl
same_to_responder x no_request (a_reply p) = refl
same_to_responder x no_request no_response = refl

ignores_joined :
    (i : Initiator) (q : Request) (r : Response) → hear_of i (response_of r) ≡ ignoring i → hear_of i (joined q r) ≡ ignoring i
ignores_joined i an_opening r e = ignores_own i.tries i.phase opening tt
ignores_joined i (an_order b q) r e = ignores_own i.tries i.phase (order b q) tt
ignores_joined i no_request r e = e

ignored_by_responder :
    (x : Row) (q : Request) (r : Response) → row_hears x (request_of q) ≡ ignoring x → row_hears x (joined q r) ≡ ignoring x
ignored_by_responder x q r e = sym (same_to_responder x q r) ∙ e

both_true : (a b : Bool) → (a && b) ≡ true → b ≡ true
both_true true b e = e
both_true false b e = absurd (false≢true e)

module _ (C : Codec) (F : Faithful C) where
  view : C.Telegram → Message
  view t = joined (C.to_responder t) (C.to_initiator t)

  -- a message of a length that is got back
  abbrev Proper : Message → Type 0
  Proper opening = Unit {0}
  Proper ok = Unit {0}
  Proper (order b q) = C.orderable q ≡ true
  Proper (reply p) = C.answerable p ≡ true
  Proper other = ⊥

  view_put : (m : Message) → Proper m → view (C.put m) ≡ m
  unfolding view
  view_put opening y = ap₂ joined F.opening_heard F.opening_echoed
  view_put ok y = ap₂ joined F.ok_echoed F.ok_heard
  view_put (order b q) y = ap₂ joined (F.order_heard b q y) (F.order_echoed b q y)
  view_put (reply p) y = ap₂ joined (F.reply_echoed p y) (F.reply_heard p y)
  view_put other y = absurd y

  -- what can be in flight, what an initiator and a row can be
  abbrev SoundTelegram : C.Telegram → Type 0
  SoundTelegram t = (m : Message) × Proper m × (t ≡ C.put m)

  abbrev SoundPhase : Phase → Type 0
  SoundPhase closed = Unit {0}
  SoundPhase (ready b) = Unit {0}
  SoundPhase (opening_phase q k) = C.orderable q ≡ true
  SoundPhase (order_phase b q k) = C.orderable q ≡ true

  abbrev SoundRow : Row → Type 0
  SoundRow blank = Unit {0}
  SoundRow opened = Unit {0}
  SoundRow (owes b) = Unit {0}
  SoundRow (holds b p) = C.answerable p ≡ true

  seen_put : (w : Option Message) → Written Proper w → map view (map C.put w) ≡ w
  seen_put none y = refl
  seen_put (some m) y = ap some (view_put m y)

  sound_put : (w : Option Message) → Written Proper w → Written SoundTelegram (map C.put w)
  sound_put none y = tt
  sound_put (some m) y = (m, y, refl)

  -- a turn whose message is proper
  same_put :
      {E Tale : Type 0} {SoundEnd : E → Type 0} (t : Turn E Message Tale) → SoundEnd t.next → Written Proper t.writes
      → Same (λ e. e) view SoundEnd SoundTelegram (put_turn C t) t
  same_put t y w =
      record {
        same = λ i. record { next = t.next; writes = seen_put t.writes w i; says = t.says };
        sound_next = y;
        sound_writes = sound_put t.writes w;
      }

  -- a turn that is refused where a test fails
  same_if :
      {E Tale : Type 0} {SoundEnd : E → Type 0} (b : Bool) (e : E) (t u : Turn E Message Tale) → t ≡ u → SoundEnd e
      → (b ≡ true → SoundEnd t.next × Written Proper t.writes)
      → Same (λ x. x) view SoundEnd SoundTelegram (if b (put_turn C t) (refusing e)) (if b u (refusing e))
  same_if {SoundEnd = SoundEnd} true e t u q y f =
      subst (Same (λ x. x) view SoundEnd SoundTelegram (put_turn C t)) q (same_put t (f refl).0 (f refl).1)
  same_if false e t u q y f = record { same = refl; sound_next = y; sound_writes = tt }

  abbrev Keeps : InitiatorTurn → Type 0
  Keeps t = SoundPhase t.next.phase × Written Proper t.writes

  abbrev KeepsRow : RowTurn → Type 0
  KeepsRow t = SoundRow t.next × Written Proper t.writes

  submit_keeps : (n : ℕ) (p : Phase) (q : Bytes) → SoundPhase p → C.orderable q ≡ true → Keeps (submit_in n p q)
  submit_keeps n closed q y e = (e, tt)
  submit_keeps n (ready b) q y e = (e, e)
  submit_keeps n (opening_phase x k) q y e = (y, tt)
  submit_keeps n (order_phase b x k) q y e = (y, tt)

  silence_keeps : (more : Bool) (n : ℕ) (p : Phase) → SoundPhase p → Keeps (silence_in more n p)
  silence_keeps more n closed y = (tt, tt)
  silence_keeps more n (ready b) y = (tt, tt)
  silence_keeps true n (opening_phase x k) y = (y, tt)
  silence_keeps false n (opening_phase x k) y = (tt, tt)
  silence_keeps true n (order_phase b x k) y = (y, y)
  silence_keeps false n (order_phase b x k) y = (tt, tt)

  hear_keeps : (n : ℕ) (p : Phase) (r : Response) → SoundPhase p → Keeps (hear_in n p (response_of r))
  hear_keeps n closed r y = (tt, tt)
  hear_keeps n (ready b) r y = (tt, tt)
  hear_keeps n (opening_phase x k) an_ok y = (y, y)
  hear_keeps n (opening_phase x k) (a_reply p) y = (y, tt)
  hear_keeps n (opening_phase x k) no_response y = (y, tt)
  hear_keeps n (order_phase b x k) an_ok y = (y, tt)
  hear_keeps n (order_phase b x k) (a_reply p) y = (tt, tt)
  hear_keeps n (order_phase b x k) no_response y = (y, tt)

  restart_keeps : (n : ℕ) (p : Phase) → Keeps (restart_in n p)
  restart_keeps n closed = (tt, tt)
  restart_keeps n (ready b) = (tt, tt)
  restart_keeps n (opening_phase x k) = (tt, tt)
  restart_keeps n (order_phase b x k) = (tt, tt)

  ordered_keeps : (again : Bool) (r : Row) (b : Bit) (q : Bytes) → SoundRow r → KeepsRow (ordered_on again r b q)
  ordered_keeps again blank b q y = (tt, tt)
  ordered_keeps true opened b q y = (tt, tt)
  ordered_keeps false opened b q y = (tt, tt)
  ordered_keeps true (owes c) b q y = (tt, tt)
  ordered_keeps false (owes c) b q y = (tt, tt)
  ordered_keeps true (holds c p) b q y = (y, y)
  ordered_keeps false (holds c p) b q y = (tt, tt)

  row_keeps : (r : Row) (q : Request) → SoundRow r → KeepsRow (row_hears r (taken_of C r q))
  row_keeps r an_opening y = (tt, tt)
  row_keeps r (an_order b q) y = go (same_bit r b || C.orderable q)
    where
      go : (x : Bool) → KeepsRow (row_hears r (if x (order b q) other))
      go true = ordered_keeps (same_bit r b) r b q y
      go false = (y, tt)
  row_keeps r no_request y = (y, tt)

  answer_keeps : (r : Row) (p : Bytes) → SoundRow r → C.answerable p ≡ true → KeepsRow (row_answers r p)
  answer_keeps blank p y e = (tt, tt)
  answer_keeps opened p y e = (tt, tt)
  answer_keeps (owes b) p y e = (e, e)
  answer_keeps (holds b r) p y e = (y, tt)

  -- the initiator takes a telegram for what it is seen as
  nothing_to_initiator :
      (i : Initiator) (t : C.Telegram) → C.to_initiator t ≡ no_response → hear_of i (response_of (C.to_initiator t)) ≡ ignoring i
  nothing_to_initiator i t e = subst⁻¹ (λ r. hear_of i (response_of r) ≡ ignoring i) e (ignores_other i.tries i.phase)

  heard_same :
      (i : Initiator) (t : C.Telegram) → hear_of i (response_of (C.to_initiator t)) ≡ ignoring i
      → hear_of i (response_of (C.to_initiator t)) ≡ hear_of i (view t)
  unfolding view
  heard_same i t e = e ∙ sym (ignores_joined i (C.to_responder t) (C.to_initiator t) e)

  put_same :
      (i : Initiator) (m : Message) → Proper m
      → hear_of i (response_of (C.to_initiator (C.put m))) ≡ hear_of i (view (C.put m))
  unfolding view
  put_same i opening y = heard_same i (C.put opening) (nothing_to_initiator i (C.put opening) F.opening_echoed)
  put_same i ok y =
      subst⁻¹ (λ q. hear_of i (response_of (C.to_initiator (C.put ok))) ≡ hear_of i (joined q (C.to_initiator (C.put ok)))) F.ok_echoed
      refl
  put_same i (order b q) y =
      heard_same i (C.put (order b q)) (nothing_to_initiator i (C.put (order b q)) (F.order_echoed b q y))
  put_same i (reply p) y =
      subst⁻¹
      (λ q. hear_of i (response_of (C.to_initiator (C.put (reply p)))) ≡ hear_of i (joined q (C.to_initiator (C.put (reply p)))))
      (F.reply_echoed p y) refl
  put_same i other y = absurd y

  met_same :
      (i : Initiator) (t : C.Telegram) → SoundTelegram t ⊎ C.StrayToInitiator i t
      → hear_of i (response_of (C.to_initiator t)) ≡ hear_of i (view t)
  met_same i t (inl y) =
      subst⁻¹ (λ x. hear_of i (response_of (C.to_initiator x)) ≡ hear_of i (view x)) y.2 (put_same i y.0 y.1)
  met_same i t (inr y) = heard_same i t (F.stray_to_initiator i t y)

  -- and the responder too
  taken_ignored : (r : Row) (q : Request) → row_hears r (request_of q) ≡ ignoring r → row_hears r (taken_of C r q) ≡ ignoring r
  taken_ignored r an_opening e = e
  taken_ignored r (an_order b q) e = go (same_bit r b || C.orderable q)
    where
      go : (x : Bool) → row_hears r (if x (order b q) other) ≡ ignoring r
      go true = e
      go false = refl
  taken_ignored r no_request e = refl

  taken_order :
      (r : Row) (b : Bit) (q : Bytes) (x : Bool) → C.orderable q ≡ true
      → row_hears r (if (x || C.orderable q) (order b q) other) ≡ row_hears r (order b q)
  taken_order r b q true e = refl
  taken_order r b q false e = ap (λ y. row_hears r (if y (order b q) other)) e

  taken_put : (r : Row) (m : Message) → Proper m → row_hears r (taken_of C r (C.to_responder (C.put m))) ≡ row_hears r m
  taken_put r opening y = ap (λ q. row_hears r (taken_of C r q)) F.opening_heard
  taken_put r ok y = ap (λ q. row_hears r (taken_of C r q)) F.ok_echoed
  taken_put r (order b q) y =
      ap (λ q. row_hears r (taken_of C r q)) (F.order_heard b q y) ∙ taken_order r b q (same_bit r b) y
  taken_put r (reply p) y = ap (λ q. row_hears r (taken_of C r q)) (F.reply_echoed p y)
  taken_put r other y = absurd y

  taken_same :
      (r : Row) (t : C.Telegram) → SoundTelegram t ⊎ C.StrayToResponder r t
      → row_hears r (taken_of C r (C.to_responder t)) ≡ row_hears r (view t)
  unfolding view
  taken_same r t (inl y) =
      subst⁻¹ (λ x. row_hears r (taken_of C r (C.to_responder x)) ≡ row_hears r (view x)) y.2
      (taken_put r y.0 y.1 ∙ sym (ap (row_hears r) (view_put y.0 y.1)))
  taken_same r t (inr y) =
      taken_ignored r (C.to_responder t) (F.stray_to_responder r t y)
      ∙ sym (ignored_by_responder r (C.to_responder t) (C.to_initiator t) (F.stray_to_responder r t y))

  pub coded_follows : Follows (coded C) ours
  unfolding view
  coded_follows =
      record {
        view_initiator = λ i. i;
        view_responder = λ r. r;
        view_telegram = view;
        view_room = C.enough;
        view_submit = λ room q. C.enough room && C.orderable q;
        view_answer = λ room p. C.enough room && C.answerable p;
        SoundInitiator = λ i. SoundPhase i.phase;
        SoundResponder = SoundRow;
        SoundTelegram = SoundTelegram;
        same_opens = λ t. same_opening (C.to_responder t) (C.to_initiator t);
        same_enough = λ room. refl;
        same_answerable = λ p e. refl;
        enough_answer = λ room p a b. ap₂ ◌&&◌ a b;
        same_orderable = λ q e. refl;
        enough_submit = λ room q a b. ap₂ ◌&&◌ a b;
        made_initiator = λ n p. refl;
        made_sound = λ n p. tt;
        submits =
            λ i room q y.
            same_if (C.enough room && C.orderable q) i (submit_of i q) (submit_of i q) refl y
            (λ e. submit_keeps i.tries i.phase q y (both_true (C.enough room) (C.orderable q) e));
        silence =
            λ i room y.
            same_if (C.enough room) i (silence_of i) (silence_of i) refl y
            (λ e. silence_keeps (try_left i.tries i.phase) i.tries i.phase y);
        initiator_hears =
            λ i room t y m.
            same_if (C.enough room) i (hear_of i (response_of (C.to_initiator t))) (hear_of i (view t)) (met_same i t m) y
            (λ e. hear_keeps i.tries i.phase (C.to_initiator t) y);
        initiator_restarts =
            λ i y.
            same_put (restart_of i) (restart_keeps i.tries i.phase).0 (restart_keeps i.tries i.phase).1;
        stray_to_initiator =
            λ i t y e. ignores_joined i (C.to_responder t) (C.to_initiator t) (F.stray_to_initiator i t e);
        made_responder = refl;
        responder_sound = tt;
        responder_hears =
            λ r room t y m.
            same_if (C.enough room) r (row_hears r (taken_of C r (C.to_responder t))) (row_hears r (view t)) (taken_same r t m) y
            (λ e. row_keeps r (C.to_responder t) y);
        answers =
            λ r room p y.
            same_if (C.enough room && C.answerable p) r (row_answers r p) (row_answers r p) refl y
            (λ e. answer_keeps r p y (both_true (C.enough room) (C.answerable p) e));
        responder_restarts = λ r y. (refl, tt);
        stray_to_responder =
            λ r t y e. ignored_by_responder r (C.to_responder t) (C.to_initiator t) (F.stray_to_responder r t e);
      }

  -- demand 3 over any faithful codec
  pub coded_demand : Demand (coded C)
  coded_demand = follower_demand (coded C) coded_follows

  -- and of every pair of ends that follows these
  pub coded_follower_demand : (S : Pair) → Follows S (coded C) → Demand S
  coded_follower_demand S f = demand_same S (coded C) f coded_demand
