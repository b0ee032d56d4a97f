-- What follows a pair that keeps demand 3 keeps it: the history is made from calls and answers, and these are the
-- same, call by call.
use Prim.Native.Nat.{ℕ}
use mathlib.Core.Bool.{Bool, true, false}
use mathlib.Core.List.{List, [], ◌∷◌, map}
use mathlib.Core.Logic.{◌⊎◌, inl, inr}
use mathlib.Core.Option
use mathlib.Core.Option.{Option, none, some}
use mathlib.Core.Path.{◌≡◌, refl, sym, ◌∙◌, ap, subst, subst⁻¹}
use Rattle.demand_3.specs.Turns.{Bytes, Outcome, Told, refused, nothing, tells, Turn}
use Rattle.demand_3.specs.History.{History, Sent, submitted, counted, reported, left_pending, answered, opening_heard}
use Rattle.demand_3.specs.Line.{Pair, State, Call, initiator_made, submits, silent, initiator_hears, initiator_restarts, responder_made, responder_hears, answers, responder_restarts, closed_by, begun, sent_as, sent_of, still_or, initiator_done, restart_done, responder_done, step, start, run, Heard, in_flight, stray, Lawful, Obeys}
use Rattle.link_rules.specs.Rules.{Permitted}
use Rattle.demand_3.specs.Safe.{Safe}
use Rattle.demand_3.specs.Live.{Takes, Accepted, Silent, Flight, theTry, theAnswer, another, answer_to, Missed, Wide, Prompt, answers_at_once, reaches_responder, reaches_initiator, passes, Between, over, silent_short, submits_beside, initiator_misses, responder_attends, responder_serves, answers_late, Tried, passed, again, Phase, Phases, opens_first, order_at_once, says_nothing, Live}
use Rattle.demand_3.specs.Demand.{Demand}
use Rattle.demand_3.proofs.Follows.{Written, seen_turn, Same, Follows}

module _ (S O : Pair) (F : Follows S O) where
  abbrev to_state : State S → State O
  to_state s =
      record {
        initiator = F.view_initiator s.initiator;
        responder = F.view_responder s.responder;
        line = Option.map F.view_telegram s.line;
        tries = s.tries;
        is_closed = s.is_closed;
        unbroken = s.unbroken;
        past = s.past;
      }

  abbrev to_call : Call S → Call O
  to_call (initiator_made n) = initiator_made n
  to_call (submits room q) = submits (F.view_submit room q) q
  to_call (silent room) = silent (F.view_room room)
  to_call (initiator_hears room t) = initiator_hears (F.view_room room) (F.view_telegram t)
  to_call initiator_restarts = initiator_restarts
  to_call responder_made = responder_made
  to_call (responder_hears room t) = responder_hears (F.view_room room) (F.view_telegram t)
  to_call (answers room p) = answers (F.view_answer room p) p
  to_call responder_restarts = responder_restarts

  record Parts (i : S.Initiator) (r : S.Responder) (l : Option S.Telegram) : Type 0 where
    sound_initiator : F.SoundInitiator i
    sound_responder : F.SoundResponder r
    sound_line : Written F.SoundTelegram l

  abbrev Sound : State S → Type 0
  Sound s = Parts s.initiator s.responder s.line

  sent_same : (w : Option S.Telegram) → sent_of S w ≡ sent_of O (Option.map F.view_telegram w)
  sent_same none = refl
  sent_same (some t) = ap sent_as (F.same_opens t)

  initiator_done_lem :
      (s : State S) (c u : Bool) (h : History) (t : Turn S.Initiator S.Telegram Outcome)
      → to_state (initiator_done S s c u h t) ≡ initiator_done O (to_state s) c u h (seen_turn F.view_initiator F.view_telegram t)
  initiator_done_lem s c u h t =
      λ i.
      record {
        initiator = F.view_initiator t.next;
        responder = F.view_responder s.responder;
        line = Option.map F.view_telegram t.writes;
        tries = s.tries;
        is_closed = closed_by t.says c;
        unbroken = u;
        past = reported t.says (counted (sent_same t.writes i) h);
      }

  still_same :
      (w l : Option S.Telegram)
      → Option.map F.view_telegram (still_or w l) ≡ still_or (Option.map F.view_telegram w) (Option.map F.view_telegram l)
  still_same none l = refl
  still_same (some t) l = refl

  restart_done_lem :
      (s : State S) (t : Turn S.Initiator S.Telegram Outcome)
      → to_state (restart_done S s t) ≡ restart_done O (to_state s) (seen_turn F.view_initiator F.view_telegram t)
  restart_done_lem s t =
      λ i.
      record {
        initiator = F.view_initiator t.next;
        responder = F.view_responder s.responder;
        line = still_same t.writes s.line i;
        tries = s.tries;
        is_closed = closed_by t.says true;
        unbroken = false;
        past = reported t.says (counted (sent_same t.writes i) s.past);
      }

  still_sound :
      (w l : Option S.Telegram) → Written F.SoundTelegram w → Written F.SoundTelegram l
      → Written F.SoundTelegram (still_or w l)
  still_sound none l x y = y
  still_sound (some t) l x y = x

  -- what is heard is a telegram that came about, or a stray one
  initiator_met :
      (i : S.Initiator) {l : Option S.Telegram} {t : S.Telegram} → Written F.SoundTelegram l → Heard (S.StrayToInitiator i) l t
      → F.SoundTelegram t ⊎ S.StrayToInitiator i t
  initiator_met i y in_flight = inl y
  initiator_met i y (stray e) = inr e

  responder_met :
      (r : S.Responder) {l : Option S.Telegram} {t : S.Telegram} → Written F.SoundTelegram l → Heard (S.StrayToResponder r) l t
      → F.SoundTelegram t ⊎ S.StrayToResponder r t
  responder_met r y in_flight = inl y
  responder_met r y (stray e) = inr e

  initiator_hears_lem :
      (s : State S) (room : S.Room) (t : S.Telegram) → Sound s → F.SoundTelegram t ⊎ S.StrayToInitiator s.initiator t
      → to_state (step S s (initiator_hears room t)) ≡ step O (to_state s) (to_call (initiator_hears room t))
  initiator_hears_lem s room t y m =
      initiator_done_lem s s.is_closed s.unbroken s.past (S.initiator_hear s.initiator room t)
      ∙ ap (initiator_done O (to_state s) s.is_closed s.unbroken s.past) (F.initiator_hears s.initiator room t y.sound_initiator m).same

  responder_hears_lem :
      (s : State S) (room : S.Room) (t : S.Telegram) → Sound s → F.SoundTelegram t ⊎ S.StrayToResponder s.responder t
      → to_state (step S s (responder_hears room t)) ≡ step O (to_state s) (to_call (responder_hears room t))
  responder_hears_lem s room t y m =
      let u = S.responder_hear s.responder room t in
      ap
      (λ first. responder_done O (to_state s) (opening_heard u.says first s.past) (seen_turn F.view_responder F.view_telegram u))
      (F.same_opens t)
      ∙ ap (λ x. responder_done O (to_state s) (opening_heard x.says (O.opens (F.view_telegram t)) s.past) x)
      (F.responder_hears s.responder room t y.sound_responder m).same

  step_same : (s : State S) (c : Call S) → Sound s → Lawful S s c → to_state (step S s c) ≡ step O (to_state s) (to_call c)
  step_same s (initiator_made n) y l =
      λ i.
      record {
        initiator = F.made_initiator n l i;
        responder = F.view_responder s.responder;
        line = Option.map F.view_telegram s.line;
        tries = n;
        is_closed = true;
        unbroken = false;
        past = left_pending s.past;
      }
  step_same s (submits room q) y l =
      let t = S.submit s.initiator room q in
      initiator_done_lem s s.is_closed (begun t.says s.is_closed s.unbroken) (submitted t.says q s.past) t
      ∙ ap
      (λ x.
      initiator_done O (to_state s) s.is_closed (begun x.says s.is_closed s.unbroken) (submitted x.says q s.past) x)
      (F.submits s.initiator room q y.sound_initiator).same
  step_same s (silent room) y l =
      initiator_done_lem s s.is_closed s.unbroken s.past (S.silence s.initiator room)
      ∙ ap (initiator_done O (to_state s) s.is_closed s.unbroken s.past) (F.silence s.initiator room y.sound_initiator).same
  step_same s (initiator_hears room t) y l =
      initiator_hears_lem s room t y (initiator_met s.initiator y.sound_line l)
  step_same s initiator_restarts y l =
      restart_done_lem s (S.initiator_restart s.initiator)
      ∙ ap (restart_done O (to_state s)) (F.initiator_restarts s.initiator y.sound_initiator).same
  step_same s responder_made y l =
      λ i.
      record {
        initiator = F.view_initiator s.initiator;
        responder = F.made_responder i;
        line = Option.map F.view_telegram s.line;
        tries = s.tries;
        is_closed = s.is_closed;
        unbroken = false;
        past = s.past;
      }
  step_same s (responder_hears room t) y l =
      responder_hears_lem s room t y (responder_met s.responder y.sound_line l)
  step_same s (answers room p) y l =
      ap (λ x. responder_done O (to_state s) (answered x.says p s.past) x)
      (F.answers s.responder room p y.sound_responder).same
  step_same s responder_restarts y l =
      λ i.
      record {
        initiator = F.view_initiator s.initiator;
        responder = (F.responder_restarts s.responder y.sound_responder).0 i;
        line = Option.map F.view_telegram s.line;
        tries = s.tries;
        is_closed = s.is_closed;
        unbroken = false;
        past = s.past;
      }

  initiator_sound :
      {i : S.Initiator} {r : S.Responder} {l : Option S.Telegram} {t : Turn S.Initiator S.Telegram Outcome}
      {u : Turn O.Initiator O.Telegram Outcome} → Parts i r l
      → Same F.view_initiator F.view_telegram F.SoundInitiator F.SoundTelegram t u → Parts t.next r t.writes
  initiator_sound y m =
      record { sound_initiator = m.sound_next; sound_responder = y.sound_responder; sound_line = m.sound_writes }

  responder_sound_lem :
      {i : S.Initiator} {r : S.Responder} {l : Option S.Telegram} {t : Turn S.Responder S.Telegram Bytes}
      {u : Turn O.Responder O.Telegram Bytes} → Parts i r l
      → Same F.view_responder F.view_telegram F.SoundResponder F.SoundTelegram t u → Parts i t.next t.writes
  responder_sound_lem y m =
      record { sound_initiator = y.sound_initiator; sound_responder = m.sound_next; sound_line = m.sound_writes }

  step_sound : (s : State S) (c : Call S) → Sound s → Lawful S s c → Sound (step S s c)
  step_sound s (initiator_made n) y l =
      record { sound_initiator = F.made_sound n l; sound_responder = y.sound_responder; sound_line = y.sound_line }
  step_sound s (submits room q) y l = initiator_sound y (F.submits s.initiator room q y.sound_initiator)
  step_sound s (silent room) y l = initiator_sound y (F.silence s.initiator room y.sound_initiator)
  step_sound s (initiator_hears room t) y l =
      initiator_sound y
      (F.initiator_hears s.initiator room t y.sound_initiator (initiator_met s.initiator y.sound_line l))
  step_sound s initiator_restarts y l =
      let m = F.initiator_restarts s.initiator y.sound_initiator in
      record {
        sound_initiator = m.sound_next;
        sound_responder = y.sound_responder;
        sound_line = still_sound (S.initiator_restart s.initiator).writes s.line m.sound_writes y.sound_line;
      }
  step_sound s responder_made y l =
      record { sound_initiator = y.sound_initiator; sound_responder = F.responder_sound; sound_line = y.sound_line }
  step_sound s (responder_hears room t) y l =
      responder_sound_lem y
      (F.responder_hears s.responder room t y.sound_responder (responder_met s.responder y.sound_line l))
  step_sound s (answers room p) y l = responder_sound_lem y (F.answers s.responder room p y.sound_responder)
  step_sound s responder_restarts y l =
      record {
        sound_initiator = y.sound_initiator;
        sound_responder = (F.responder_restarts s.responder y.sound_responder).1;
        sound_line = y.sound_line;
      }

  initiator_heard :
      (i : S.Initiator) {l : Option S.Telegram} {t : S.Telegram} → F.SoundInitiator i → Heard (S.StrayToInitiator i) l t
      → Heard (O.StrayToInitiator (F.view_initiator i)) (Option.map F.view_telegram l) (F.view_telegram t)
  initiator_heard i y in_flight = in_flight
  initiator_heard i {t = t} y (stray e) = stray (F.stray_to_initiator i t y e)

  responder_heard :
      (r : S.Responder) {l : Option S.Telegram} {t : S.Telegram} → F.SoundResponder r → Heard (S.StrayToResponder r) l t
      → Heard (O.StrayToResponder (F.view_responder r)) (Option.map F.view_telegram l) (F.view_telegram t)
  responder_heard r y in_flight = in_flight
  responder_heard r {t = t} y (stray e) = stray (F.stray_to_responder r t y e)

  lawful_same : (s : State S) (c : Call S) → Sound s → Lawful S s c → Lawful O (to_state s) (to_call c)
  lawful_same s (initiator_made n) y l = l
  lawful_same s (submits room q) y l = tt
  lawful_same s (silent room) y l = tt
  lawful_same s (initiator_hears room t) y l = initiator_heard s.initiator y.sound_initiator l
  lawful_same s initiator_restarts y l = tt
  lawful_same s responder_made y l = tt
  lawful_same s (responder_hears room t) y l = responder_heard s.responder y.sound_responder l
  lawful_same s (answers room p) y l = tt
  lawful_same s responder_restarts y l = tt

  run_sound : (cs : List (Call S)) (s : State S) → Sound s → Obeys S s cs → Sound (run S s cs)
  run_sound [] s y o = y
  run_sound (c ∷ cs) s y o = run_sound cs (step S s c) (step_sound s c y o.0) o.1

  run_same :
      (cs : List (Call S)) (s : State S) → Sound s → Obeys S s cs → to_state (run S s cs) ≡ run O (to_state s) (map to_call cs)
  run_same [] s y o = refl
  run_same (c ∷ cs) s y o =
      run_same cs (step S s c) (step_sound s c y o.0) o.1
      ∙ ap (λ x. run O x (map to_call cs)) (step_same s c y o.0)

  obeys_same : (cs : List (Call S)) (s : State S) → Sound s → Obeys S s cs → Obeys O (to_state s) (map to_call cs)
  obeys_same [] s y o = tt
  obeys_same (c ∷ cs) s y o = (
    lawful_same s c y o.0,
    subst (λ x. Obeys O x (map to_call cs)) (step_same s c y o.0)
        (obeys_same cs (step S s c) (step_sound s c y o.0) o.1),
  )

  start_same : (n : ℕ) → Permitted n → to_state (start S n) ≡ start O n
  start_same n p =
      λ i.
      record {
        initiator = F.made_initiator n p i;
        responder = F.made_responder i;
        line = none;
        tries = n;
        is_closed = true;
        unbroken = true;
        past = (start O n).past;
      }

  start_sound : (n : ℕ) → Permitted n → Sound (start S n)
  start_sound n p = record { sound_initiator = F.made_sound n p; sound_responder = F.responder_sound; sound_line = tt }

  -- the last sentence: rooms, the try that passes, what happens beside it, the phases
  abbrev wide_same : Wide S → Wide O
  wide_same w = record { room = F.view_room w.room; is_enough = sym (F.same_enough w.room) ∙ w.is_enough }

  abbrev prompt_same : Prompt S → Prompt O
  prompt_same p =
      record {
        bytes = p.bytes;
        is_answerable = F.same_answerable p.bytes p.is_answerable;
        into =
            record {
              room = F.view_answer p.into.room p.bytes;
              is_enough = F.enough_answer p.into.room p.bytes p.into.is_enough p.is_answerable;
            };
      }

  at_once_same :
      (p : Prompt S) (x : Told Bytes) (s : State S) → Sound s
      → to_state (answers_at_once S p x s) ≡ answers_at_once O (prompt_same p) x (to_state s)
  at_once_same p refused s y = refl
  at_once_same p nothing s y = refl
  at_once_same p (tells q) s y = step_same s (answers p.into.room p.bytes) y tt

  at_once_sound : (p : Prompt S) (x : Told Bytes) (s : State S) → Sound s → Sound (answers_at_once S p x s)
  at_once_sound p refused s y = y
  at_once_sound p nothing s y = y
  at_once_sound p (tells q) s y = step_sound s (answers p.into.room p.bytes) y tt

  responder_reached_sound :
      (w : Wide S) (p : Prompt S) (l : Option S.Telegram) (s : State S) → Written F.SoundTelegram l → Sound s
      → Sound (reaches_responder S w p l s)
  responder_reached_sound w p none s m y = y
  responder_reached_sound w p (some t) s m y =
      at_once_sound p (S.responder_hear s.responder w.room t).says (step S s (responder_hears w.room t))
      (responder_sound_lem y (F.responder_hears s.responder w.room t y.sound_responder (inl m)))

  responder_reached :
      (w : Wide S) (p : Prompt S) (l : Option S.Telegram) (s : State S) → Written F.SoundTelegram l → Sound s
      → to_state (reaches_responder S w p l s)
      ≡ reaches_responder O (wide_same w) (prompt_same p) (Option.map F.view_telegram l) (to_state s)
  responder_reached w p none s m y = refl
  responder_reached w p (some t) s m y =
      let f = F.responder_hears s.responder w.room t y.sound_responder (inl m) in
      let x = (S.responder_hear s.responder w.room t).says in
      at_once_same p x (step S s (responder_hears w.room t)) (responder_sound_lem y f)
      ∙ ap (answers_at_once O (prompt_same p) x) (responder_hears_lem s w.room t y (inl m))
      ∙ ap
      (λ u.
      answers_at_once O (prompt_same p) u.says
      (step O (to_state s) (responder_hears (F.view_room w.room) (F.view_telegram t))))
      f.same

  initiator_reached :
      (w : Wide S) (l : Option S.Telegram) (s : State S) → Written F.SoundTelegram l → Sound s
      → to_state (reaches_initiator S w l s) ≡ reaches_initiator O (wide_same w) (Option.map F.view_telegram l) (to_state s)
  initiator_reached w none s m y = refl
  initiator_reached w (some t) s m y = initiator_hears_lem s w.room t y (inl m)

  initiator_reached_sound :
      (w : Wide S) (l : Option S.Telegram) (s : State S) → Written F.SoundTelegram l → Sound s
      → Sound (reaches_initiator S w l s)
  initiator_reached_sound w none s m y = y
  initiator_reached_sound w (some t) s m y =
      initiator_sound y (F.initiator_hears s.initiator w.room t y.sound_initiator (inl m))

  passes_same :
      (w : Wide S) (p : Prompt S) (v : Wide S) (s : State S) → Sound s
      → to_state (passes S w p v s) ≡ passes O (wide_same w) (prompt_same p) (wide_same v) (to_state s)
  passes_same w p v s y =
      let r = reaches_responder S w p s.line s in
      let z = responder_reached_sound w p s.line s y.sound_line y in
      initiator_reached v r.line r z.sound_line z
      ∙ ap (λ x. reaches_initiator O (wide_same v) x.line x) (responder_reached w p s.line s y.sound_line y)

  passes_sound : (w : Wide S) (p : Prompt S) (v : Wide S) (s : State S) → Sound s → Sound (passes S w p v s)
  passes_sound w p v s y =
      let r = reaches_responder S w p s.line s in
      let z = responder_reached_sound w p s.line s y.sound_line y in
      initiator_reached_sound v r.line r z.sound_line z

  -- what is in flight after a hearing, and what is no passing of a try, are the same
  answer_same :
      (f : Flight) (r : S.Responder) {l : Option S.Telegram} {t : S.Telegram} (y : F.SoundResponder r)
      (h : Heard (S.StrayToResponder r) l t) → answer_to f h ≡ answer_to f (responder_heard r y h)
  unfolding responder_heard
  answer_same theTry r y in_flight = refl
  answer_same theTry r y (stray e) = refl
  answer_same theAnswer r y h = refl
  answer_same another r y h = refl

  missed_same :
      (f : Flight) (b : Bool) (i : S.Initiator) {l : Option S.Telegram} {t : S.Telegram} (y : F.SoundInitiator i)
      (h : Heard (S.StrayToInitiator i) l t) → Missed f b h → Missed f b (initiator_heard i y h)
  unfolding initiator_heard
  missed_same f false i y h m = tt
  missed_same theTry true i y h m = tt
  missed_same theAnswer true i y in_flight m = m
  missed_same theAnswer true i y (stray e) m = tt
  missed_same another true i y h m = tt

  served_same :
      (s : State S) (h a : Call S) (y : Sound s) (l : Lawful S s h) → Lawful S (step S s h) a
      → to_state (step S (step S s h) a) ≡ step O (step O (to_state s) (to_call h)) (to_call a)
  served_same s h a y l m =
      step_same (step S s h) a (step_sound s h y l) m ∙ ap (λ x. step O x (to_call a)) (step_same s h y l)

  between_sound : {f : Flight} {s z : State S} → Between S f s z → Sound s → Sound z
  between_sound over y = y
  between_sound (silent_short {s = s} room e rest) y = between_sound rest (step_sound s (silent room) y tt)
  between_sound (submits_beside {s = s} room q rest) y = between_sound rest (step_sound s (submits room q) y tt)
  between_sound (initiator_misses {s = s} room t h m rest) y = between_sound rest (step_sound s (initiator_hears room t) y h)
  between_sound (responder_attends {s = s} room t h m rest) y = between_sound rest (step_sound s (responder_hears room t) y h)
  between_sound (responder_serves {s = s} room t h q e p rest) y =
      between_sound rest
      (step_sound (step S s (responder_hears room t)) (answers p.into.room p.bytes)
      (step_sound s (responder_hears room t) y h) tt)
  between_sound (answers_late {s = s} room p rest) y = between_sound rest (step_sound s (answers room p) y tt)

  between_same : {f : Flight} {s z : State S} → Between S f s z → Sound s → Between O f (to_state s) (to_state z)
  between_same over y = over
  between_same (silent_short {s = s} {z} room e rest) y =
      silent_short (F.view_room room) (sym (F.same_enough room) ∙ e)
      (subst (λ x. Between O another x (to_state z)) (step_same s (silent room) y tt)
      (between_same rest (step_sound s (silent room) y tt)))
  between_same (submits_beside {s = s} {z} room q rest) y =
      submits_beside (F.view_submit room q) q
      (subst (λ x. Between O another x (to_state z)) (step_same s (submits room q) y tt)
      (between_same rest (step_sound s (submits room q) y tt)))
  between_same (initiator_misses {f} {s} {z} room t h m rest) y =
      let c = initiator_hears room t in
      initiator_misses (F.view_room room) (F.view_telegram t) (initiator_heard s.initiator y.sound_initiator h)
      (subst (λ b. Missed f b (initiator_heard s.initiator y.sound_initiator h)) (F.same_enough room)
      (missed_same f (S.enough room) s.initiator y.sound_initiator h m))
      (subst (λ x. Between O another x (to_state z)) (step_same s c y h) (between_same rest (step_sound s c y h)))
  between_same (responder_attends {f} {s} {z} room t h m rest) y =
      let c = responder_hears room t in
      let g = F.responder_hears s.responder room t y.sound_responder (responder_met s.responder y.sound_line h) in
      responder_attends (F.view_room room) (F.view_telegram t) (responder_heard s.responder y.sound_responder h)
      (subst (λ u. Silent u.says) g.same m)
      (subst (λ x. Between O x (step O (to_state s) (to_call c)) (to_state z)) (answer_same f s.responder y.sound_responder h)
      (subst (λ x. Between O (answer_to f h) x (to_state z)) (step_same s c y h) (between_same rest (step_sound s c y h))))
  between_same (responder_serves {f} {s} {z} room t h q e p rest) y =
      let c = responder_hears room t in
      let a = answers p.into.room p.bytes in
      let g = F.responder_hears s.responder room t y.sound_responder (responder_met s.responder y.sound_line h) in
      responder_serves (F.view_room room) (F.view_telegram t) (responder_heard s.responder y.sound_responder h) q
      (sym (ap (λ u. u.says) g.same) ∙ e) (prompt_same p)
      (subst (λ x. Between O x (step O (step O (to_state s) (to_call c)) (to_call a)) (to_state z))
      (answer_same f s.responder y.sound_responder h)
      (subst (λ x. Between O (answer_to f h) x (to_state z)) (served_same s c a y h tt)
      (between_same rest (step_sound (step S s c) a (step_sound s c y h) tt))))
  between_same (answers_late {s = s} {z} room p rest) y =
      answers_late (F.view_answer room p) p
      (subst (λ x. Between O another x (to_state z)) (step_same s (answers room p) y tt)
      (between_same rest (step_sound s (answers room p) y tt)))

  tried_sound : {k : ℕ} {s z : State S} → Tried S k s z → Sound s → Sound z
  tried_sound (passed {s} w p v) y = passes_sound w p v s y
  tried_sound (again {m = m} b w t) y = tried_sound t (step_sound m (silent w.room) (between_sound b y) tt)

  tried_same : {k : ℕ} {s z : State S} → Tried S k s z → Sound s → Tried O k (to_state s) (to_state z)
  tried_same (passed {s} w p v) y =
      subst⁻¹ (Tried O 1 (to_state s)) (passes_same w p v s y) (passed (wide_same w) (prompt_same p) (wide_same v))
  tried_same (again {k = k} {m = m} {z = z} b w t) y =
      let n = between_sound b y in
      again (between_same b y) (wide_same w)
      (subst (λ x. Tried O k x (to_state z)) (step_same m (silent w.room) n tt)
      (tried_same t (step_sound m (silent w.room) n tt)))

  phase_same : {s z : State S} → Phase S s z → Sound s → Phase O (to_state s) (to_state z)
  phase_same p y =
      record { k = p.k; from_one = p.from_one; to_tries = p.to_tries; tried = tried_same p.tried y }

  phases_same : {x : Sent} {s z : State S} → Phases S x s z → Sound s → Phases O x (to_state s) (to_state z)
  phases_same (opens_first p q) y = opens_first (phase_same p y) (phase_same q (tried_sound p.tried y))
  phases_same (order_at_once p) y = order_at_once (phase_same p y)
  phases_same (says_nothing p) y = says_nothing (phase_same p y)

  live_same : (s : State S) → Sound s → Live O (to_state s) → Live S s
  live_same s y live room q z a u f =
      let t = S.submit s.initiator room q in
      let m = F.submits s.initiator room q y.sound_initiator in
      let e = step_same s (submits room q) y tt in
      live (F.view_submit room q) q (to_state z) (subst (λ x. Accepted x.says) m.same a)
      (subst (λ x. x.unbroken ≡ true) e u)
      (subst (λ x. Phases O x (step O (to_state s) (to_call (submits room q))) (to_state z))
      (sent_same t.writes ∙ ap (λ x. sent_of O x.writes) m.same)
      (subst (λ x. Phases O (sent_of S t.writes) x (to_state z)) e
      (phases_same f (step_sound s (submits room q) y tt))))

  takes_same : (s : State S) → Sound s → Takes O (to_state s) → Takes S s
  takes_same s y takes room q a b c =
      subst⁻¹ (λ x. Accepted x.says) (F.submits s.initiator room q y.sound_initiator).same
      (takes (F.view_submit room q) q (F.enough_submit room q a b) (F.same_orderable q b) c)

  pub demand_same : Demand O → Demand S
  demand_same d =
      record {
        safe = λ n p cs o. subst⁻¹ (λ x. Safe x.past) (run_at n p cs o) (d.safe n p (map to_call cs) (obeys_at n p cs o));
        live =
            λ n p cs o.
            live_same (run S (start S n) cs) (run_sound cs (start S n) (start_sound n p) o)
            (subst⁻¹ (Live O) (run_at n p cs o) (d.live n p (map to_call cs) (obeys_at n p cs o)));
        takes =
            λ n p cs o.
            takes_same (run S (start S n) cs) (run_sound cs (start S n) (start_sound n p) o)
            (subst⁻¹ (Takes O) (run_at n p cs o) (d.takes n p (map to_call cs) (obeys_at n p cs o)));
      }
    where
      run_at :
          (n : ℕ) (p : Permitted n) (cs : List (Call S)) → Obeys S (start S n) cs
          → to_state (run S (start S n) cs) ≡ run O (start O n) (map to_call cs)
      run_at n p cs o =
          run_same cs (start S n) (start_sound n p) o ∙ ap (λ x. run O x (map to_call cs)) (start_same n p)

      obeys_at : (n : ℕ) (p : Permitted n) (cs : List (Call S)) → Obeys S (start S n) cs → Obeys O (start O n) (map to_call cs)
      obeys_at n p cs o =
          subst (λ x. Obeys O x (map to_call cs)) (start_same n p) (obeys_same cs (start S n) (start_sound n p) o)
