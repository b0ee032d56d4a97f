-- A pair of ends that keeps demand 3, and whose responder looks at the number of an answer: each confirmed order shows the reply that was given
-- for it. What is asked of the responder stands in `Keeps`; the rest is the demand's. Read `Keeps` and `by_number`.
use Prim.Native.Nat.{ℕ, suc, ◌+◌, ◌≤◌}
use borrow.Author.Tests.{eqb-true, eq-eqb}
use lib.Dec.{eqb}
use lib.ListN.{length}
use mathlib.Core.Bool.{Bool, true, false, true≢false}
use mathlib.Core.List.{List, [], ◌∷◌, ◌++◌}
use mathlib.Core.Logic.{◌⊎◌, inl, inr}
use mathlib.Core.Option.{some}
use mathlib.Core.Path.{◌≡◌, refl, sym, ap, ◌∙◌, subst}
use native.Mathlib.Omega.{arith}
use Rattle.ground.specs.Pick.{if}
use Rattle.link_rules.specs.Rules.{Permitted}
use Rattle.demand_3.specs.Demand.{Demand}
use Rattle.demand_3.specs.History.{made, dropped, History, history, settled_all, submitted, counted, reported, noted, answered, opening_heard}
use Rattle.demand_3.specs.Line.{Pair, State, Call, initiator_made, submits, silent, initiator_hears, initiator_restarts, responder_made, responder_hears, answers, responder_restarts, sent_of, step, start, run, Lawful, Obeys}
use Rattle.demand_3.specs.Live.{Accepted, Silent}
use Rattle.demand_3.specs.Numbers.{Numbering, Label, Answer, Log, no_log, labelled, ordered, line_after, flat, Different, logged, answered_by, given_by, WithNumber, Comes, begins, goes_on, is_answered, AnswersByNumber}
use Rattle.demand_3.specs.Safe.{Every, entries_of, Safe}
use Rattle.demand_3.specs.Turns.{Bytes, Outcome, Told, refused, nothing, tells, Turn, refusing}
use Rattle.demand_3.proofs.Owing.{Owing}
use Rattle.demand_3.proofs.Labelled.{first, is_made, is_empty, reply_in, some_or, Shape, all_own, shape_counted, shape_reported, shape_left, shape_submitted, shape_handed, shape_more, shape_settled}

-- W says when a reply is owed; the numbers of a record begin after base
pub record Keeps (P : Pair) (N : Numbering P) (W : Owing P) (base numbers : ℕ) : Type 0 where
  -- the number of the last order handed up, as the responder's record has it
  pub last : P.Responder → ℕ
  pub made_last : last P.make_responder ≡ base
  pub restarted_last : (r : P.Responder) → last (P.responder_restart r) ≡ last r
  pub tells_number :
      (r : P.Responder) (room : P.Room) (t : P.Telegram) (q : Bytes) → (P.responder_hear r room t).says ≡ tells q
      → N.number r room t ≡ last (P.responder_hear r room t).next
  pub next_number :
      (r : P.Responder) (room : P.Room) (t : P.Telegram) (q : Bytes) → (P.responder_hear r room t).says ≡ tells q
      → suc (suc (last r)) ≤ base + numbers → last (P.responder_hear r room t).next ≡ suc (last r)
  pub same_number :
      (r : P.Responder) (room : P.Room) (t : P.Telegram) → Silent (P.responder_hear r room t).says
      → last (P.responder_hear r room t).next ≡ last r
  pub answered_last : (r : P.Responder) (room : P.Room) (p : Bytes) → W.Sound r → last (P.answer r room p).next ≡ last r
  pub refused_stays :
      (r : P.Responder) (room : P.Room) (p : Bytes) → W.Sound r → (P.answer r room p).says ≡ refused → P.answer r room p ≡ refusing r
  -- the number is looked at
  pub looks_at :
      (r : P.Responder) (room : P.Room) (k : ℕ) (p : Bytes)
      → N.answer_by r room k p ≡ if (eqb k (last r)) (P.answer r room p) (refusing r)

-- ---- runs of the pair

module _ (P : Pair) where
  run_on : (s : State P) (cs : List (Call P)) (c : Call P) → run P s (cs ++ c ∷ []) ≡ step P (run P s cs) c
  run_on s [] c = refl
  run_on s (d ∷ cs) c = run_on (step P s d) cs c

  obeys_on : (s : State P) (cs : List (Call P)) (c : Call P) → Obeys P s cs → Lawful P (run P s cs) c → Obeys P s (cs ++ c ∷ [])
  obeys_on s [] c o l = (l, tt)
  obeys_on s (d ∷ cs) c o l = (o.0, obeys_on (step P s d) cs c o.1 l)

  record Reached (s : State P) : Type 0 where
    tries : ℕ
    permitted : Permitted tries
    calls : List (Call P)
    obeys : Obeys P (start P tries) calls
    ends : run P (start P tries) calls ≡ s

  reached_on : (s : State P) → Reached s → (c : Call P) → Lawful P s c → Reached (step P s c)
  reached_on s w c l =
      record {
        tries = w.tries;
        permitted = w.permitted;
        calls = w.calls ++ c ∷ [];
        obeys = obeys_on (start P w.tries) w.calls c w.obeys (subst (λ x. Lawful P x c) (sym w.ends) l);
        ends = run_on (start P w.tries) w.calls c ∙ ap (λ x. step P x c) w.ends;
      }

  safe_at : Demand P → (s : State P) → Reached s → Safe s.past
  safe_at d s w = subst (λ x. Safe x.past) w.ends (d.safe w.tries w.permitted w.calls w.obeys)

-- ---- labels

abbrev label_of : ℕ → ℕ → Label
label_of life n = record { life = life; number = n }

-- a label of an earlier record, or of this one and no later
abbrev Below : ℕ → ℕ → Label → Type 0
Below life n l = (suc l.life ≤ life) ⊎ ((l.life ≡ life) × (l.number ≤ n))

record Apart (base life n : ℕ) (ls : List Label) : Type 0 where
  different : Different ls
  below : Every (Below life n) ls
  counted : n ≤ base + length ls

every_map : {A : Type 0} (Q R : A → Type 0) → ((a : A) → Q a → R a) → (as' : List A) → Every Q as' → Every R as'
every_map Q R f [] e = tt
every_map Q R f (a ∷ bs) e = (f a e.0, every_map Q R f bs e.1)

below_next : (life n : ℕ) (l : Label) → Below life n l → Below life (suc n) l
below_next life n l (inl e) = inl e
below_next life n l (inr e) = inr (e.0, omega (arith, e.1))

below_anew : (base life n : ℕ) (l : Label) → Below life n l → Below (suc life) base l
below_anew base life n l (inl e) = inl (omega (arith, e))
below_anew base life n l (inr e) = inl (omega (arith, e.0))

below_other : (life n : ℕ) (l : Label) → Below life n l → label_of life (suc n) ≡ l → ⊥
below_other life n l (inl e) h = omega (arith, e, ap (λ x. x.life) h)
below_other life n l (inr e) h = omega (arith, e.1, ap (λ x. x.number) h)

apart_next : (base life n : ℕ) (ls : List Label) → Apart base life n ls → Apart base life (suc n) (label_of life (suc n) ∷ ls)
apart_next base life n ls a =
    record {
      different =
          (every_map (Below life n) (λ l. label_of life (suc n) ≡ l → ⊥) (below_other life n) ls a.below, a.different);
      below = (inr (refl, omega arith), every_map (Below life n) (Below life (suc n)) (below_next life n) ls a.below);
      counted = omega (arith, a.counted);
    }

apart_anew : (base life n : ℕ) (ls : List Label) → Apart base life n ls → Apart base (suc life) base ls
apart_anew base life n ls a =
    record {
      different = a.different;
      below = every_map (Below life n) (Below (suc life) base) (below_anew base life n) ls a.below;
      counted = omega arith;
    }

-- ---- what hearing does to the history and the log

dropped_not_made : (r : Bytes) → dropped ≡ made r → ⊥
dropped_not_made r e = true≢false (sym (ap is_made e))

shape_opened :
    (gave : List Answer) (b : Bool) (x : Told Bytes) (h : History) (ms : List (List Label)) → Shape gave (entries_of h) ms
    → Shape gave (entries_of (opening_heard x b h)) ms
shape_opened gave b refused h ms sh = sh
shape_opened gave false nothing h ms sh = sh
shape_opened gave true nothing h ms sh = shape_settled gave gave (λ a w. w) dropped h ms (λ l r e f. absurd (dropped_not_made r f)) sh
shape_opened gave false (tells q) h ms sh = sh
shape_opened gave true (tells q) h ms sh = shape_settled gave gave (λ a w. w) dropped h ms (λ l r e f. absurd (dropped_not_made r f)) sh

shape_heard :
    (gave : List Answer) (b : Bool) (x : Told Bytes) (l : Label) (h : History) (ms : List (List Label)) → Shape gave (entries_of h) ms
    → Shape gave (entries_of (noted x (opening_heard x b h))) (labelled x l ms)
shape_heard gave b refused l h ms sh = sh
shape_heard gave b nothing l h ms sh = shape_opened gave b nothing h ms sh
shape_heard gave b (tells q) l h ms sh = shape_handed gave q l (opening_heard (tells q) b h) ms (shape_opened gave b (tells q) h ms sh)

-- an order is handed up only where one was submitted
no_orders :
    (gave : List Answer) (b : Bool) (q : Bytes) (h : History) → Shape gave (entries_of h) [] → Safe (noted (tells q) (opening_heard (tells q) b h))
    → ⊥
no_orders gave false q (history [] cs x) sh s = true≢false (sym (ap is_empty s.in_order))
no_orders gave true q (history [] cs x) sh s = true≢false (sym (ap is_empty s.in_order))
no_orders gave b q (history (e ∷ es) cs x) sh s = sh

flat_ordered : {A : Type 0} (x : Told A) (ms : List (List Label)) → flat (ordered x ms) ≡ flat ms
flat_ordered refused ms = refl
flat_ordered nothing ms = refl
flat_ordered (tells a) ms = refl

-- ---- the invariant

module _ (P : Pair) (N : Numbering P) (W : Owing P) (base numbers : ℕ) (d : Demand P) (K : Keeps P N W base numbers) where
  abbrev OwedLast : Log → P.Responder → Type 0
  OwedLast g r = W.owes r ≡ true → first (flat g.handed) ≡ some (label_of g.life (K.last r))

  abbrev Numbers : Log → P.Responder → Type 0
  Numbers g r = suc (length (flat g.handed)) ≤ numbers → Apart base g.life (K.last r) (flat g.handed)

  record Inv (s : State P) (g : Log) : Type 0 where
    reached : Reached P s
    sound : W.Sound s.responder
    shape : Shape g.gave (entries_of s.past) g.handed
    owing : OwedLast g s.responder
    apart : Numbers g s.responder

  begin_inv : (n : ℕ) → Permitted n → Inv (start P n) no_log
  begin_inv n p =
      record {
        reached = record { tries = n; permitted = p; calls = []; obeys = tt; ends = refl };
        sound = W.made_sound;
        shape = tt;
        owing = λ e. absurd (true≢false (sym e ∙ W.made_owes));
        apart = λ e. record { different = tt; below = tt; counted = omega (arith, K.made_last) };
      }

  module _ (s : State P) (g : Log) (v : Inv s g) where
    submits_inv : (room : P.Room) (q : Bytes) → Inv (step P s (submits room q)) (logged P N s (submits room q) g)
    submits_inv room q =
        let x = (P.submit s.initiator room q).says in
        let same = flat_ordered x g.handed in
        let y = sent_of P (P.submit s.initiator room q).writes in
        record {
          reached = reached_on P s v.reached (submits room q) tt;
          sound = v.sound;
          shape =
              shape_reported g.gave x (counted y (submitted x q s.past)) (ordered x g.handed)
              (shape_counted g.gave y (submitted x q s.past) (ordered x g.handed)
              (shape_submitted g.gave x q s.past g.handed v.shape (safe_at P d s v.reached).confirmed_reply));
          owing = λ e. ap first same ∙ v.owing e;
          apart =
              λ e.
              subst (Apart base g.life (K.last s.responder)) (sym same) (v.apart (subst (λ z. suc (length z) ≤ numbers) same e));
        }

    -- a call of the initiator that submits nothing
    initiator_inv :
        (c : Call P) → Lawful P s c → logged P N s c g ≡ g → (step P s c).responder ≡ s.responder
        → Shape g.gave (entries_of (step P s c).past) g.handed → Inv (step P s c) g
    initiator_inv c l e r sh =
        record {
          reached = reached_on P s v.reached c l;
          sound = subst W.Sound (sym r) v.sound;
          shape = sh;
          owing = subst (OwedLast g) (sym r) v.owing;
          apart = subst (Numbers g) (sym r) v.apart;
        }

    reported_shape :
        (t : Turn P.Initiator P.Telegram Outcome)
        → Shape g.gave (entries_of (reported t.says (counted (sent_of P t.writes) s.past))) g.handed
    reported_shape t =
        shape_reported g.gave t.says (counted (sent_of P t.writes) s.past) g.handed
        (shape_counted g.gave (sent_of P t.writes) s.past g.handed v.shape)

    -- the responder forgets what it owes
    made_inv : Inv (step P s responder_made) (logged P N s responder_made g)
    made_inv =
        record {
          reached = reached_on P s v.reached responder_made tt;
          sound = W.made_sound;
          shape = v.shape;
          owing = λ e. absurd (true≢false (sym e ∙ W.made_owes));
          apart =
              λ e.
              subst (λ n. Apart base (suc g.life) n (flat g.handed)) (sym K.made_last)
              (apart_anew base g.life (K.last s.responder) (flat g.handed) (v.apart e));
        }

    restarted_inv : Inv (step P s responder_restarts) g
    restarted_inv =
        record {
          reached = reached_on P s v.reached responder_restarts tt;
          sound = W.restarted_sound s.responder v.sound;
          shape = v.shape;
          owing = λ e. absurd (true≢false (sym e ∙ W.restarted_owes s.responder v.sound));
          apart = λ e. subst (λ n. Apart base g.life n (flat g.handed)) (sym (K.restarted_last s.responder)) (v.apart e);
        }

    module _ (room : P.Room) (t : P.Telegram) (lawful : Lawful P s (responder_hears room t)) where
      abbrev turn : Turn P.Responder P.Telegram Bytes
      turn = P.responder_hear s.responder room t

      abbrev label : Label
      label = label_of g.life (N.number s.responder room t)

      abbrev after : Told Bytes → Log
      after x = record { life = g.life; handed = labelled x label g.handed; gave = g.gave }

      heard_safe : Safe (noted turn.says (opening_heard turn.says (P.opens t) s.past))
      heard_safe = safe_at P d (step P s (responder_hears room t)) (reached_on P s v.reached (responder_hears room t) lawful)

      silent_owing : Silent turn.says → OwedLast g turn.next
      silent_owing q e =
          v.owing (W.owed_before s.responder room t v.sound q e)
          ∙ ap (λ n. some (label_of g.life n)) (sym (K.same_number s.responder room t q))

      silent_apart : Silent turn.says → Numbers g turn.next
      silent_apart q e =
          subst (λ n. Apart base g.life n (flat g.handed)) (sym (K.same_number s.responder room t q)) (v.apart e)

      one_ordered : (q : Bytes) → turn.says ≡ tells q → g.handed ≡ [] → ⊥
      one_ordered q e h =
          no_orders g.gave (P.opens t) q s.past (subst (Shape g.gave (entries_of s.past)) h v.shape)
          (subst (λ x. Safe (noted x (opening_heard x (P.opens t) s.past))) e heard_safe)

      told_owing : (q : Bytes) → turn.says ≡ tells q → (ms : List (List Label)) → g.handed ≡ ms → OwedLast (after (tells q)) turn.next
      told_owing q e [] h o = absurd (one_ordered q e h)
      told_owing q e (m ∷ ms) h o =
          ap (λ z. first (flat (labelled (tells q) label z))) h
          ∙ ap (λ n. some (label_of g.life n)) (K.tells_number s.responder room t q e)

      told_apart : (q : Bytes) → turn.says ≡ tells q → (ms : List (List Label)) → g.handed ≡ ms → Numbers (after (tells q)) turn.next
      told_apart q e [] h few = absurd (one_ordered q e h)
      told_apart q e (m ∷ ms) h few =
          let room' = subst (λ z. suc (length (flat (labelled (tells q) label z))) ≤ numbers) h few in
          let old = v.apart (subst (λ z. suc (length (flat z)) ≤ numbers) (sym h) (omega (arith, room'))) in
          let old' = subst (λ z. Apart base g.life (K.last s.responder) (flat z)) h old in
          let next = K.next_number s.responder room t q e (omega (arith, room', old'.counted)) in
          let new = apart_next base g.life (K.last s.responder) (flat (m ∷ ms)) old' in
          let named = K.tells_number s.responder room t q e in
          subst (λ z. Apart base g.life (K.last turn.next) (flat (labelled (tells q) label z))) (sym h)
          (subst (λ k. Apart base g.life (K.last turn.next) (label_of g.life k ∷ flat (m ∷ ms))) (sym named)
          (subst (λ k. Apart base g.life k (label_of g.life k ∷ flat (m ∷ ms))) (sym next) new))

      heard_owing : (x : Told Bytes) → turn.says ≡ x → OwedLast (after x) turn.next
      heard_owing refused e = silent_owing (subst Silent (sym e) tt)
      heard_owing nothing e = silent_owing (subst Silent (sym e) tt)
      heard_owing (tells q) e = told_owing q e g.handed refl

      heard_apart : (x : Told Bytes) → turn.says ≡ x → Numbers (after x) turn.next
      heard_apart refused e = silent_apart (subst Silent (sym e) tt)
      heard_apart nothing e = silent_apart (subst Silent (sym e) tt)
      heard_apart (tells q) e = told_apart q e g.handed refl

      heard_inv : Inv (step P s (responder_hears room t)) (logged P N s (responder_hears room t) g)
      heard_inv =
          record {
            reached = reached_on P s v.reached (responder_hears room t) lawful;
            sound = W.hears_sound s.responder room t v.sound;
            shape = shape_heard g.gave (P.opens t) turn.says label s.past g.handed v.shape;
            owing = heard_owing turn.says refl;
            apart = heard_apart turn.says refl;
          }

    goes_inv : (c : Call P) → Lawful P s c → WithNumber P N c → Inv (step P s c) (logged P N s c g)
    goes_inv (initiator_made n) l w =
        initiator_inv (initiator_made n) l refl refl (shape_left g.gave s.past g.handed v.shape)
    goes_inv (submits room q) l w = submits_inv room q
    goes_inv (silent room) l w = initiator_inv (silent room) l refl refl (reported_shape (P.silence s.initiator room))
    goes_inv (initiator_hears room t) l w =
        initiator_inv (initiator_hears room t) l refl refl (reported_shape (P.initiator_hear s.initiator room t))
    goes_inv initiator_restarts l w =
        initiator_inv initiator_restarts l refl refl (reported_shape (P.initiator_restart s.initiator))
    goes_inv responder_made l w = made_inv
    goes_inv (responder_hears room t) l w = heard_inv room t l
    goes_inv (answers room p) l w = absurd w
    goes_inv responder_restarts l w = restarted_inv

    -- an answer that is not taken
    stays_inv : (k : ℕ) (p : Bytes) → Inv s (given_by P N k p g)
    stays_inv k p =
        record {
          reached = v.reached;
          sound = v.sound;
          shape = shape_more g.gave (given_by P N k p g).gave (λ a w. inr w) (entries_of s.past) g.handed v.shape;
          owing = v.owing;
          apart = v.apart;
        }

    -- an answer with the number of the last order handed up
    module _ (room : P.Room) (p : Bytes) where
      abbrev answer : Turn P.Responder P.Telegram Bytes
      answer = P.answer s.responder room p

      abbrev its_number : ℕ
      its_number = K.last s.responder

      abbrev given : Log
      given = given_by P N its_number p g

      taken_shape : W.owes s.responder ≡ true → Shape given.gave (entries_of (settled_all (made p) s.past)) g.handed
      taken_shape o =
          shape_settled g.gave given.gave (λ a w. inr w) (made p) s.past g.handed
          (λ l r e f. inl (named l r (ap (some_or l) (sym e ∙ v.owing o)) (ap reply_in f))) v.shape
        where
          named :
              (l : Label) (r : Bytes) → l ≡ label_of g.life its_number → p ≡ r
              → ◌≡◌ {A = Answer} (record { to = l; reply = r }) (record { to = label_of g.life its_number; reply = p })
          named l r e f = λ i. record { to = e i; reply = sym f i }

      taken_inv : answer.says ≡ nothing → Inv (step P s (answers room p)) given
      taken_inv e =
          let taken = subst Accepted (sym e) tt in
          record {
            reached = reached_on P s v.reached (answers room p) tt;
            sound = W.answers_sound s.responder room p v.sound;
            shape =
                subst (λ x. Shape given.gave (entries_of (noted x (answered x p s.past))) g.handed) (sym e)
                (taken_shape (W.answers_owed s.responder room p v.sound taken));
            owing = λ o. absurd (true≢false (sym o ∙ W.owes_no_more s.responder room p v.sound taken));
            apart =
                λ few.
                subst (λ n. Apart base g.life n (flat g.handed)) (sym (K.answered_last s.responder room p v.sound)) (v.apart few);
          }

      taken_step : answer.says ≡ nothing → step P s (answers room p) ≡ answered_by P N s p answer
      taken_step e =
          λ i.
          record {
            initiator = s.initiator;
            responder = answer.next;
            line = in_flight_lem i;
            tries = s.tries;
            is_closed = s.is_closed;
            unbroken = s.unbroken;
            past = noted answer.says (answered answer.says p s.past);
          }
        where
          in_flight_lem : answer.writes ≡ line_after answer.says answer.writes s.line
          in_flight_lem = subst (λ x. answer.writes ≡ line_after x answer.writes s.line) (sym e) refl

      own_inv : (x : Told Bytes) → answer.says ≡ x → Inv (answered_by P N s p answer) given
      own_inv refused e =
          subst (λ t. Inv (answered_by P N s p t) given) (sym (K.refused_stays s.responder room p v.sound e)) (stays_inv its_number p)
      own_inv nothing e = subst (λ z. Inv z given) (taken_step e) (taken_inv e)
      own_inv (tells q) e = absurd (subst Silent e (W.answers_silent s.responder room p v.sound))

    answers_inv :
        (room : P.Room) (k : ℕ) (p : Bytes) → Inv (answered_by P N s p (N.answer_by s.responder room k p)) (given_by P N k p g)
    answers_inv room k p =
        subst (λ t. Inv (answered_by P N s p t) (given_by P N k p g)) (sym (K.looks_at s.responder room k p))
        (go (eqb k (K.last s.responder)) refl)
      where
        go :
            (b : Bool) → eqb k (K.last s.responder) ≡ b
            → Inv (answered_by P N s p (if b (P.answer s.responder room p) (refusing s.responder))) (given_by P N k p g)
        go true e =
            subst (λ n. Inv (answered_by P N s p (P.answer s.responder room p)) (given_by P N n p g))
            (sym (eqb-true k (K.last s.responder) e)) (own_inv room p (P.answer s.responder room p).says refl)
        go false e = stays_inv k p

  holds : {s : State P} {g : Log} → Comes P N s g → Inv s g
  holds (begins n p) = begin_inv n p
  holds (goes_on {s = s} {g = g} w c l b) = goes_inv s g (holds w) c l b
  holds (is_answered {s = s} {g = g} w room k p) = answers_inv s g (holds w) room k p

  -- an answer that is not taken changes nothing
  not_taken_lem :
      (r : P.Responder) (room : P.Room) (k : ℕ) (p : Bytes) → W.Sound r → (N.answer_by r room k p).says ≡ refused
      → N.answer_by r room k p ≡ refusing r
  not_taken_lem r room k p z e = K.looks_at r room k p ∙ go (eqb k (K.last r)) (sym (ap (λ t. t.says) (K.looks_at r room k p)) ∙ e)
    where
      go :
          (b : Bool) → (if b (P.answer r room p) (refusing r)).says ≡ refused
          → if b (P.answer r room p) (refusing r) ≡ refusing r
      go true h = K.refused_stays r room p z h
      go false h = refl

  its_number_lem :
      (r : P.Responder) (room into : P.Room) (t : P.Telegram) (q p : Bytes) → (P.responder_hear r room t).says ≡ tells q
      → N.answer_by (P.responder_hear r room t).next into (N.number r room t) p ≡ P.answer (P.responder_hear r room t).next into p
  its_number_lem r room into t q p e =
      let next = (P.responder_hear r room t).next in
      K.looks_at next into (N.number r room t) p
      ∙ ap (λ b. if b (P.answer next into p) (refusing next))
      (eq-eqb (N.number r room t) (K.last next) (K.tells_number r room t q e))

  pub by_number : AnswersByNumber P N numbers
  by_number =
      record {
        its_own =
            λ {s} {g} w.
            let v = holds w in
            all_own g.gave (entries_of s.past) g.handed v.shape (safe_at P d s v.reached).confirmed_reply;
        different = λ w few. ((holds w).apart few).different;
        its_number = λ {s} w room into t q p e. its_number_lem s.responder room into t q p e;
        not_taken = λ {s} w room k p e. not_taken_lem s.responder room k p (holds w).sound e;
      }
