-- The guarded calls: the pair of ends that they make follows the calls by value, and so keeps demand 3; and where the application answers by
-- number, each confirmed order shows the reply that was given for it. Read `demand_3` and `by_number`.
use Prim.Native.Nat.{ℕ, suc, ◌+◌, ◌≤◌}
use mathlib.Core.Bool.{Bool, true, false, true≢false}
use mathlib.Core.List.{List, [], ◌∷◌}
use mathlib.Core.Option.{Option, none, some, map}
use mathlib.Core.Path.{◌≡◌, refl, sym, ap, ◌∙◌, subst, subst⁻¹}
use native.Mathlib.Omega.{arith}
use lib.Dec.{eqb, leb}
use lib.ListN.{take}
use borrow.Author.Tests.{eqb-true, eq-eqb, lt-leb, lt-ltb}
use Rattle.demand_3.proofs.ByNumber as numbers
use Rattle.demand_3.proofs.ByNumber.{Keeps}
use Rattle.demand_3.proofs.Follows.{Written, Same, Follows}
use Rattle.demand_3.proofs.Owing.{Owing, owing_same}
use Rattle.demand_3.proofs.Transfer.{demand_same}
use Rattle.demand_3.specs.Demand.{Demand}
use Rattle.demand_3.specs.Live.{Silent}
use Rattle.demand_3.specs.Numbers.{AnswersByNumber}
use Rattle.demand_3.specs.Line.{Pair}
use Rattle.demand_3.specs.Turns as demand
use Rattle.demand_3.specs.Turns.{Told, refused, nothing, tells, Turn, refusing}
use Rattle.guards.specs.Guards.{handed_of, next_of, number_after, number_told}
use Rattle.exports_guarded.specs.InitiatorCalls.{stamped}
use Rattle.exports_guarded.specs.ResponderCalls.{numbered}
use Rattle.exports_link.specs.Calls.{Call, is_refusal, unless_refused, new_call, crossed}
use Rattle.exports_link.specs.InitiatorBytes.{initiator_of}
use Rattle.exports_link.specs.InitiatorCalls.{koy_initiator_submit, koy_initiator_silence, koy_initiator_hear}
use Rattle.exports_link.specs.ResponderBytes.{responder_of}
use Rattle.exports_link.specs.ResponderCalls.{responder_crosses, koy_responder_hear, koy_responder_answer}
use Rattle.exports_link.proofs.InitiatorLossless.{SmallOrder, submit_small, silence_small, hear_small, restart_small, made_small}
use Rattle.exports_link.proofs.ResponderLossless.{SizedRow, hear_kept, answer_kept, blank_sized}
use Rattle.exports_link_theorem.proofs.Crossings.{refusal_unsent, refusal_unhanded, refusal_some, initiator_crossed, responder_crossed}
use Rattle.exports_link_theorem.proofs.Fair.{FairlySaid, submit_fair, silence_fair, initiator_hear_fair, restart_fair, responder_hear_fair, answer_fair}
use Rattle.exports_link_theorem.proofs.Theorem as plain
use Rattle.exports_link_theorem.specs.ExportedLink.{Found, number, wrote_of, heard_part, done_of, outcome_of, order_of, turn_of}
use Rattle.exports_guarded_theorem.specs.GuardedLink.{Lent, GuardedInitiator, GuardedResponder, guard_of, stamp_of, received_at, unguarded, initiator_turn, responder_turn, hears, answers_with, guarded_link, link_by_number}
use Rattle.ground.specs.Pick.{if}
use Rattle.ground.specs.declared.part.Part.{Part}
use Rattle.initiator.specs.Calls as initiator
use Rattle.initiator.specs.declared.state.Initiator as initiatorRecord
use Rattle.link_rules.specs.Rules.{Linked}
use Rattle.link_rules.specs.declared.link.Link.{Link}
use Rattle.link_telegrams.proofs.HeardLaws.{Within}
use Rattle.link_telegrams.specs.Turns as call
use Rattle.link_theorem.proofs.Theorem as byValue
use Rattle.link_theorem.specs.OrderLink.{order_link}
use Rattle.responder.specs.Calls as responder
use Rattle.responder.specs.declared.state.Responder.{Responder}

-- ---- bytes that were received after the last telegram are not stale

fresh : (last later : ℕ) → leb (received_at last later) last ≡ false
fresh last later = lt-leb (received_at last later) last (omega arith)

-- ---- what a driver reads of a numbered call is what it reads of the call

module _ (guard : List ℕ) (moment : ℕ) (told : List ℕ) (c : Call) where
  abbrev three : List ℕ
  three = number c.told 0 ∷ number c.told 1 ∷ number_told c.code (handed_of guard) ∷ []

  told_after : is_refusal c.code ≡ false → unless_refused c.code told three ≡ three
  told_after e = ap (λ b. if b told three) e

  wrote_same : wrote_of (unguarded (numbered guard moment told c)) ≡ wrote_of c
  wrote_same = go (eqb c.code 102) refl
    where
      go :
          (b : Bool) → eqb c.code 102 ≡ b
          → if b (some (take (number (unless_refused c.code told three) 0) c.buffer)) none
          ≡ if b (some (take (number c.told 0) c.buffer)) none
      go true e = ap (λ xs. some (take (number xs 0) c.buffer)) (told_after (ap is_refusal (eqb-true c.code 102 e)))
      go false e = refl

  order_same : (heard : List ℕ) → order_of heard (unguarded (numbered guard moment told c)) ≡ order_of heard c
  order_same heard = go (eqb c.code 106) refl
    where
      go :
          (b : Bool) → eqb c.code 106 ≡ b
          → if b (tells (heard_part heard (unguarded (numbered guard moment told c)))) (done_of c.code)
          ≡ if b (tells (heard_part heard c)) (done_of c.code)
      go true e = ap (λ xs. tells (heard_part heard (record { code = c.code; told = xs; state = c.state; buffer = c.buffer }))) (told_after (ap is_refusal (eqb-true c.code 106 e)))
      go false e = refl

-- ---- a guarded call, seen as the call by value

abbrev InitiatorSame : (t : Turn GuardedInitiator (List ℕ) demand.Outcome) (u : Turn initiatorRecord.Initiator (List ℕ) demand.Outcome) → Type 0
InitiatorSame t u = Same (λ i. initiator_of i.state) (λ s. s) (λ i. SmallOrder (initiator_of i.state)) (λ (s : List ℕ). Unit {0}) t u

abbrev ResponderSame : (t : Turn GuardedResponder (List ℕ) (List ℕ)) (u : Turn Responder (List ℕ) (List ℕ)) → Type 0
ResponderSame t u = Same (λ r. responder_of r.state) (λ s. s) (λ r. SizedRow (responder_of r.state)) (λ (s : List ℕ). Unit {0}) t u

initiator_guarded :
    (heard : List ℕ) (last : List ℕ) (moment : ℕ) (c : Call) (u : Turn initiatorRecord.Initiator (List ℕ) demand.Outcome)
    → Same initiator_of (λ s. s) (λ s. SmallOrder (initiator_of s)) (λ (s : List ℕ). Unit {0}) (turn_of (outcome_of heard) c) u
    → InitiatorSame (initiator_turn (outcome_of heard) (stamped last moment c)) u
initiator_guarded heard last moment c u m = record { same = m.same; sound_next = m.sound_next; sound_writes = m.sound_writes }

responder_guarded :
    (heard : List ℕ) (guard : List ℕ) (moment : ℕ) (told : List ℕ) (c : Call) (u : Turn Responder (List ℕ) (List ℕ))
    → Same responder_of (λ s. s) (λ s. SizedRow (responder_of s)) (λ (s : List ℕ). Unit {0}) (turn_of (order_of heard) c) u
    → ResponderSame (responder_turn (order_of heard) (numbered guard moment told c)) u
responder_guarded heard guard moment told c u m =
    record {
      same =
          (λ i.
          record {
            next = responder_of c.state;
            writes = map (λ s. s) (wrote_same guard moment told c i);
            says = order_same guard moment told c heard i;
          })
          ∙ m.same;
      sound_next = m.sound_next;
      sound_writes = any_written (wrote_of (unguarded (numbered guard moment told c)));
    }
  where
    any_written : (w : Option (List ℕ)) → Written (λ (s : List ℕ). Unit {0}) w
    any_written none = tt
    any_written (some s) = tt

module _ (found : Found) (moment : ℕ) (link : Link) (linked : Linked link) where
  abbrev here : Pair
  here = guarded_link found moment link

  -- what is heard was received after the last telegram
  initiator_fresh :
      (i : GuardedInitiator) (lent : Lent) (s : List ℕ)
      → here.initiator_hear i lent s
      ≡ initiator_turn (outcome_of s) (stamped (stamp_of i) lent.moment (koy_initiator_hear i.state s lent.buffer lent.told))
  initiator_fresh i lent s = rw (fresh i.last lent.later)

  heard_fresh :
      (r : GuardedResponder) (lent : Lent) (s : List ℕ)
      → hears r lent s ≡ numbered (guard_of r) lent.moment lent.told (koy_responder_hear r.state s lent.buffer (0 ∷ 0 ∷ []))
  heard_fresh r lent s = rw (fresh r.last lent.later)

  -- an answer with its own number
  answered_own :
      (r : GuardedResponder) (lent : Lent) (p : List ℕ)
      → answers_with r lent r.handed p
      ≡ numbered (guard_of r) lent.moment lent.told (koy_responder_answer r.state p lent.buffer (0 ∷ 0 ∷ []))
  answered_own r lent p = rw (eq-eqb r.handed r.handed refl)

  guarded_follows : Follows here (order_link link)
  guarded_follows =
      record {
        view_initiator = λ i. initiator_of i.state;
        view_responder = λ r. responder_of r.state;
        view_telegram = λ s. s;
        view_room = λ lent. lent.buffer;
        view_submit = λ lent q. lent.buffer;
        view_answer = λ lent p. lent.buffer;
        SoundInitiator = λ i. SmallOrder (initiator_of i.state);
        SoundResponder = λ r. SizedRow (responder_of r.state);
        SoundTelegram = λ s. Unit {0};
        same_opens = λ s. refl;
        same_enough = λ lent. refl;
        same_answerable = λ p e. e;
        enough_answer = λ lent p e f. e;
        same_orderable = λ q e. e;
        enough_submit = λ lent q e f. e;
        made_initiator = plain.initiator_made_lem found link linked;
        made_sound = λ n p. subst⁻¹ SmallOrder (plain.initiator_made_lem found link linked n p) (made_small link n);
        submits =
            λ i lent q z.
            let x = initiator_of i.state in
            initiator_guarded [] (stamp_of i) lent.moment (koy_initiator_submit i.state q lent.buffer lent.told) _
            (initiator_crossed [] i.state lent.told z (initiator.submit_of x q lent.buffer) (submit_fair [] x q lent.buffer)
            (submit_small x z q lent.buffer));
        silence =
            λ i lent z.
            let x = initiator_of i.state in
            initiator_guarded [] (stamp_of i) lent.moment (koy_initiator_silence i.state lent.buffer lent.told) _
            (initiator_crossed [] i.state lent.told z (initiator.silence_of x lent.buffer) (silence_fair [] x lent.buffer)
            (silence_small x z lent.buffer));
        initiator_hears =
            λ i lent s z h.
            let x = initiator_of i.state in
            subst⁻¹ (λ t. InitiatorSame t ((order_link link).initiator_hear x lent.buffer s)) (initiator_fresh i lent s)
            (initiator_guarded s (stamp_of i) lent.moment (koy_initiator_hear i.state s lent.buffer lent.told) _
            (initiator_crossed s i.state lent.told z (initiator.hear_of x s lent.buffer) (initiator_hear_fair s x lent.buffer)
            (hear_small x z s lent.buffer)));
        initiator_restarts =
            λ i z.
            let x = initiator_of i.state in
            let m = initiator_crossed [] i.state found.told z (initiator.restart_of x) (restart_fair [] x) (restart_small x z) in
            record { same = m.same; sound_next = m.sound_next; sound_writes = m.sound_writes };
        stray_to_initiator = λ i s z e. e;
        made_responder = plain.responder_made_lem found link linked;
        responder_sound = subst⁻¹ SizedRow (plain.responder_made_lem found link linked) (plain.responder_made_sized found link linked);
        responder_hears =
            λ r lent s z h.
            let x = responder_of r.state in
            subst⁻¹ (λ c. ResponderSame (responder_turn (order_of s) c) ((order_link link).responder_hear x lent.buffer s)) (heard_fresh r lent s)
            (responder_guarded s (guard_of r) lent.moment lent.told (koy_responder_hear r.state s lent.buffer (0 ∷ 0 ∷ [])) _
            (responder_crossed s r.state (0 ∷ 0 ∷ []) z (responder.hear_of x s lent.buffer) (responder_hear_fair s x lent.buffer)
            (hear_kept x z s lent.buffer)));
        answers =
            λ r lent p z.
            let x = responder_of r.state in
            subst⁻¹ (λ c. ResponderSame (responder_turn (order_of []) c) ((order_link link).answer x lent.buffer p)) (answered_own r lent p)
            (responder_guarded [] (guard_of r) lent.moment lent.told (koy_responder_answer r.state p lent.buffer (0 ∷ 0 ∷ [])) _
            (responder_crossed [] r.state (0 ∷ 0 ∷ []) z (responder.answer_of x p lent.buffer) (answer_fair [] x p lent.buffer)
            (answer_kept x z p lent.buffer)));
        responder_restarts = λ r z. (plain.restart_again r.state, subst⁻¹ SizedRow (plain.restart_again r.state) blank_sized);
        stray_to_responder = λ r s z e. e;
      }

  -- Demand 3, of the guarded calls.
  pub demand_3 : Demand here
  demand_3 = demand_same here (order_link link) guarded_follows (byValue.demand_3 link linked)

  guarded_owing : Owing here
  unfolding guarded_follows
  guarded_owing = owing_same here (order_link link) guarded_follows (λ s. tt) (byValue.owing link linked)

-- ---- numbers

abbrev is_tells : {A : Type 0} → Told A → Bool
is_tells refused = false
is_tells nothing = false
is_tells (tells a) = true

done_silent : (code : ℕ) → is_tells (done_of {Tale = List ℕ} code) ≡ false
done_silent code = go (eqb code 0) (eqb code 102)
  where
    go : (a b : Bool) → is_tells {A = List ℕ} (if a nothing (if b nothing refused)) ≡ false
    go true b = refl
    go false true = refl
    go false false = refl

silent_untold : {A : Type 0} (x : Told A) → Silent x → is_tells x ≡ false
silent_untold refused q = refl
silent_untold nothing q = refl
silent_untold (tells a) q = absurd q

-- an order is told with its code, and with no other
told_by : (heard : List ℕ) (c : Call) → is_tells (order_of heard c) ≡ eqb c.code 106
told_by heard c = go (eqb c.code 106)
  where
    go : (b : Bool) → is_tells (if b (tells (heard_part heard c)) (done_of c.code)) ≡ b
    go true = refl
    go false = done_silent c.code

module _ (heard : List ℕ) (c : Call) where
  told_code : (q : List ℕ) → order_of heard c ≡ tells q → eqb c.code 106 ≡ true
  told_code q e = sym (told_by heard c) ∙ ap is_tells e

  silent_code : Silent (order_of heard c) → eqb c.code 106 ≡ false
  silent_code q = sym (told_by heard c) ∙ silent_untold (order_of heard c) q

-- the next number, as long as there is one
next_number_lem : (n base count : ℕ) → base + count ≤ 18446744073709551616 → suc (suc n) ≤ base + count → next_of n ≡ suc n
next_number_lem n base count most few = rw (lt-ltb n 18446744073709551615 (omega (arith, most, few))) (omega arith)

module _ (guard : List ℕ) (moment : ℕ) (told : List ℕ) (c : Call) where
  number_told_lem : eqb c.code 106 ≡ true → number (numbered guard moment told c).told 2 ≡ number_after c.code (handed_of guard)
  number_told_lem e =
      ap (λ xs. number xs 2) (told_after guard moment told c (ap is_refusal (eqb-true c.code 106 e)))
      ∙ ap (λ b. if b (next_of (handed_of guard)) 0) e
      ∙ sym (ap (λ b. if b (next_of (handed_of guard)) (handed_of guard)) e)

abbrev is_refused : {A : Type 0} → Told A → Bool
is_refused refused = true
is_refused nothing = false
is_refused (tells a) = false

module _ (found : Found) (moment count : ℕ) (enough : moment + count ≤ 18446744073709551616) (link : Link) (linked : Linked link) where
  abbrev the_link : Pair
  the_link = guarded_link found moment link

  abbrev heard_call : GuardedResponder → Lent → List ℕ → Call
  heard_call r lent s = koy_responder_hear r.state s lent.buffer (0 ∷ 0 ∷ [])

  abbrev answered_call : GuardedResponder → Lent → List ℕ → Call
  answered_call r lent p = koy_responder_answer r.state p lent.buffer (0 ∷ 0 ∷ [])

  -- what hearing says is what the call without a guard says
  hear_says : (r : GuardedResponder) (lent : Lent) (s : List ℕ) → (the_link.responder_hear r lent s).says ≡ order_of s (heard_call r lent s)
  hear_says r lent s =
      ap (λ c. order_of s (unguarded c)) (heard_fresh found moment link linked r lent s)
      ∙ order_same (guard_of r) lent.moment lent.told (heard_call r lent s) s

  hear_handed :
      (r : GuardedResponder) (lent : Lent) (s : List ℕ)
      → (the_link.responder_hear r lent s).next.handed ≡ number_after (heard_call r lent s).code r.handed
  hear_handed r lent s = ap (λ c. handed_of c.guard) (heard_fresh found moment link linked r lent s)

  hear_number :
      (r : GuardedResponder) (lent : Lent) (s : List ℕ) → eqb (heard_call r lent s).code 106 ≡ true
      → (link_by_number found moment link).number r lent s ≡ number_after (heard_call r lent s).code r.handed
  hear_number r lent s e =
      ap (λ c. number c.told 2) (heard_fresh found moment link linked r lent s)
      ∙ number_told_lem (guard_of r) lent.moment lent.told (heard_call r lent s) e

  answer_says : (r : GuardedResponder) (lent : Lent) (p : List ℕ) → (the_link.answer r lent p).says ≡ order_of [] (answered_call r lent p)
  answer_says r lent p =
      ap (λ c. order_of [] (unguarded c)) (answered_own found moment link linked r lent p)
      ∙ order_same (guard_of r) lent.moment lent.told (answered_call r lent p) []

  answer_handed :
      (r : GuardedResponder) (lent : Lent) (p : List ℕ)
      → (the_link.answer r lent p).next.handed ≡ number_after (answered_call r lent p).code r.handed
  answer_handed r lent p = ap (λ c. handed_of c.guard) (answered_own found moment link linked r lent p)

  made_handed : the_link.make_responder.handed ≡ moment
  unfolding new_call
  made_handed = rw (plain.turned_made found link linked)

  -- an answer that is refused leaves bytes and guard
  said_stays :
      (r : GuardedResponder) (lent : Lent) (said : call.Said Part) (end : Responder) (buf : List ℕ)
      → FairlySaid (Within []) (responder_of r.state) said end
      → order_of [] (crossed responder_crosses r.state (0 ∷ 0 ∷ []) (record { said = said; end = end; buffer = buf })) ≡ refused
      → responder_turn (order_of [])
      (numbered (guard_of r) lent.moment lent.told
      (crossed responder_crosses r.state (0 ∷ 0 ∷ []) (record { said = said; end = end; buffer = buf })))
      ≡ refusing r
  unfolding crossed
  said_stays r lent (call.sent n) end buf f h = absurd (true≢false (sym (ap is_refused h)))
  said_stays r lent (call.tells q) end buf f h = absurd (true≢false (sym (ap is_refused h)))
  said_stays r lent call.nothing end buf f h = absurd (true≢false (sym (ap is_refused h)))
  said_stays r lent (call.refused n) end buf f h =
      rw (f.0, refusal_unsent n f.0, refusal_unhanded n f.0, refusal_some n f.0)

  refused_stays_lem :
      (r : GuardedResponder) (lent : Lent) (p : List ℕ) → (the_link.answer r lent p).says ≡ refused → the_link.answer r lent p ≡ refusing r
  refused_stays_lem r lent p e =
      let t = responder.answer_of (responder_of r.state) p lent.buffer in
      ap (responder_turn (order_of [])) (answered_own found moment link linked r lent p)
      ∙ said_stays r lent t.said t.end t.buffer (answer_fair [] (responder_of r.state) p lent.buffer).said
      (sym (answer_says r lent p) ∙ e)

  looks_at_lem :
      (r : GuardedResponder) (lent : Lent) (k : ℕ) (p : List ℕ)
      → (link_by_number found moment link).answer_by r lent k p ≡ if (eqb k r.handed) (the_link.answer r lent p) (refusing r)
  looks_at_lem r lent k p = go (eqb k r.handed)
    where
      go :
          (b : Bool)
          → responder_turn (order_of [])
          (if b (numbered (guard_of r) lent.moment lent.told (answered_call r lent p))
          (record { code = 21; told = lent.told; state = r.state; guard = guard_of r; buffer = lent.buffer }))
          ≡ if b (the_link.answer r lent p) (refusing r)
      go true = sym (ap (responder_turn (order_of [])) (answered_own found moment link linked r lent p))
      go false = refl

  keeps : Keeps the_link (link_by_number found moment link) (guarded_owing found moment link linked) moment count
  keeps =
      record {
        last = λ r. r.handed;
        made_last = made_handed;
        restarted_last = λ r. refl;
        tells_number =
            λ r lent s q e.
            let t = told_code s (heard_call r lent s) q (sym (hear_says r lent s) ∙ e) in
            hear_number r lent s t ∙ sym (hear_handed r lent s);
        next_number =
            λ r lent s q e few.
            let t = told_code s (heard_call r lent s) q (sym (hear_says r lent s) ∙ e) in
            hear_handed r lent s ∙ ap (λ b. if b (next_of r.handed) r.handed) t ∙ next_number_lem r.handed moment count enough few;
        same_number =
            λ r lent s q.
            hear_handed r lent s
            ∙ ap (λ b. if b (next_of r.handed) r.handed) (silent_code s (heard_call r lent s) (subst Silent (hear_says r lent s) q));
        answered_last =
            λ r lent p z.
            answer_handed r lent p
            ∙ ap (λ b. if b (next_of r.handed) r.handed)
            (silent_code [] (answered_call r lent p) (subst Silent (answer_says r lent p) ((guarded_owing found moment link linked).answers_silent r lent p z)));
        refused_stays = λ r lent p z e. refused_stays_lem r lent p e;
        looks_at = looks_at_lem;
      }

  -- Where the application answers by number, each confirmed order shows the reply that was given for its own handing up, whatever else is
  -- answered and when; as long as a record hands up no more than count orders.
  pub by_number : AnswersByNumber the_link (link_by_number found moment link) count
  by_number =
      numbers.by_number the_link (link_by_number found moment link) (guarded_owing found moment link linked) moment count
      (demand_3 found moment link linked) keeps
