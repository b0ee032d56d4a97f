-- Responders on messages that number what they hand up, wrongly: the number of an answer is not looked at; it is the number of the handing up
-- before; each handing up has the same; an answer with another number drops the debt. For each of them `AnswersByNumber` is refuted, by the run
-- of a slow cabinet: the application finishes its first order after the second was handed up.
use Prim.Native.Nat.{ℕ, suc, ◌≤◌}
use lib.Dec.{eqb}
use mathlib.Core.Bool.{Bool, true, false, true≢false}
use mathlib.Core.List.{List, [], ◌∷◌}
use mathlib.Core.Logic.{inl, inr}
use mathlib.Core.Path.{◌≡◌, refl, ap}
use native.Mathlib.Omega.{arith}
use Rattle.ground.specs.Pick.{if}
use Rattle.demand_3.specs.Line.{State, Call, submits, silent, initiator_hears, responder_hears, step, start, in_flight, Lawful}
use Rattle.demand_3.specs.Numbers.{Numbering, Label, Answer, Log, logged, WithNumber, Among, no_log, Comes, begins, goes_on, is_answered, AnswersByNumber}
use Rattle.demand_3.specs.Turns.{Bytes, Told, refused, nothing, tells, Turn, refusing}
use Rattle.link_model.proofs.Wrong.Tools.{one_try}
use Rattle.link_model.specs.Counting.{Counting, counting, by_count}
use Rattle.link_model.specs.Messages.{Message, opening, ok, order, reply, low}
use Rattle.link_model.specs.Ours.{ours}
use Rattle.link_model.specs.Responder.{Row, blank, opened, owes, holds}

abbrev number_in : List Label → ℕ
number_in [] = 0
number_in (l ∷ ls) = l.number

abbrev is_refused : {A : Type 0} → Told A → Bool
is_refused refused = true
is_refused nothing = false
is_refused (tells a) = false

abbrev is_opened : Row → Bool
is_opened blank = false
is_opened opened = true
is_opened (owes b) = false
is_opened (holds b p) = false

-- ours, but for the number that hearing gives and what an answer by number does
module _ (number : Counting Row → ℕ) (answer_by : Counting Row → Bool → ℕ → Bytes → Turn (Counting Row) Message Bytes) where
  abbrev numbered : Numbering (counting ours)
  numbered = record { number = λ r room t. number r; answer_by = answer_by }

  -- what a run has come to
  record Been : Type 0 where
    state : State (counting ours)
    log : Log
    came : Comes (counting ours) numbered state log

  abbrev on : (b : Been) (c : Call (counting ours)) → Lawful (counting ours) b.state c → WithNumber (counting ours) numbered c → Been
  on b c l w =
      record {
        state = step (counting ours) b.state c;
        log = logged (counting ours) numbered b.state c b.log;
        came = goes_on b.came c l w;
      }

  -- the first order is submitted, and its opening passes
  abbrev first_sent : Been
  first_sent =
      on
      (on
      (on (record { state = start (counting ours) 1; log = no_log; came = begins 1 one_try }) (submits true (1 ∷ [])) tt tt)
      (responder_hears true opening) in_flight tt)
      (initiator_hears true ok) in_flight tt

  -- it is handed up, and the application takes its time
  abbrev first_handed : Been
  first_handed = on first_sent (responder_hears true (order low (1 ∷ []))) in_flight tt

  -- the head end reports unknown; a second order is submitted, and handed up after an opening
  abbrev second_handed : Been
  second_handed =
      on
      (on
      (on (on (on first_handed (silent true) tt tt) (submits true (2 ∷ [])) tt tt) (responder_hears true opening) in_flight tt)
      (initiator_hears true ok) in_flight tt)
      (responder_hears true (order low (2 ∷ []))) in_flight tt

abbrev first_answer : Answer
first_answer = record { to = record { life = 0; number = 1 }; reply = 7 ∷ [] }

-- The number is not looked at: the answer to the first order is taken for the second, which is confirmed with it.
abbrev unlooked : Numbering (counting ours)
unlooked = numbered (λ r. suc r.handed) (λ r room k p. (counting ours).answer r room p)

pub number_not_looked_at : (n : ℕ) → AnswersByNumber (counting ours) unlooked n → ⊥
number_not_looked_at n a =
    let b = second_handed (λ r. suc r.handed) (λ r room k p. (counting ours).answer r room p) in
    let w = goes_on (is_answered b.came true 1 (7 ∷ [])) (initiator_hears true (reply (7 ∷ []))) in_flight tt in
    let own = (a.its_own w).0 (7 ∷ []) 1 refl in
    given_first own.0 (ap number_in own.1) own.2
  where
    given_first : (l : Label) → 2 ≡ l.number → Among (record { to = l; reply = 7 ∷ [] }) (first_answer ∷ []) → ⊥
    given_first l e (inl h) = omega (arith, e, ap (λ x. x.to.number) h)
    given_first l e (inr h) = h

-- The number of the handing up before: an answer with the number that hearing gave is refused.
abbrev behind : Numbering (counting ours)
behind = numbered (λ r. r.handed) (by_count ours).answer_by

pub number_of_the_one_before : (n : ℕ) → AnswersByNumber (counting ours) behind n → ⊥
number_of_the_one_before n a =
    let b = first_sent (λ r. r.handed) (by_count ours).answer_by in
    true≢false (ap (λ t. is_refused t.says) (a.its_number b.came true true (order low (1 ∷ [])) (1 ∷ []) (7 ∷ []) refl))

-- Each handing up has the same number.
abbrev alike : Numbering (counting ours)
alike = numbered (λ r. 1) (λ r room k p. (counting ours).answer r room p)

pub one_number_for_all : (n : ℕ) → 3 ≤ n → AnswersByNumber (counting ours) alike n → ⊥
one_number_for_all n few a =
    let b = second_handed (λ r. 1) (λ r room k p. (counting ours).answer r room p) in (a.different b.came few).0.0 refl

-- An answer with another number drops the debt.
abbrev dropping : Counting Row → Bool → ℕ → Bytes → Turn (Counting Row) Message Bytes
dropping r room k p =
    if (eqb k r.handed) ((counting ours).answer r room p) (refusing (record { end = opened; handed = r.handed }))

pub wrong_number_drops : (n : ℕ) → AnswersByNumber (counting ours) (numbered (λ r. suc r.handed) dropping) n → ⊥
wrong_number_drops n a =
    let b = first_handed (λ r. suc r.handed) dropping in
    true≢false (ap (λ t. is_opened t.next.end) (a.not_taken b.came true 0 (7 ∷ []) refl))
