-- The invariant of a run's state: the configuration of the two ends, the link closed and open as document 01's rule
-- has it, and the tries with which the initiator was made.
use Prim.Native.Nat.{ℕ}
use mathlib.Core.Bool.{Bool, true, false}
use mathlib.Core.List.{List, [], ◌∷◌}
use mathlib.Core.Path.{◌≡◌, refl, ◌∙◌}
use Rattle.demand_3.specs.Turns.{Bytes}
use Rattle.link_model.specs.Messages.{Message, opening, ok, order, reply, other}
use Rattle.link_model.specs.Initiator.{InitiatorTurn, Phase, closed, ready, opening_phase, order_phase, submit_in, silence_in, try_left, hear_in, restart_in}
use Rattle.demand_3.specs.Line.{State, Call, initiator_made, submits, silent, initiator_hears, initiator_restarts, responder_made, responder_hears, answers, responder_restarts, closed_by, step, run, start, Lawful, Obeys}
use Rattle.link_model.specs.Ours.{ours}
use Rattle.link_model.proofs.Invariant.{empty, none_c, Inv, at_rest}
use Rattle.link_model.proofs.Steps.{Rule, hushed, submit_keeps, silence_keeps, restart_keeps, made_keeps, answer_keeps, row_made_keeps, heard_keeps, attended_keeps}

-- after a turn of the initiator the link is closed and open by the rule, and the tries are the same
abbrev Held : ℕ → Bool → InitiatorTurn → Type 0
Held n c t = Rule t.next.phase (closed_by t.says c) × (n ≡ t.next.tries)

submit_held : (n : ℕ) (p : Phase) (q : Bytes) (c : Bool) → Rule p c → Held n c (submit_in n p q)
submit_held n closed q c e = (e, refl)
submit_held n (ready b) q c e = (tt, refl)
submit_held n (opening_phase x k) q c e = (e, refl)
submit_held n (order_phase b x k) q c e = (tt, refl)

silence_held : (more : Bool) (n : ℕ) (p : Phase) (c : Bool) → Rule p c → Held n c (silence_in more n p)
silence_held more n closed c e = (e, refl)
silence_held more n (ready b) c e = (e, refl)
silence_held true n (opening_phase q k) c e = (e, refl)
silence_held false n (opening_phase q k) c e = (refl, refl)
silence_held true n (order_phase b q k) c e = (tt, refl)
silence_held false n (order_phase b q k) c e = (refl, refl)

hear_held : (n : ℕ) (p : Phase) (m : Message) (c : Bool) → Rule p c → Held n c (hear_in n p m)
hear_held n closed m c e = (e, refl)
hear_held n (ready b) m c e = (e, refl)
hear_held n (opening_phase q k) opening c e = (e, refl)
hear_held n (opening_phase q k) ok c e = (tt, refl)
hear_held n (opening_phase q k) (order b p) c e = (e, refl)
hear_held n (opening_phase q k) (reply p) c e = (e, refl)
hear_held n (opening_phase q k) other c e = (e, refl)
hear_held n (order_phase b q k) opening c e = (tt, refl)
hear_held n (order_phase b q k) ok c e = (tt, refl)
hear_held n (order_phase b q k) (order x p) c e = (tt, refl)
hear_held n (order_phase b q k) (reply p) c e = (refl, refl)
hear_held n (order_phase b q k) other c e = (tt, refl)

restart_held : (n : ℕ) (p : Phase) → Held n true (restart_in n p)
restart_held n closed = (refl, refl)
restart_held n (ready b) = (refl, refl)
restart_held n (opening_phase q k) = (refl, refl)
restart_held n (order_phase b q k) = (refl, refl)

pub record InvOf (s : State ours) : Type 0 where
  pub ends : Inv s.initiator.phase s.responder s.line s.past s.unbroken
  pub rule : Rule s.initiator.phase s.is_closed
  pub tries : s.tries ≡ s.initiator.tries

pub step_keeps : (s : State ours) (c : Call ours) → InvOf s → Lawful ours s c → InvOf (step ours s c)
step_keeps s (initiator_made n) v y = record { ends = made_keeps v.ends; rule = refl; tries = refl }
step_keeps s (submits true q) v y =
    let h = submit_held s.initiator.tries s.initiator.phase q s.is_closed v.rule in
    record {
      ends = submit_keeps s.initiator.tries q s.is_closed v.rule v.ends;
      rule = h.0;
      tries = v.tries ∙ h.1;
    }
step_keeps s (submits false q) v y = record { ends = hushed v.ends; rule = v.rule; tries = v.tries }
step_keeps s (silent true) v y =
    let more = try_left s.initiator.tries s.initiator.phase in
    let h = silence_held more s.initiator.tries s.initiator.phase s.is_closed v.rule in
    record { ends = silence_keeps more s.initiator.tries v.ends; rule = h.0; tries = v.tries ∙ h.1 }
step_keeps s (silent false) v y = record { ends = hushed v.ends; rule = v.rule; tries = v.tries }
step_keeps s (initiator_hears true m) v y =
    let h = hear_held s.initiator.tries s.initiator.phase m s.is_closed v.rule in
    record { ends = heard_keeps s.initiator m v.ends y; rule = h.0; tries = v.tries ∙ h.1 }
step_keeps s (initiator_hears false m) v y = record { ends = hushed v.ends; rule = v.rule; tries = v.tries }
step_keeps s initiator_restarts v y =
    let h = restart_held s.initiator.tries s.initiator.phase in
    record { ends = restart_keeps s.initiator.tries v.ends; rule = h.0; tries = v.tries ∙ h.1 }
step_keeps s responder_made v y = record { ends = row_made_keeps v.ends; rule = v.rule; tries = v.tries }
step_keeps s (responder_hears true m) v y = record { ends = attended_keeps m v.ends y; rule = v.rule; tries = v.tries }
step_keeps s (responder_hears false m) v y = record { ends = hushed v.ends; rule = v.rule; tries = v.tries }
step_keeps s (answers true p) v y = record { ends = answer_keeps p v.ends; rule = v.rule; tries = v.tries }
step_keeps s (answers false p) v y = record { ends = hushed v.ends; rule = v.rule; tries = v.tries }
step_keeps s responder_restarts v y = record { ends = row_made_keeps v.ends; rule = v.rule; tries = v.tries }

run_keeps : (cs : List (Call ours)) (s : State ours) → InvOf s → Obeys ours s cs → InvOf (run ours s cs)
run_keeps [] s v o = v
run_keeps (c ∷ cs) s v o = run_keeps cs (step ours s c) (step_keeps s c v o.0) o.1

-- it holds after every run
pub always : (n : ℕ) (cs : List (Call ours)) → Obeys ours (start ours n) cs → InvOf (run ours (start ours n) cs)
always n cs o = run_keeps cs (start ours n) (record { ends = at_rest empty none_c; rule = refl; tries = refl }) o
