-- A row of steps in which silence is reported fewer times than the initiator has tries: with every such number it has the same telegrams, and
-- ends on the same stage but for the number itself. Read `same_telegrams` and `same_end`.
use Prim.Native.Nat.{ℕ, ◌+◌, ◌<◌, ◌≤◌}
use mathlib.Core.List.{List, [], ◌∷◌}
use mathlib.Core.Path.{◌≡◌, refl, sym, ap, ◌∙◌}
use native.Mathlib.Omega.{arith}
use Rattle.initiator.proofs.RecordLaws.{made_closed}
use Rattle.initiator.proofs.TriesLaws.{tried, again_of, submit_tried, hear_tried, restart_tried, silence_tried, Within, submit_within, hear_within, restart_within, again_within}
use Rattle.initiator.specs.Records.{closed_of, used_of}
use Rattle.initiator.specs.declared.state.Initiator.{Initiator}
use Rattle.link_rules.specs.Rules.{Linked, Permitted, most_tries}
use Rattle.stage.specs.Rows.{Step, head_end_submits, head_end_hears_nothing, head_end_hears, head_end_calls_restart, head_end_made_anew, cabinet_hears, cabinet_answers, cabinet_restarts, cabinet_made_anew, line_loses, stepped, played_from, telegrams_from, played, telegrams, silences_in, silences}
use Rattle.stage.specs.Stages.{scene_link, fresh, fresh_with, with_ends, on_line, submitted, ended, restarted_by, after_responder}
use Rattle.stage.specs.declared.state.Stage.{Stage}

-- the stage whose initiator has another number of tries
abbrev pub tried_on : ℕ → Stage → Stage
tried_on n s = with_ends s (tried n s.initiator) s.responder

-- a step while tries are left: in silence the telegram is sent again
abbrev lasting : Step → Stage → Stage
lasting (head_end_submits order) s = stepped 1 (head_end_submits order) s
lasting head_end_hears_nothing s = (ended s (again_of s.initiator s.line)).stage
lasting head_end_hears s = stepped 1 head_end_hears s
lasting head_end_calls_restart s = stepped 1 head_end_calls_restart s
lasting head_end_made_anew s = with_ends s (closed_of scene_link 1) s.responder
lasting cabinet_hears s = stepped 1 cabinet_hears s
lasting (cabinet_answers reply) s = stepped 1 (cabinet_answers reply) s
lasting cabinet_restarts s = stepped 1 cabinet_restarts s
lasting cabinet_made_anew s = stepped 1 cabinet_made_anew s
lasting line_loses s = stepped 1 line_loses s

abbrev lasting_row : List Step → Stage → Stage
lasting_row [] s = s
lasting_row (x ∷ row) s = lasting_row row (lasting x s)

abbrev lasting_telegrams : List Step → Stage → List (List ℕ)
lasting_telegrams [] s = []
lasting_telegrams (x ∷ row) s = on_line (lasting x s) ∷ lasting_telegrams row (lasting x s)

scene_linked : Linked scene_link
scene_linked = record { own_small = omega arith; peer_small = omega arith; differ = λ e. omega (arith, e) }

module _ (n : ℕ) (permitted : Permitted n) where
  fresh_tried : fresh_with n ≡ tried_on n fresh
  fresh_tried = ap (λ (i : Initiator). with_ends fresh i fresh.responder) (made_closed scene_link n scene_linked permitted)

  step_tried : (x : Step) (s : Stage) → used_of s.initiator.phase + silences_in x ≤ n → stepped n x (tried_on n s) ≡ tried_on n (lasting x s)
  unfolding stepped submitted ended restarted_by after_responder
  step_tried (head_end_submits order) s h = ap (λ t. (submitted (tried_on n s) t).stage) (submit_tried n s.initiator order s.line)
  step_tried head_end_hears_nothing s h = ap (λ t. (ended (tried_on n s) t).stage) (silence_tried n s.initiator s.line (omega (arith, h)))
  step_tried head_end_hears s h = ap (λ t. (ended (tried_on n s) t).stage) (hear_tried n s.initiator (on_line s) s.line)
  step_tried head_end_calls_restart s h = ap (λ t. (restarted_by (tried_on n s) t).stage) (restart_tried n s.initiator)
  step_tried head_end_made_anew s h = ap (λ (i : Initiator). with_ends s i s.responder) (made_closed scene_link n scene_linked permitted)
  step_tried cabinet_hears s h = refl
  step_tried (cabinet_answers reply) s h = refl
  step_tried cabinet_restarts s h = refl
  step_tried cabinet_made_anew s h = refl
  step_tried line_loses s h = refl

-- at most b telegrams were written in the phase, and one more for each silence
module _ (b : ℕ) (one : 1 ≤ b) where
  still : {i : Initiator} → Within b i → Within (0 + b) i
  still w = record { used = omega (arith, w.used) }

  lasting_within : (x : Step) (s : Stage) → Within b s.initiator → Within (silences_in x + b) (lasting x s).initiator
  unfolding stepped submitted ended restarted_by after_responder
  lasting_within (head_end_submits order) s w = still (submit_within b one s.initiator w order s.line)
  lasting_within head_end_hears_nothing s w = again_within b s.initiator w s.line
  lasting_within head_end_hears s w = still (hear_within b one s.initiator w (on_line s) s.line)
  lasting_within head_end_calls_restart s w = still (restart_within b s.initiator)
  lasting_within head_end_made_anew s w = record { used = omega arith }
  lasting_within cabinet_hears s w = still w
  lasting_within (cabinet_answers reply) s w = still w
  lasting_within cabinet_restarts s w = still w
  lasting_within cabinet_made_anew s w = still w
  lasting_within line_loses s w = still w

module _ (n : ℕ) (permitted : Permitted n) where
  telegrams_tried :
      (row : List Step) (s : Stage) (b : ℕ) → 1 ≤ b → Within b s.initiator → b + silences row ≤ n
      → telegrams_from n row (tried_on n s) ≡ lasting_telegrams row s
  telegrams_tried [] s b one w h = refl
  telegrams_tried (x ∷ row) s b one w h =
      ap (λ (u : Stage). on_line u ∷ telegrams_from n row u) (step_tried n permitted x s (omega (arith, h, w.used)))
      ∙ ap (λ (l : List (List ℕ)). on_line (lasting x s) ∷ l)
      (telegrams_tried row (lasting x s) (silences_in x + b) (omega (arith, one)) (lasting_within b one x s w) (omega (arith, h)))

  played_tried :
      (row : List Step) (s : Stage) (b : ℕ) → 1 ≤ b → Within b s.initiator → b + silences row ≤ n
      → played_from n row (tried_on n s) ≡ tried_on n (lasting_row row s)
  played_tried [] s b one w h = refl
  played_tried (x ∷ row) s b one w h =
      ap (played_from n row) (step_tried n permitted x s (omega (arith, h, w.used)))
      ∙ played_tried row (lasting x s) (silences_in x + b) (omega (arith, one)) (lasting_within b one x s w) (omega (arith, h))

  begun : Within 1 fresh.initiator
  begun = record { used = omega arith }

  telegrams_last : (row : List Step) → silences row < n → telegrams n row ≡ lasting_telegrams row fresh
  telegrams_last row h =
      ap (telegrams_from n row) (fresh_tried n permitted) ∙ telegrams_tried row fresh 1 (omega arith) begun (omega (arith, h))

  played_last : (row : List Step) → silences row < n → played n row ≡ tried_on n (lasting_row row fresh)
  played_last row h =
      ap (played_from n row) (fresh_tried n permitted) ∙ played_tried row fresh 1 (omega arith) begun (omega (arith, h))

-- with two numbers, each above the silences of the row
module _ (row : List Step) (m n : ℕ) (above : silences row < m) (above' : silences row < n) (most : m ≤ most_tries) (most' : n ≤ most_tries) where
  permitted : (k : ℕ) → silences row < k → k ≤ most_tries → Permitted k
  permitted k a t = record { from_one = omega (arith, a); to_most = t }

  pub same_telegrams : telegrams m row ≡ telegrams n row
  same_telegrams = telegrams_last m (permitted m above most) row above ∙ sym (telegrams_last n (permitted n above' most') row above')

  pub same_end : tried_on n (played m row) ≡ played n row
  same_end =
      ap (tried_on n) (played_last m (permitted m above most) row above) ∙ sym (played_last n (permitted n above' most') row above')
