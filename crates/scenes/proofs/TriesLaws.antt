-- What the number of tries is to each scene: by how often silence is reported in it, and where it counts on its number, by the first telegram
-- that another number would have, or lack. Read `tries`.
use Prim.Native.Nat.{ℕ, ◌<◌, ◌≤◌}
use mathlib.Core.List.{List, []}
use mathlib.Core.Logic.{by_cases}
use mathlib.Core.Path.{◌≡◌, refl, sym, ap, ◌∙◌}
use native.Mathlib.Omega.{arith}
use native.Mathlib.Decide.{dec_lt}
use lib.ListN.{length, get_or, take}
use Rattle.codes.specs.Checksums.{sum_of, checksum_of}
use Rattle.codes.specs.FunctionCodes.{code_byte, function_code_of}
use Rattle.codes.specs.RequestTypes.{request_type_of}
use Rattle.codes.specs.Responses.{state_of, status_of}
use Rattle.ground.specs.Front.{copied_to}
use Rattle.ground.specs.Part.{shown_part}
use Rattle.initiator.specs.Calls.{submit_of, silence_of, hear_of}
use Rattle.initiator.specs.Records.{made_of}
use Rattle.link_rules.specs.Rules.{Permitted, wrong_addresses, wrong_tries, wrong_length}
use Rattle.link_telegrams.specs.Headers.{opening_header, order_header, ok_header, reply_header}
use Rattle.link_telegrams.specs.Heard.{data_to_of, request_to_of, request_heard_of, reply_heard_of}
use Rattle.responder.specs.Calls as responder
use Rattle.responder_row.specs.Rows.{row_hears, row_answers}
use Rattle.scenes.specs.Scenes as scene
use Rattle.scenes.specs.Tries.{SameFrom, CountsOn, fresh_before, cabinet_restart_before, dead_line_before, Tries}
use Rattle.stage.proofs.RowLaws.{same_telegrams, same_end}
use Rattle.stage.specs.Rows.{Step, stepped, telegrams, silences}
use Rattle.stage.specs.Stages.{fresh_with, submitted, ended, after_responder}
use Rattle.stage.specs.declared.state.Stage.{Stage}
use Rattle.telegram.specs.Picture.{head_bytes, covered_bytes, length_byte, start_bytes, telegram_bytes}
use Rattle.telegram.specs.Reading.{header_at, saps_at, read_of}
use Rattle.telegram_tx.specs.Writing.{send_of, write_of}

-- fewer silences than the least number
same_from : (least : ℕ) (row : List Step) → silences row < least → SameFrom least row
same_from least row h =
    record {
      same = λ m n a b c d.
          let above : silences row < m = omega (arith, h, a) in
          let above' : silences row < n = omega (arith, h, c) in
          (same_telegrams row m n above above' b d, ap (λ (s : Stage). s.tally) (same_end row m n above above' b d));
    }

-- how long the telegram is that is on the line after a step, the first being 0
abbrev length_after : ℕ → List (List ℕ) → ℕ
length_after at l = length (get_or l at [])

-- ---- computed

record Computed : Type 0 where
  pub begins : fresh_with 2 ≡ fresh_before
  pub cabinet_restart : telegrams 2 scene.cabinet_restart ≡ cabinet_restart_before
  pub dead_line : telegrams 2 scene.dead_line ≡ dead_line_before
  -- with another number: the first telegram that there is, or is not
  pub cabinet_restart1 : length_after 5 (telegrams 1 scene.cabinet_restart) ≡ 0
  pub cabinet_restart3 : length_after 7 (telegrams 3 scene.cabinet_restart) ≡ 16
  pub dead_line1 : length_after 2 (telegrams 1 scene.dead_line) ≡ 0
  pub dead_line3 : length_after 4 (telegrams 3 scene.dead_line) ≡ 6
  pub slow_cabinet1 : length_after 4 (telegrams 1 scene.slow_cabinet) ≡ 0
  pub slow_cabinet2 : length_after 4 (telegrams 2 scene.slow_cabinet) ≡ 16

computed : Computed
unfolding wrong_addresses wrong_tries wrong_length sum_of checksum_of code_byte function_code_of request_type_of state_of status_of header_at saps_at read_of head_bytes covered_bytes length_byte start_bytes telegram_bytes send_of write_of shown_part copied_to submit_of silence_of hear_of made_of opening_header order_header ok_header reply_header data_to_of request_to_of request_heard_of reply_heard_of responder.hear_of responder.answer_of row_hears row_answers stepped submitted ended after_responder
computed =
    record {
      begins = refl;
      cabinet_restart = refl;
      dead_line = refl;
      cabinet_restart1 = refl;
      cabinet_restart3 = refl;
      dead_line1 = refl;
      dead_line3 = refl;
      slow_cabinet1 = refl;
      slow_cabinet2 = refl;
    }

-- ---- the scenes that count on their number

-- with fewer tries one telegram is of another length, with more tries another one
counts_on :
    {number : ℕ} {row : List Step} (a b : ℕ)
    → ((n : ℕ) → 1 ≤ n → n < number → length_after a (telegrams n row) ≡ length_after a (telegrams number row) → ⊥)
    → ((n : ℕ) → number < n → Permitted n → length_after b (telegrams n row) ≡ length_after b (telegrams number row) → ⊥)
    → CountsOn number row
counts_on {number} {row} a b fewer more =
    record {
      only = λ n p e.
          by_cases (dec_lt n number) (λ h. absurd (fewer n p.from_one h (ap (length_after a) e))) (λ h.
          by_cases (dec_lt number n) (λ k. absurd (more n k p (ap (length_after b) e))) (λ k. omega arith));
    }

-- with all larger numbers the telegrams up to there are the same
module _ (n : ℕ) (p : Permitted n) where
  cabinet_restart_more : 2 < n → length_after 7 (telegrams n scene.cabinet_restart) ≡ 16
  cabinet_restart_more h =
      ap (length_after 7) (same_telegrams (take 8 scene.cabinet_restart) n 3 h (omega arith) p.to_most (omega arith)) ∙ computed.cabinet_restart3

  dead_line_more : 2 < n → length_after 4 (telegrams n scene.dead_line) ≡ 6
  dead_line_more h =
      ap (length_after 4) (same_telegrams (take 5 scene.dead_line) n 3 h (omega arith) p.to_most (omega arith)) ∙ computed.dead_line3

  slow_cabinet_more : 1 < n → length_after 4 (telegrams n scene.slow_cabinet) ≡ 16
  slow_cabinet_more h =
      ap (length_after 4) (same_telegrams (take 5 scene.slow_cabinet) n 2 h (omega arith) p.to_most (omega arith)) ∙ computed.slow_cabinet2

one_try : {n : ℕ} → 1 ≤ n → n < 2 → n ≡ 1
one_try h k = omega (arith, h, k)

-- two lengths that differ
apart : {x y : ℕ} (a b : ℕ) → x ≡ a → y ≡ b → (a ≡ b → ⊥) → x ≡ y → ⊥
apart a b e f differ g = differ (sym e ∙ g ∙ f)

cabinet_restart_lem : CountsOn 2 scene.cabinet_restart
cabinet_restart_lem =
    counts_on 5 7
    (λ n h k.
    apart 0 16
    (ap (λ t. length_after 5 (telegrams t scene.cabinet_restart)) (one_try h k) ∙ computed.cabinet_restart1)
    (ap (length_after 5) computed.cabinet_restart)
    (λ e. omega (arith, e)))
    (λ n h p. apart 16 0 (cabinet_restart_more n p h) (ap (length_after 7) computed.cabinet_restart) (λ e. omega (arith, e)))

dead_line_lem : CountsOn 2 scene.dead_line
dead_line_lem =
    counts_on 2 4
    (λ n h k.
    apart 0 6
    (ap (λ t. length_after 2 (telegrams t scene.dead_line)) (one_try h k) ∙ computed.dead_line1)
    (ap (length_after 2) computed.dead_line)
    (λ e. omega (arith, e)))
    (λ n h p. apart 6 0 (dead_line_more n p h) (ap (length_after 4) computed.dead_line) (λ e. omega (arith, e)))

pub tries : Tries
tries =
    record {
      accident = same_from _ scene.accident (omega arith);
      lost_reply = same_from _ scene.lost_reply (omega arith);
      five_orders = same_from _ scene.five_orders (omega arith);
      restart_in_opening = same_from _ scene.restart_in_opening (omega arith);
      restart_in_order = same_from _ scene.restart_in_order (omega arith);
      made_anew = same_from _ scene.made_anew (omega arith);
      cabinet_restart = cabinet_restart_lem;
      dead_line = dead_line_lem;
      slow_cabinet =
          counts_on 0 4
          (λ n h k e. omega (arith, h, k))
          (λ n h p. apart 16 0 (slow_cabinet_more n p h) computed.slow_cabinet1 (λ e. omega (arith, e)));
      begins = computed.begins;
      cabinet_restart_stays = computed.cabinet_restart;
      dead_line_stays = computed.dead_line;
    }
