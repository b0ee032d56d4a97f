use Rattle.std.proofs.Common.{rules, ◌≡◌, ◌∙◌, List, ℕ, ◌++◌, ◌<◌, min, length}
use Rattle.line_text.proofs.StringsLaws.{NextPair, hex_start, hex_full, hex_bad, hex_turn, hex_done}
use Rattle.line_text.proofs.strings.decode.Goals as goal

next_pair : {size : ℕ} {rest pair next : List ℕ} → size ≡ 2 → (rest ≡ pair ++ next) × (length pair ≡ min size (length rest)) × (0 < length rest)
    → NextPair rest pair next
next_pair two steps = record { parts = steps.0; count = rw two at steps.1; some = steps.2 }

pub loop-pair-init : goal.loop-pair-init
loop-pair-init c =
    let all : c.into_iter-pair-iterator.result.rest.now ≡ c.args.digits.now = search rules in
    (search rules, tt, search rules, rw all (hex_start c.args.digits.now c.args.bytes.now (search rules)))

pub returns-then-len-eq-BYTES : goal.returns-then-len-eq-BYTES
returns-then-len-eq-BYTES c =
    let kept = c.loop-pair.invariant in
    hex_full kept.3 (next_pair kept.2 c.in-Some.ensures.steps.1) c.if-len-eq-BYTES.true

pub returns-in_err-bytes : goal.returns-in_err-bytes
returns-in_err-bytes c =
    let kept = c.loop-pair.invariant in
    search (rules, hex_bad kept.3 (next_pair kept.2 c.in-Some.ensures.steps.1))

pub loop-pair-preserved : goal.loop-pair-preserved
loop-pair-preserved c =
    let kept = c.loop-pair.invariant in
    let steps = c.in-Some.ensures.steps in
    (search rules, tt, steps.0 ∙ kept.2, hex_turn kept.3 (next_pair kept.2 steps.1) (search rules) (search rules))

pub returns : goal.returns
returns c = hex_done c.loop-pair.invariant.3 (search rules)
