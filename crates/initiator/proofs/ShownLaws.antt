-- The definitions through which the promises see an answer of the initiator tell its values apart: what is seen leads back to the answer.
-- Read `said_injective`, `turn_injective`, `parts_injective`, `made_injective`.
use Rattle.std.proofs.Common.{Result}
use Prim.Native.Nat.{ℕ}
use mathlib.Core.List.{List}
use mathlib.Core.Path.{◌≡◌, refl, ap}
use Rattle.ground.proofs.Injective.{injective}
use Rattle.ground.proofs.RefusalLaws.{refusal_again, shown_injective}
use Rattle.ground.specs.declared.refusal.Refusal.{Refusal}
use Rattle.ground.specs.declared.returned.Returned.{Returned}
use Rattle.initiator.specs.Calls.{Outcome, confirmed, not_sent, unknown, shown_said, shown_turn}
use Rattle.initiator.specs.Heads.{shown_on}
use Rattle.initiator.specs.Records.{shown_made}
use Rattle.link_telegrams.proofs.TurnLaws.{said_back}
use Rattle.link_telegrams.specs.Turns.{Said}
use Rattle.initiator.specs.declared.answer.InitiatorAnswer.{InitiatorAnswer}
use Rattle.initiator.specs.declared.answer.InitiatorAnswer.TheVariants as answer
use Rattle.initiator.specs.declared.head.InitiatorHead.{InitiatorHead}
use Rattle.initiator.specs.declared.head.InitiatorHeadTurn.{InitiatorHeadTurn}
use Rattle.initiator.specs.declared.state.Initiator.{Initiator}

-- what a call says
abbrev outcome_back : Outcome → InitiatorAnswer
outcome_back (confirmed reply tries) = answer.Confirmed reply tries
outcome_back (not_sent tries) = answer.NotSent tries
outcome_back (unknown tries) = answer.Unknown tries

abbrev answer_back : Said Outcome → InitiatorAnswer
answer_back = said_back answer.Sent outcome_back answer.Nothing answer.Refused

said_again : (x : InitiatorAnswer) → answer_back (shown_said x) ≡ x
said_again (answer.Sent n) = refl
said_again (answer.Confirmed reply tries) = refl
said_again (answer.NotSent tries) = refl
said_again (answer.Unknown tries) = refl
said_again answer.Nothing = refl
said_again (answer.Refused r) = ap answer.Refused (refusal_again r)

pub said_injective : (x y : InitiatorAnswer) → shown_said x ≡ shown_said y → x ≡ y
said_injective = injective shown_said answer_back said_again

-- a whole call, with the lent buffer
pub turn_injective : (x y : Returned InitiatorAnswer Initiator) (b c : List ℕ) → shown_turn x b ≡ shown_turn y c → (x ≡ y) × (b ≡ c)
turn_injective x y b c e = (
  λ i. record { answer = said_injective x.answer y.answer (λ j. (e j).said) i; after = (e i).end },
  λ i. (e i).buffer,
)

-- a call on a head, with the bytes lent for the order and the buffer
pub parts_injective :
    (head : InitiatorHead) (x y : InitiatorHeadTurn) (k l b c : List ℕ) → shown_on x head k b ≡ shown_on y head l c → (x ≡ y) × ((k ≡ l) × (b ≡ c))
parts_injective head x y k l b c e = (
  λ i. record {
    answer = said_injective x.answer y.answer (λ j. (e j).said) i;
    phase = (e i).end.phase;
    len = (e i).end.len;
  },
  (λ i. (e i).end.order, λ i. (e i).buffer),
)

pub made_injective : (x y : Returned (Result Unit Refusal) Initiator) → shown_made x ≡ shown_made y → x ≡ y
made_injective x y e i = record { answer = shown_injective x.answer y.answer (λ j. (e j).number) i; after = (e i).end }
