-- The definitions through which the promises see an answer of the responder tell its values apart: what is seen leads back to the answer.
-- Read `said_injective`, `turn_injective`, `parts_injective`, `made_injective`.
use Prim.Native.Nat.{ℕ}
use mathlib.Core.List.{List}
use mathlib.Core.Path.{◌≡◌, refl, ap}
use Rattle.ground.proofs.Injective.{injective}
use Rattle.ground.proofs.RefusalLaws.{refusal_again, shown_injective}
use Rattle.ground.specs.declared.part.Part.{Part}
use Rattle.link_telegrams.proofs.TurnLaws.{said_back}
use Rattle.link_telegrams.specs.Turns.{Said}
use Rattle.responder.specs.Calls.{shown_said, shown_turn, shown_on}
use Rattle.responder.specs.Records.{shown_made}
use Rattle.responder.specs.declared.answer.ResponderAnswer.{ResponderAnswer}
use Rattle.responder.specs.declared.answer.ResponderAnswer.TheVariants as answer
use Rattle.ground.specs.declared.refusal.Refusal.{Refusal}
use Rattle.ground.specs.declared.returned.Returned.{Returned}
use Rattle.responder.specs.declared.head.ResponderHead.{ResponderHead}
use Rattle.responder.specs.declared.state.Responder.{Responder}
use Rattle.std.proofs.Common.{Result}

-- what a call says
abbrev answer_back : Said Part → ResponderAnswer
answer_back = said_back answer.Sent answer.HandUp answer.Nothing answer.Refused

said_again : (x : ResponderAnswer) → answer_back (shown_said x) ≡ x
said_again (answer.Sent n) = refl
said_again (answer.HandUp order) = refl
said_again answer.Nothing = refl
said_again (answer.Refused r) = ap answer.Refused (refusal_again r)

pub said_injective : (x y : ResponderAnswer) → shown_said x ≡ shown_said y → x ≡ y
said_injective = injective shown_said answer_back said_again

-- a whole call, with the lent buffer
pub turn_injective : (x y : Returned ResponderAnswer Responder) (b c : List ℕ) → shown_turn x b ≡ shown_turn y c → (x ≡ y) × (b ≡ c)
turn_injective x y b c e = (
  λ i. record { answer = said_injective x.answer y.answer (λ j. (e j).said) i; after = (e i).end },
  λ i. (e i).buffer,
)

-- the same of a call on a head, with the lent bytes too
pub parts_injective :
    (x y : Returned ResponderAnswer ResponderHead) (h k b c : List ℕ) → shown_on x h b ≡ shown_on y k c
    → (x ≡ y) × ((h ≡ k) × (b ≡ c))
parts_injective x y h k b c e = (
  λ i.
      record {
        answer = said_injective x.answer y.answer (λ j. (e j).said) i;
        after = record { link = (e i).end.link; row = record { state = (e i).end.row.state; len = (e i).end.row.len } };
      },
  (λ i. (e i).end.row.held, λ i. (e i).buffer),
)

pub made_injective : (x y : Returned (Result Unit Refusal) Responder) → shown_made x ≡ shown_made y → x ≡ y
made_injective x y e i = record { answer = shown_injective x.answer y.answer (λ j. (e j).number) i; after = (e i).end }
