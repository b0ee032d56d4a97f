-- Our strict reader is one, `our_strict_reader`, and there is no other: `one_strict_reader`. Any strict reader beside any reader: `beside`.
use Prim.Native.Nat.{ℕ}
use mathlib.Core.List.{List}
use mathlib.Core.Logic.{◌⊎◌, inl, inr}
use mathlib.Core.Path.{◌≡◌, refl, sym, ◌∙◌}
use Rattle.telegram.specs.Begins.{Bytes}
use Rattle.telegram.specs.Reading.{Reading, whole, incomplete, refused, read_of}
use Rattle.telegram.specs.declared.kinds.Telegram.{Telegram}
use Rattle.telegram_strict.proofs.Theorems.{strict_alike, StrictApart, differ_alone, strict_exactly, strict_incomplete_exactly, strict_refused_exactly}
use Rattle.telegram_strict.specs.Strict.{strict_of}
use Rattle.demand_2.proofs.OurReader.{our_reader, one_reader}
use Rattle.demand_2.specs.Readers.{IsReader}
use Rattle.demand_2.specs.StrictReaders.{IsStrictReader}

pub our_strict_reader : IsStrictReader strict_of
our_strict_reader =
    record {
      telegrams = strict_exactly;
      incompletes = λ s byte. strict_incomplete_exactly s;
      refusals = strict_refused_exactly;
    }

-- A strict reader is told whole: any two answer alike, on every byte string.
pub one_strict_reader :
    {read other : List ℕ → Reading} → IsStrictReader read → IsStrictReader other → (s : List ℕ) → Bytes s
    → read s ≡ other s
one_strict_reader {read} {other} a b s byte = by_answer (read s) refl
  where
    by_answer : (r : Reading) → read s ≡ r → read s ≡ other s
    by_answer (whole t n) e = e ∙ sym ((b.telegrams s t n byte).1 ((a.telegrams s t n byte).0 e))
    by_answer incomplete e = e ∙ sym ((b.incompletes s byte).1 ((a.incompletes s byte).0 e))
    by_answer (refused k) e = e ∙ sym ((b.refusals s k byte).1 ((a.refusals s k byte).0 e))

-- A reader in strict mode beside one in the default mode: "Everything that strict mode reads, the default reads to the same telegram", and their
-- answers are one but where the strict one is 24 or 25.
pub record Beside (strictly read : List ℕ → Reading) (s : List ℕ) : Type 0 where
  pub alike : (t : Telegram) (n : ℕ) → strictly s ≡ whole t n → read s ≡ whole t n
  pub apart : (strictly s ≡ read s) ⊎ ((strictly s ≡ refused 24) ⊎ (strictly s ≡ refused 25))

pub beside : {strictly read : List ℕ → Reading} → IsStrictReader strictly → IsReader read → (s : List ℕ) → Bytes s → Beside strictly read s
beside {strictly} {read} a b s byte = record { alike = λ t n e. by_default ∙ strict_alike s (sym by_strict ∙ e); apart = go (differ_alone s) }
  where
    by_strict : strictly s ≡ strict_of s
    by_strict = one_strict_reader a our_strict_reader s byte

    by_default : read s ≡ read_of s
    by_default = one_reader b our_reader s byte

    go : (strict_of s ≡ read_of s) ⊎ (StrictApart s 24 ⊎ StrictApart s 25) → (strictly s ≡ read s) ⊎ ((strictly s ≡ refused 24) ⊎ (strictly s ≡ refused 25))
    go (inl e) = inl (by_strict ∙ e ∙ sym by_default)
    go (inr (inl x)) = inr (inl (by_strict ∙ x.strictly))
    go (inr (inr x)) = inr (inr (by_strict ∙ x.strictly))
