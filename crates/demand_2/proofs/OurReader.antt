-- Our reader is one, `our_reader`, and there is no other: `one_reader`. What it reads beyond the standard: `standard_read`, `read_beyond`.
use Prim.Native.Nat.{ℕ}
use mathlib.Core.List.{List}
use mathlib.Core.Logic.{◌⊎◌}
use mathlib.Core.Path.{◌≡◌, refl, sym, ◌∙◌}
use Rattle.telegram.proofs.AskedLaws.{incomplete_exactly}
use Rattle.telegram.proofs.DrawnLaws.{standard_begins}
use Rattle.telegram.proofs.RefusedLaws.{refused_exactly}
use Rattle.telegram.proofs.Theorems.{read_exactly, only_these_points}
use Rattle.telegram.specs.Begins.{Bytes, standard, document01, Begins}
use Rattle.telegram.specs.Points.{Beyond}
use Rattle.telegram.specs.Reading.{Reading, whole, incomplete, refused, read_of}
use Rattle.telegram.specs.declared.kinds.Telegram.{Telegram}
use Rattle.demand_2.specs.Readers.{IsReader}

pub our_reader : IsReader read_of
our_reader =
    record {
      telegrams = λ s t n byte. read_exactly s t n byte;
      incompletes = λ s byte. incomplete_exactly s;
      refusals = λ s number byte. refused_exactly s number byte;
    }

-- A reader is told whole: any two answer alike, on every byte string.
pub one_reader : {read other : List ℕ → Reading} → IsReader read → IsReader other → (s : List ℕ) → Bytes s → read s ≡ other s
one_reader {read} {other} a b s byte = by_answer (read s) refl
  where
    by_answer : (r : Reading) → read s ≡ r → read s ≡ other s
    by_answer (whole t n) e = e ∙ sym ((b.telegrams s t n byte).1 ((a.telegrams s t n byte).0 e))
    by_answer incomplete e = e ∙ sym ((b.incompletes s byte).1 ((a.incompletes s byte).0 e))
    by_answer (refused k) e = e ∙ sym ((b.refusals s k byte).1 ((a.refusals s k byte).0 e))

module _ {read : List ℕ → Reading} (is : IsReader read) where
  -- What the standard draws, any reader reads.
  pub standard_read : (s : List ℕ) (t : Telegram) (n : ℕ) → Bytes s → Begins standard s t n → read s ≡ whole t n
  standard_read s t n byte b = (is.telegrams s t n byte).1 (standard_begins b)

  -- What it reads is the standard's, or one of the named points holds of it.
  pub record ReadPoints (s : List ℕ) (t : Telegram) (n : ℕ) : Type 0 where
    pub begins : Begins document01 s t n
    pub point : Begins standard s t n ⊎ Beyond t begins.picture begins.draws

  pub read_beyond : (s : List ℕ) (t : Telegram) (n : ℕ) → Bytes s → read s ≡ whole t n → ReadPoints s t n
  read_beyond s t n byte e = let b = (is.telegrams s t n byte).0 e in record { begins = b; point = only_these_points b }
