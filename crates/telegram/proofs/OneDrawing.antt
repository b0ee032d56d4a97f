-- Two drawings of one data telegram. On one byte string they have one start and one code, `drawn_once`; on two, starts that are alike, `starts_alike`.
use Prim.Native.Nat.{ℕ}
use mathlib.Core.List.{List, ◌∷◌, ◌++◌}
use mathlib.Core.Path.{◌≡◌, refl, sym, ◌∙◌, ap}
use native.Mathlib.Omega.{arith}
use lib.ListN.{length, take, drop, length-append}
use lib.Seq.{take-append_seam, drop-append_seam, take_at, drop_at}
use Rattle.codes.specs.Checksums.{checksum_of}
use Rattle.codes.specs.Delimiters.{ED}
use Rattle.ground.specs.Part.{byte_at}
use Rattle.telegram.proofs.DrawnLaws.{begins_from}
use Rattle.telegram.specs.Begins.{Rules, document01, StartOf, with_sd1, with_sd2, with_sd3, Begins}
use Rattle.telegram.specs.Picture.{head_with}
use Rattle.telegram.specs.Points.{StartsAlike, same_start, other_fourth}
use Rattle.telegram.specs.declared.header.DataTelegramHeader.{DataTelegramHeader}
use Rattle.telegram.specs.declared.kinds.DataTelegram.{DataTelegram}
use Rattle.telegram.specs.declared.kinds.Telegram.TheVariants.{Data}

-- A head is as long under any code.
head_long : (h : DataTelegramHeader) (code other : ℕ) → length (head_with h code) ≡ length (head_with h other)
head_long h code other = refl

module _ {r q : Rules} {s u : List ℕ} {d : DataTelegram} {n m : ℕ} (a : Begins r s (Data d) n) (b : Begins q u (Data d) m) where
  -- The telegram says where its PDU stands, and so how long its start is.
  pub place_once : length a.draws.start ≡ length b.draws.start
  place_once =
      let left = simp length-append at a.draws.pdu_start in
      let right = simp length-append at b.draws.pdu_start in
      omega (arith, left, right)

  pub lengths_alike :
      a.draws.pdu ≡ b.draws.pdu
      → length (head_with d.h a.draws.code ++ a.draws.pdu) ≡ length (head_with d.h b.draws.code ++ b.draws.pdu)
  lengths_alike e = ap (λ p. length (head_with d.h a.draws.code ++ p)) e

module _ {r q : Rules} {s : List ℕ} {d : DataTelegram} {n m : ℕ} (a : Begins r s (Data d) n) (b : Begins q s (Data d) m) where
  abbrev behind : {r : Rules} {n : ℕ} → Begins r s (Data d) n → List ℕ
  behind c =
      (head_with d.h c.draws.code ++ c.draws.pdu)
      ++ checksum_of (head_with d.h c.draws.code ++ c.draws.pdu) ∷ ED ∷ c.rest

  both : a.draws.start ++ behind a ≡ b.draws.start ++ behind b
  both = sym (begins_from a) ∙ begins_from b

  pub drawn_once : (a.draws.start ≡ b.draws.start) × (a.draws.code ≡ b.draws.code)
  drawn_once =
      let l = length a.draws.start in
      let content : behind a ≡ behind b = sym (drop-append_seam a.draws.start (behind a)) ∙ ap (drop l) both ∙ drop_at b.draws.start (behind b) l (sym (place_once a b)) in (
        sym (take-append_seam a.draws.start (behind a)) ∙ ap (take l) both ∙ take_at b.draws.start (behind b) l (sym (place_once a b)),
        ap (λ c. byte_at c 2) content,
      )

-- Two starts before as many bytes, and as long, are alike.
pub starts_alike :
    {l k : ℕ} {start other : List ℕ} → l ≡ k → length start ≡ length other → StartOf document01 l start → StartOf document01 k other
    → StartsAlike start other
starts_alike e n with_sd1 with_sd1 = same_start
starts_alike e n with_sd1 with_sd3 = absurd (omega arith)
starts_alike e n with_sd1 (with_sd2 low any) = absurd (omega arith)
starts_alike e n with_sd3 with_sd1 = absurd (omega arith)
starts_alike e n with_sd3 with_sd3 = same_start
starts_alike e n with_sd3 (with_sd2 low any) = absurd (omega arith)
starts_alike e n (with_sd2 low any) with_sd1 = absurd (omega arith)
starts_alike e n (with_sd2 low any) with_sd3 = absurd (omega arith)
starts_alike e n (with_sd2 {l} {fourth} low any) (with_sd2 also all) = rw (← e) other_fourth
