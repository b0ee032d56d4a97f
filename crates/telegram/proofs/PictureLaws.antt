-- What is read as a telegram begins with its picture, `read_picture`: the way back from DrawnLaws.
use Rattle.std.proofs.Common.{None, Option, Some}
use Prim.Native.Nat.{ℕ, ◌+◌, ◌-◌, ◌%◌, ◌<◌, ◌≤◌}
use mathlib.Core.Bool.{Bool, true, false}
use mathlib.Core.List.{List, [], ◌∷◌, ◌++◌, append_assoc}
use mathlib.Core.Path.{◌≡◌, refl, sym, ◌∙◌, ap, subst}
use native.Mathlib.Nat.{zero-add}
use native.Mathlib.Omega.{arith}
use lib.Dec.{leb}
use lib.ListN.{length, take, drop, length-append, length-take, length-drop, take-append-drop}
use lib.Seq.{drop-cons, drop-drop, get_or-drop, take-take}
use borrow.Author.Tests.{leb-true, leb-false}
use Rattle.codes.proofs.FunctionCodeLaws.{read_code}
use Rattle.ground.proofs.PartLaws.{part_length}
use Rattle.codes.specs.Checksums.{checksum_of}
use Rattle.ground.specs.Bits.{digit}
use Rattle.codes.specs.FunctionCodes.{function_code_of}
use Rattle.ground.specs.Part.{part, byte_at}
use Rattle.codes.specs.declared.function_code.FunctionCode.{FunctionCode}
use Rattle.telegram.proofs.AgreementLaws.{header_same, saps_same}
use Rattle.telegram.proofs.Answers.{Content, content_whole, Frame, code_known, Answered, confirmation, token_whole, sd1, sd2, sd3}
use Rattle.telegram.proofs.ByteLaws.{drop_bytes, one_byte, two_more, three_bytes}
use Rattle.telegram.proofs.ReadingLaws.{reason}
use Rattle.telegram.specs.Begins.{Bytes, document01, StartOf, with_sd1, with_sd2, with_sd3, SapMayBe, DrawsData, Begins}
use Rattle.codes.specs.Delimiters.{SD1, SD2, SD3, SD4, SC, ED}
use Rattle.telegram.specs.Picture.{address_byte, sap_bytes, head_with, framed, token_bytes, confirmation_bytes}
use Rattle.telegram.specs.Reading.{whole, top, sap_at, header_at, saps_at, telegram_at, read_of}
use Rattle.telegram.specs.declared.kinds.Telegram.{Telegram}
use Rattle.telegram.specs.declared.kinds.Telegram.TheVariants.{Data}
use Rattle.ground.specs.declared.address.Sap.{Sap}

-- An address byte is its address with the top bit, which its SAP announces.
address_kept : (a : ℕ) → a < 256 → (s : List ℕ) (at : ℕ) → address_byte (a % 128) (sap_at (top a) s at) ≡ a
address_kept a h s at = by_top (top a) refl where
  by_top : (t : Bool) → leb 128 a ≡ t → address_byte (a % 128) (sap_at t s at) ≡ a
  by_top true e = omega (arith, leb-true 128 a e)
  by_top false e = omega (arith, leb-false 128 a e)

saps_taken : (a b c x y : ℕ) (q : List ℕ) (t v : Bool) →
    a ∷ b ∷ c ∷ sap_bytes (sap_at t (a ∷ b ∷ c ∷ x ∷ y ∷ q) 3) ++ sap_bytes (sap_at v (a ∷ b ∷ c ∷ x ∷ y ∷ q) (3 + digit t))
    ≡ take (3 + (digit t + digit v)) (a ∷ b ∷ c ∷ x ∷ y ∷ q)
saps_taken a b c x y q true true = refl
saps_taken a b c x y q true false = refl
saps_taken a b c x y q false true = refl
saps_taken a b c x y q false false = refl

-- The header that is read, drawn again, is the bytes that it was read from.
head_taken :
    (r : List ℕ) (fc : FunctionCode) → Bytes r → 5 ≤ length r
    → head_with (header_at r 0 fc) (byte_at r 2) ≡ take (3 + saps_at r 0) r
unfolding header_at saps_at
head_taken (a ∷ b ∷ c ∷ x ∷ y ∷ q) fc byte h =
    rw (address_kept a (byte 0) (a ∷ b ∷ c ∷ x ∷ y ∷ q) 3, address_kept b (byte 1) (a ∷ b ∷ c ∷ x ∷ y ∷ q) (3 + digit (top a)))
    (saps_taken a b c x y q (top a) (top b))
head_taken (a ∷ b ∷ c ∷ x ∷ []) fc byte h = absurd (omega arith)
head_taken (a ∷ b ∷ c ∷ []) fc byte h = absurd (omega arith)
head_taken (a ∷ b ∷ []) fc byte h = absurd (omega arith)
head_taken (a ∷ []) fc byte h = absurd (omega arith)
head_taken [] fc byte h = absurd (omega arith)

-- Any byte is a SAP's to document 01.
pub any_sap : (o : Option Sap) → SapMayBe document01 o
any_sap (Some sap) = tt
any_sap None = tt

-- A data telegram that is read from a place, behind a start, is drawn there.
module _
    (s : List ℕ) (byte : Bytes s) (at l : ℕ) (fc : FunctionCode) (low : 3 ≤ l) (start : StartOf document01 l (take at s))
    (known : function_code_of (byte_at s (at + 2)) ≡ Some fc) (enough : at + l + 2 ≤ length s) (fits : 3 + saps_at s at ≤ l)
    (sum : byte_at s (at + l) ≡ checksum_of (part s at (at + l))) (end : byte_at s (at + l + 1) ≡ ED) where
  near : (k : ℕ) → k ≤ 4 → byte_at s (at + k) ≡ byte_at (drop at s) (0 + k)
  near k h = rw zero-add (sym (get_or-drop at s k 0))

  head_is : head_with (header_at s at fc) (byte_at s (at + 2)) ≡ take (3 + saps_at s at) (part s at (at + l))
  head_is =
      let saps : saps_at s at ≡ saps_at (drop at s) 0 = saps_same s (drop at s) at 0 near in
      rw (header_same s (drop at s) at 0 near fc, near 2 (omega arith), saps)
      (head_taken (drop at s) fc (drop_bytes at s byte) (simp length-drop (omega arith))
      ∙ sym (take-take (3 + saps_at (drop at s) 0) (at + l - at) (drop at s) (omega arith)))

  covers :
      head_with (header_at s at fc) (byte_at s (at + 2)) ++ drop (3 + saps_at s at) (part s at (at + l))
      ≡ part s at (at + l)
  covers =
      ap (λ q. q ++ drop (3 + saps_at s at) (part s at (at + l))) head_is
      ∙ take-append-drop (3 + saps_at s at) (part s at (at + l))

  place : length (take at s ++ head_with (header_at s at fc) (byte_at s (at + 2))) ≡ at + 3 + saps_at s at
  place =
      ap (λ q. length (take at s ++ q)) head_is
      ∙ simp (length-append, length-take, length-drop) (omega arith)

  draws_data : DrawsData document01 (telegram_at s at l fc) (framed (take at s) (part s at (at + l)))
  unfolding header_at
  draws_data =
      record {
        start = take at s;
        code = byte_at s (at + 2);
        pdu = drop (3 + saps_at s at) (part s at (at + l));
        drawn = ap (framed (take at s)) (sym covers);
        start_is = subst (λ k. StartOf document01 k (take at s)) (sym (ap length covers ∙ part_length s at l (omega arith))) start;
        code_is = read_code (byte_at s (at + 2)) (byte (at + 2)) fc known;
        dsap_is = any_sap (header_at s at fc).dsap;
        ssap_is = any_sap (header_at s at fc).ssap;
        da_small = omega arith;
        sa_small = omega arith;
        source_is = tt;
        pdu_start = sym place;
        pdu_len = simp (length-drop, length-take) (omega arith);
      }

  all_bytes : s ≡ framed (take at s) (part s at (at + l)) ++ drop (at + l + 2) s
  all_bytes =
      let back : at + (at + l - at) ≡ at + l = omega arith in
      let rest : drop (at + l - at) (drop at s) ≡ drop (at + l) s = rw back at (drop-drop (at + l - at) at s) in
      let tail : drop (at + l) s ≡ checksum_of (part s at (at + l)) ∷ ED ∷ drop (at + l + 2) s = rw (sum, end) at (two_more s (at + l) (omega arith)) in
      sym (take-append-drop at s)
      ∙ ap (λ q. take at s ++ q) (sym (take-append-drop (at + l - at) (drop at s)) ∙ ap (λ q. part s at (at + l) ++ q) (rest ∙ tail))
      ∙ simp append_assoc

  begins_data : Begins document01 s (Data (telegram_at s at l fc)) (at + l + 2)
  begins_data =
      record {
        picture = framed (take at s) (part s at (at + l));
        rest = drop (at + l + 2) s;
        draws = draws_data;
        bytes = all_bytes;
        total = simp (length-append, length-take, length-drop) (omega arith);
      }

content_drawn :
    {s : List ℕ} (at l : ℕ) → Bytes s → 3 ≤ l → StartOf document01 l (take at s) → (fc : FunctionCode)
    → at + l + 2 ≤ length s → function_code_of (byte_at s (at + 2)) ≡ Some fc
    → {t : Telegram} {n : ℕ} → Content s at l fc (whole t n)
    → Begins document01 s t n
content_drawn {s} at l byte low start fc enough known (content_whole fits sum end) =
    begins_data s byte at l fc low start known enough fits sum end

frame_drawn :
    {s : List ℕ} {t : Telegram} {n : ℕ} (at l : ℕ)
    → Bytes s → 3 ≤ l → StartOf document01 l (take at s) → Frame s at l (whole t n)
    → Begins document01 s t n
frame_drawn at l byte low start (code_known fc enough known c) = content_drawn at l byte low start fc enough known c

start_one : (s : List ℕ) (b : ℕ) → 6 ≤ length s → byte_at s 0 ≡ b → b ∷ [] ≡ take 1 s
start_one s b h e = sym (ap (take 1) (one_byte s b (omega arith) e))

start_four :
    (s : List ℕ) → 6 ≤ length s → byte_at s 0 ≡ SD2 → byte_at s 1 ≡ byte_at s 2
    → SD2 ∷ byte_at s 1 ∷ byte_at s 1 ∷ byte_at s 3 ∷ [] ≡ take 4 s
start_four s h d e =
    let all : s ≡ SD2 ∷ byte_at s 1 ∷ byte_at s 2 ∷ byte_at s 3 ∷ drop 4 s = three_bytes s SD2 (omega arith) d ∙ ap (λ q. SD2 ∷ byte_at s 1 ∷ byte_at s 2 ∷ q) (drop-cons s 3 0 (omega arith)) in
    sym (ap (take 4) all ∙ ap (λ b. SD2 ∷ byte_at s 1 ∷ b ∷ byte_at s 3 ∷ []) (sym e))

picture_of : {s : List ℕ} {t : Telegram} {n : ℕ} → Bytes s → Answered s (whole t n) → Begins document01 s t n
picture_of {s} byte (confirmation h e) =
    record { picture = confirmation_bytes; rest = drop 1 s; draws = refl; bytes = one_byte s SC h e; total = refl }
picture_of {s} byte (token_whole h e) =
    record {
      picture = token_bytes (byte_at s 1) (byte_at s 2);
      rest = drop 3 s;
      draws = record { drawn = refl; da_is = tt; sa_is = tt };
      bytes = three_bytes s SD4 h e;
      total = refl;
    }
picture_of {s} byte (sd1 h d f) =
    frame_drawn 1 3 byte (omega arith) (subst (StartOf document01 3) (start_one s SD1 h d) with_sd1) f
picture_of {s} byte (sd2 h d e l f) =
    frame_drawn 4 (byte_at s 1) byte l (subst (StartOf document01 (byte_at s 1)) (start_four s h d e) (with_sd2 l tt)) f
picture_of {s} byte (sd3 h d f) =
    frame_drawn 1 11 byte (omega arith) (subst (StartOf document01 11) (start_one s SD3 h d) with_sd3) f

-- What is read as a telegram begins with its picture.
pub read_picture : (s : List ℕ) {t : Telegram} {n : ℕ} → Bytes s → read_of s ≡ whole t n → Begins document01 s t n
read_picture s byte e = picture_of byte (reason s e)
