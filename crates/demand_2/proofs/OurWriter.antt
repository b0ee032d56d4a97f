-- Our writer is one, `our_writer`, and there is no other: `one_data`, `one_token`, `one_confirmation`. Where SAPs and source are the standard's, so is what is
-- written: `standard_written`, and a token: `standard_token`.
use Rattle.std.proofs.Common.{None, Option}
use Prim.Native.Nat.{ℕ, ◌<◌, ◌≤◌}
use mathlib.Core.Bool.{Bool, true, false}
use mathlib.Core.List.{List, []}
use mathlib.Core.Logic.{◌⊎◌, inl, inr}
use mathlib.Core.Path.{◌≡◌, refl, sym, ◌∙◌, ap}
use native.Mathlib.Omega.{arith}
use lib.Dec.{ltb}
use lib.ListN.{length}
use borrow.Author.Tests.{ltb-true, ltb-false}
use Rattle.ground.specs.declared.address.Address.{Address}
use Rattle.telegram.proofs.WrittenLaws.{pdu_drawn, pdu_after_write, written_draws_written, written_back, only_written_back}
use Rattle.telegram.specs.Begins.{standard, written, SapMayBe, DrawsData, DrawsToken, StartOf, with_sd1, with_sd2, with_sd3}
use Rattle.telegram.specs.Picture.{at_front, length_byte, telegram_bytes, token_bytes, confirmation_bytes}
use Rattle.telegram.specs.declared.header.DataTelegramHeader.{DataTelegramHeader}
use Rattle.telegram.specs.declared.kinds.TokenTelegram.{TokenTelegram}
use Rattle.telegram_tx.proofs.WritingLaws.{refused_8_da, refused_8_sa, refused_9, refused_10, sent, refused_10_of, sent_of_lem}
use Rattle.telegram_tx.specs.Writing.{send_of, write_of, write_token_of, write_confirmation_of, left_of, buffer_of, token_buffer_of, confirmation_buffer_of}
use Rattle.demand_2.specs.Writers.{Wrote, Writer, Pictures, Sends, fits, no_room, WritesData, address_too_large, too_long, sends, IsWriter}

-- our calls: what their promises say
abbrev pub ours : Writer
ours =
    record {
      write_data = λ h pdu buf. record { answer = write_of h pdu (length buf); buffer = buffer_of h pdu buf };
      write_token = λ da sa buf. record { answer = write_token_of da sa (length buf); buffer = token_buffer_of da sa buf };
      write_confirmation = λ buf. record { answer = write_confirmation_of (length buf); buffer = confirmation_buffer_of buf };
    }

-- ---- ours is one

our_picture :
    (h : DataTelegramHeader) (pdu : List ℕ) → h.da.0 ≤ 127 → h.sa.0 ≤ 127 → length_byte h pdu ≤ 249
    → Pictures h pdu (telegram_bytes h pdu)
our_picture h pdu da sa short =
    let draws = written_draws_written h pdu da sa short in
    let its_pdu : draws.pdu ≡ pdu = sym (pdu_drawn [] draws) ∙ pdu_after_write h pdu da sa [] in
    record { draws = draws; its_pdu = its_pdu; as_written = only_written_back draws (ap (telegram_bytes h) its_pdu) }

by_room : (t : List ℕ) (reply : Option Address) (buf : List ℕ) → Sends t reply buf (record { answer = send_of t reply (length buf); buffer = left_of (send_of t reply (length buf)) t buf })
by_room t reply buf = by_test (ltb (length buf) (length t)) refl
  where
    by_test :
        (short : Bool) → ltb (length buf) (length t) ≡ short
        → Sends t reply buf (record { answer = send_of t reply (length buf); buffer = left_of (send_of t reply (length buf)) t buf })
    by_test true e = let few = ltb-true (length buf) (length t) e in rw (refused_10_of t reply (length buf) few) (no_room few)
    by_test false e = let room = ltb-false (length buf) (length t) e in rw (sent_of_lem t reply (length buf) room) (fits room)

module _ (h : DataTelegramHeader) (pdu buf : List ℕ) where
  abbrev Ours : Type 0
  Ours = WritesData h pdu buf (ours.write_data h pdu buf)

  short_data : h.da.0 ≤ 127 → h.sa.0 ≤ 127 → length_byte h pdu ≤ 249 → (few : Bool) → ltb (length buf) (length (telegram_bytes h pdu)) ≡ few → Ours
  short_data da sa short true e =
      let few = ltb-true (length buf) (length (telegram_bytes h pdu)) e in
      rw (refused_10 h pdu (length buf) da sa short few) (sends da sa short (our_picture h pdu da sa short) (no_room few))
  short_data da sa short false e =
      let room = ltb-false (length buf) (length (telegram_bytes h pdu)) e in
      rw (sent h pdu (length buf) da sa short room) (sends da sa short (our_picture h pdu da sa short) (fits room))

  by_length : h.da.0 ≤ 127 → h.sa.0 ≤ 127 → (long : Bool) → ltb 249 (length_byte h pdu) ≡ long → Ours
  by_length da sa true e =
      let long = ltb-true 249 (length_byte h pdu) e in
      rw (refused_9 h pdu (length buf) da sa long) (too_long da sa long)
  by_length da sa false e = short_data da sa (ltb-false 249 (length_byte h pdu) e) (ltb (length buf) (length (telegram_bytes h pdu))) refl

  by_sa : h.da.0 ≤ 127 → (large : Bool) → ltb 127 h.sa.0 ≡ large → Ours
  by_sa da true e =
      let large = ltb-true 127 h.sa.0 e in
      rw (refused_8_sa h pdu (length buf) large) (address_too_large (inr large))
  by_sa da false e = by_length da (ltb-false 127 h.sa.0 e) (ltb 249 (length_byte h pdu)) refl

  by_da : (large : Bool) → ltb 127 h.da.0 ≡ large → Ours
  by_da true e =
      let large = ltb-true 127 h.da.0 e in
      rw (refused_8_da h pdu (length buf) large) (address_too_large (inl large))
  by_da false e = by_sa (ltb-false 127 h.da.0 e) (ltb 127 h.sa.0) refl

pub our_writer : IsWriter ours
our_writer =
    record {
      data_telegrams = λ h pdu buf. by_da h pdu buf (ltb 127 h.da.0) refl;
      tokens = λ da sa buf. by_room (token_bytes da.0 sa.0) None buf;
      confirmations = λ buf. by_room confirmation_bytes None buf;
    }

-- ---- and there is no other

-- The picture of a header and a PDU is one.
pub one_picture : {h : DataTelegramHeader} {pdu picture : List ℕ} → Pictures h pdu picture → telegram_bytes h pdu ≡ picture
one_picture {h} p = ap (telegram_bytes h) (sym p.its_pdu) ∙ written_back p.draws p.as_written

one_send : {t : List ℕ} {reply : Option Address} {buf : List ℕ} {x y : Wrote} → Sends t reply buf x → Sends t reply buf y → x ≡ y
one_send (fits a) (fits b) = refl
one_send (fits a) (no_room b) = absurd (omega arith)
one_send (no_room a) (fits b) = absurd (omega arith)
one_send (no_room a) (no_room b) = refl

large_not : {da sa : ℕ} → (127 < da) ⊎ (127 < sa) → da ≤ 127 → sa ≤ 127 → ⊥
large_not (inl large) da sa = omega arith
large_not (inr large) da sa = omega arith

one_write : {h : DataTelegramHeader} {pdu buf : List ℕ} {x y : Wrote} → WritesData h pdu buf x → WritesData h pdu buf y → x ≡ y
one_write (address_too_large a) (address_too_large b) = refl
one_write (address_too_large a) (too_long da sa l) = absurd (large_not a da sa)
one_write (address_too_large a) (sends da sa l p s) = absurd (large_not a da sa)
one_write (too_long da sa l) (address_too_large a) = absurd (large_not a da sa)
one_write (too_long da sa l) (too_long da2 sa2 l2) = refl
one_write (too_long da sa l) (sends da2 sa2 l2 p s) = absurd (omega arith)
one_write (sends da sa l p s) (address_too_large a) = absurd (large_not a da sa)
one_write (sends da sa l p s) (too_long da2 sa2 l2) = absurd (omega arith)
one_write (sends da sa l p s) (sends da2 sa2 l2 q t) =
    one_send (rw (sym (one_picture p) ∙ one_picture q) at s) t

module _ {W : Writer} (is : IsWriter W) where
  -- A writer is told whole: its calls are ours.
  pub one_data : (h : DataTelegramHeader) (pdu buf : List ℕ) → W.write_data h pdu buf ≡ ours.write_data h pdu buf
  one_data h pdu buf = one_write (is.data_telegrams h pdu buf) (our_writer.data_telegrams h pdu buf)

  pub one_token : (da sa : Address) (buf : List ℕ) → W.write_token da sa buf ≡ ours.write_token da sa buf
  one_token da sa buf = one_send (is.tokens da sa buf) (our_writer.tokens da sa buf)

  pub one_confirmation : (buf : List ℕ) → W.write_confirmation buf ≡ ours.write_confirmation buf
  one_confirmation buf = one_send (is.confirmations buf) (our_writer.confirmations buf)

-- ---- how it stands to the standard

written_start_standard : {l : ℕ} {start : List ℕ} → StartOf written l start → StartOf standard l start
written_start_standard with_sd1 = with_sd1
written_start_standard with_sd3 = with_sd3
written_start_standard (with_sd2 low again) = with_sd2 low again

-- What is written is the standard's picture, where the SAPs are below 64 and the source is at most 126.
pub standard_written :
    {h : DataTelegramHeader} {pdu picture : List ℕ} → Pictures h pdu picture → SapMayBe standard h.dsap → SapMayBe standard h.ssap → h.sa.0 ≤ 126
    → DrawsData standard (at_front h pdu) picture
standard_written p dsap ssap source =
    record {
      start = p.draws.start;
      code = p.draws.code;
      pdu = p.draws.pdu;
      drawn = p.draws.drawn;
      start_is = written_start_standard p.draws.start_is;
      code_is = p.draws.code_is;
      dsap_is = dsap;
      ssap_is = ssap;
      da_small = p.draws.da_small;
      sa_small = p.draws.sa_small;
      source_is = source;
      pdu_start = p.draws.pdu_start;
      pdu_len = p.draws.pdu_len;
    }

-- A written token is the standard's, where both addresses are at most 126.
pub standard_token : (t : TokenTelegram) → t.da.0 ≤ 126 → t.sa.0 ≤ 126 → DrawsToken standard t (token_bytes t.da.0 t.sa.0)
standard_token t da sa = record { drawn = refl; da_is = da; sa_is = sa }
