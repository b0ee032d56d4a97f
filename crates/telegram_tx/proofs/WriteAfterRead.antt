-- Writing the telegram that bytes begin with: it is sent, as the bytes that were read, exactly for what a writer would write and a length
-- byte of at most 249 (`written_back`, `only_written_back`). It rests on the reader's theorem that these telegrams' bytes are the same.
use Prim.Native.Nat.{ℕ, ◌≤◌}
use mathlib.Core.Bool.{Bool, true, false}
use mathlib.Core.List.{List, ◌++◌}
use mathlib.Core.Path.{◌≡◌, refl, sym, ◌∙◌, ap}
use native.Mathlib.Omega.{arith}
use lib.Dec.{ltb}
use lib.ListN.{length, take, drop}
use lib.Seq.{length-take-le, take_at}
use borrow.Author.Tests.{ltb-true, ltb-false}
use Rattle.ground.proofs.Injective.{zero_one}
use Rattle.ground.specs.Part.{shown_part}
use Rattle.telegram.proofs.DrawnLaws.{picture_reads}
use Rattle.telegram.proofs.ReadingLaws.{total_within, addresses_small}
use Rattle.telegram.proofs.Theorems.{written_back_exactly}
use Rattle.telegram.specs.Begins.{document01, AsWritten, Begins}
use Rattle.telegram.specs.Picture.{length_byte, telegram_bytes}
use Rattle.telegram.specs.Reading.{whole, read_of}
use Rattle.telegram.specs.declared.kinds.DataTelegram.{DataTelegram}
use Rattle.telegram.specs.declared.kinds.Telegram.TheVariants.{Data}
use Rattle.telegram_tx.proofs.WritingLaws.{refused_9, refused_10, sent}
use Rattle.telegram_tx.specs.Writing.{reply_of}
use Rattle.telegram_tx.specs.WrittenBack.{WrittenBack}
use Rattle.telegram_tx.specs.declared.tx.TelegramTxResponse.{TelegramTxResponse}

module _
    {s : List ℕ} {d : DataTelegram} {n : ℕ} (b : Begins document01 s (Data d) n) (buf : List ℕ) (room : n ≤ length buf) where
  read : read_of s ≡ whole (Data d) n
  read = picture_reads b

  taken : length (take n s) ≡ n
  taken = length-take-le n s (total_within s read)

  pub written_back : AsWritten b.draws → length_byte d.h (shown_part d.pdu s) ≤ 249 → WrittenBack s d n buf
  written_back own short =
      let small = addresses_small s read in
      let same : telegram_bytes d.h (shown_part d.pdu s) ≡ take n s = (written_back_exactly b).0 own in
      let long : length (telegram_bytes d.h (shown_part d.pdu s)) ≡ n = ap length same ∙ taken in
      let answer = sent d.h (shown_part d.pdu s) (length buf) small.0 small.1 short (omega arith) in
      record { answer = rw long at answer; buffer = rw (answer, long, same) }

  -- refused where the length byte is above 249
  short_enough :
      (t : Bool) → ltb 249 (length_byte d.h (shown_part d.pdu s)) ≡ t → WrittenBack s d n buf
      → length_byte d.h (shown_part d.pdu s) ≤ 249
  short_enough true e back =
      let small = addresses_small s read in
      let refusal = refused_9 d.h (shown_part d.pdu s) (length buf) small.0 small.1 (ltb-true _ _ e) in
      let given = back.answer in
      absurd (zero_one (cc))
  short_enough false e back = ltb-false _ _ e

  room_enough :
      (t : Bool) → ltb (length buf) (length (telegram_bytes d.h (shown_part d.pdu s))) ≡ t
      → length_byte d.h (shown_part d.pdu s) ≤ 249 → WrittenBack s d n buf
      → length (telegram_bytes d.h (shown_part d.pdu s)) ≤ length buf
  room_enough true e short back =
      let small = addresses_small s read in
      let refusal = refused_10 d.h (shown_part d.pdu s) (length buf) small.0 small.1 short (ltb-true _ _ e) in
      let given = back.answer in
      absurd (zero_one (cc))
  room_enough false e short back = ltb-false _ _ e

  pub only_written_back :
      WrittenBack s d n buf
      → AsWritten b.draws × (length_byte d.h (shown_part d.pdu s) ≤ 249)
  only_written_back back =
      let small = addresses_small s read in
      let short = short_enough (ltb 249 (length_byte d.h (shown_part d.pdu s))) refl back in
      let fits = room_enough (ltb (length buf) (length (telegram_bytes d.h (shown_part d.pdu s)))) refl short back in
      let answer = sent d.h (shown_part d.pdu s) (length buf) small.0 small.1 short fits in
      let given = back.answer in
      let response : ◌≡◌ {A = TelegramTxResponse} (record { bytes_sent = length (telegram_bytes d.h (shown_part d.pdu s)); expects_reply = reply_of d.h.da d.h.fc }) (record { bytes_sent = n; expects_reply = reply_of d.h.da d.h.fc }) = cc in
      let long : length (telegram_bytes d.h (shown_part d.pdu s)) ≡ n = ap (λ (r : TelegramTxResponse). r.bytes_sent) response in
      let both : telegram_bytes d.h (shown_part d.pdu s) ++ drop n buf ≡ take n s ++ drop n buf = rw (answer, long) at back.buffer in
      let same : telegram_bytes d.h (shown_part d.pdu s) ≡ take n s = sym (take_at _ (drop n buf) n long) ∙ ap (take n) both ∙ take_at (take n s) (drop n buf) n taken in
      ((written_back_exactly b).1 same, short)
