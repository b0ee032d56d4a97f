-- Laws of the answer of writing and of the buffer that it leaves: one for each refusal, and one for what is sent.
use Rattle.std.proofs.Common.{Err, Ok, Option, Result}
use Prim.Native.Nat.{ℕ, ◌<◌, ◌≤◌}
use mathlib.Core.Path.{◌≡◌, refl, sym, ap}
use mathlib.Core.Bool.{or-true}
use mathlib.Core.List.{List, ◌++◌}
use lib.ListN.{length, drop}
use borrow.Author.Tests.{lt-ltb, le-ltb}
use Rattle.ground.proofs.Injective.{injective}
use Rattle.ground.proofs.RefusalLaws.{refusal_of, refusal_again}
use Rattle.ground.specs.Refusals.{OrRefused, gives, refused}
use Rattle.telegram.specs.Picture.{length_byte, telegram_bytes}
use Rattle.telegram.specs.declared.header.DataTelegramHeader.{DataTelegramHeader}
use Rattle.telegram_tx.specs.Writing.{shown_writing, reply_of, send_of, write_of, left_of}
use Rattle.telegram_tx.specs.declared.tx.TelegramTxResponse.{TelegramTxResponse}
use Rattle.ground.specs.declared.refusal.Refusal.{Refusal}
use Rattle.ground.specs.declared.address.Address.{Address}

-- A telegram's bytes, where there is no room for them and where there is.
pub refused_10_of : (t : List ℕ) (reply : Option Address) (room : ℕ) → room < length t → send_of t reply room ≡ refused 10
unfolding send_of
refused_10_of t reply room p = rw (lt-ltb room (length t) p)

pub sent_of_lem :
    (t : List ℕ) (reply : Option Address) (room : ℕ) → length t ≤ room
    → send_of t reply room ≡ gives (record { bytes_sent = length t; expects_reply = reply })
unfolding send_of
sent_of_lem t reply room p = rw (le-ltb room (length t) p)

-- A data telegram: an address above 127 is refused first.
pub refused_8_da : (h : DataTelegramHeader) (pdu : List ℕ) (room : ℕ) → 127 < h.da.0 → write_of h pdu room ≡ refused 8
unfolding write_of
refused_8_da h pdu room p = rw (lt-ltb 127 h.da.0 p)

pub refused_8_sa : (h : DataTelegramHeader) (pdu : List ℕ) (room : ℕ) → 127 < h.sa.0 → write_of h pdu room ≡ refused 8
unfolding write_of
refused_8_sa h pdu room p = rw (lt-ltb 127 h.sa.0 p, or-true)

module _ (h : DataTelegramHeader) (pdu : List ℕ) (room : ℕ) (da : h.da.0 ≤ 127) (sa : h.sa.0 ≤ 127) where
  pub refused_9 : 249 < length_byte h pdu → write_of h pdu room ≡ refused 9
  unfolding write_of
  refused_9 p = rw (le-ltb 127 h.da.0 da, le-ltb 127 h.sa.0 sa, lt-ltb 249 (length_byte h pdu) p)

  pub refused_10 : length_byte h pdu ≤ 249 → room < length (telegram_bytes h pdu) → write_of h pdu room ≡ refused 10
  unfolding write_of
  refused_10 p q =
      rw (le-ltb 127 h.da.0 da, le-ltb 127 h.sa.0 sa, le-ltb 249 (length_byte h pdu) p)
      (refused_10_of (telegram_bytes h pdu) (reply_of h.da h.fc) room q)

  -- Addresses up to 127, a length byte up to 249 and enough room: the telegram is sent.
  pub sent :
      length_byte h pdu ≤ 249 → length (telegram_bytes h pdu) ≤ room
      → write_of h pdu room
      ≡ gives (record { bytes_sent = length (telegram_bytes h pdu); expects_reply = reply_of h.da h.fc })
  unfolding write_of
  sent p q =
      rw (le-ltb 127 h.da.0 da, le-ltb 127 h.sa.0 sa, le-ltb 249 (length_byte h pdu) p)
      (sent_of_lem (telegram_bytes h pdu) (reply_of h.da h.fc) room q)

-- A refused call leaves the buffer as it came; what is sent stands at its front.
pub refused_stays_lem :
    (n : ℕ) (w : OrRefused TelegramTxResponse) (t buf : List ℕ) → w ≡ refused n
    → (refused n ≡ w) × (buf ≡ left_of w t buf)
refused_stays_lem n w t buf e = (sym e, rw e)

pub sent_stands :
    (response : TelegramTxResponse) (w : OrRefused TelegramTxResponse) (t buf after : List ℕ)
    → w ≡ gives response → after ≡ t ++ drop (length t) buf
    → (gives response ≡ w) × (after ≡ left_of w t buf)
sent_stands response w t buf after e f = (sym e, rw e f)

-- What the writer answers is the one that its answer, as it is shown, leads back to.
abbrev writing_back : OrRefused TelegramTxResponse → Result TelegramTxResponse Refusal
writing_back (gives response) = Ok response
writing_back (refused n) = Err (refusal_of n)

writing_again : (x : Result TelegramTxResponse Refusal) → writing_back (shown_writing x) ≡ x
writing_again (Ok response) = refl
writing_again (Err r) = ap Err (refusal_again r)

pub shown_writing_injective : (x y : Result TelegramTxResponse Refusal) → shown_writing x ≡ shown_writing y → x ≡ y
shown_writing_injective = injective shown_writing writing_back writing_again
