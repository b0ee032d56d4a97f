-- Document 01, "Writing": "the reverse holds only for what a writer would write". What the reverse is: writing what was read.
use Rattle.std.specs.Prelude.{ℕ, List, ◌++◌, ◌≡◌, length, take, drop}
use Rattle.ground.specs.Part.{shown_part}
use Rattle.ground.specs.Refusals.{gives}
use Rattle.telegram.specs.declared.kinds.DataTelegram.{DataTelegram}
use Rattle.telegram_tx.specs.Writing.{reply_of, write_of, buffer_of}

-- what was read from s, in n bytes, is sent again, and stands in the buffer with the bytes that it was read from
pub record WrittenBack (s : List ℕ) (d : DataTelegram) (n : ℕ) (buf : List ℕ) : Type 0 where
  pub answer :
      write_of d.h (shown_part d.pdu s) (length buf)
      ≡ gives (record { bytes_sent = n; expects_reply = reply_of d.h.da d.h.fc })
  pub buffer : buffer_of d.h (shown_part d.pdu s) buf ≡ take n s ++ drop n buf
