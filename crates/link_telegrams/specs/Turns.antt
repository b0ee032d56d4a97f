-- A call of an end of the link, whichever end it is: what it says, the end that goes on, and the lent buffer at its end. The calls of
-- `initiator` and `responder` are said in these words. Read `Said`, `Turn`, `writes_of`, `with_room`, `with_lent`, `Made`.
use Rattle.std.specs.Prelude.{ℕ, List, ltb, length}
use Rattle.ground.specs.Pick.{if}
use Rattle.ground.specs.Refusals as refusals
use Rattle.ground.specs.Refusals.{OrRefused}
use Rattle.link_rules.specs.Rules.{longest, room}
use Rattle.telegram.specs.declared.header.DataTelegramHeader.{DataTelegramHeader}
use Rattle.telegram_tx.specs.Writing.{write_of, buffer_of}
use Rattle.telegram_tx.specs.declared.tx.TelegramTxResponse.{TelegramTxResponse}

-- what a call says: a telegram of so many bytes was written; what the application is told; nothing; or a refusal's number
pub data Said (Tale : Type 0) : Type 0 where
  sent : ℕ → Said Tale
  tells : Tale → Said Tale
  nothing : Said Tale
  refused : ℕ → Said Tale

-- a whole call: what it says, the record of the end that comes back, and the lent buffer at its end
pub record Turn (End Tale : Type 0) : Type 0 where
  pub said : Said Tale
  pub end : End
  pub buffer : List ℕ

-- the call says this, and a record goes on; the buffer stays
abbrev pub saying : {End Tale : Type 0} → Said Tale → End → List ℕ → Turn End Tale
saying said end buf = record { said = said; end = end; buffer = buf }

-- in a refused call "records and buffers stay"
abbrev pub refusing : {End Tale : Type 0} → ℕ → End → List ℕ → Turn End Tale
refusing n end buf = saying (refused n) end buf

-- The telegram was written, and the next record goes on. The writer refuses only a link that was never made; so is the call then.
abbrev pub wrote : {End Tale : Type 0} → OrRefused TelegramTxResponse → End → End → List ℕ → Turn End Tale
wrote (refusals.gives response) given next buf = saying (sent response.bytes_sent) next buf
wrote (refusals.refused n) given next buf = refusing n given buf

-- a telegram is written; given is the record that the call was given, next the one that goes on
abbrev pub writes_of : {End Tale : Type 0} → End → End → DataTelegramHeader → List ℕ → List ℕ → Turn End Tale
writes_of given next h pdu buf = wrote (write_of h pdu (length buf)) given next (buffer_of h pdu buf)

-- "link calls that may write want 255 bytes": 10
abbrev pub with_room : {End Tale : Type 0} → End → List ℕ → Turn End Tale → Turn End Tale
with_room end buf turn = if (ltb (length buf) room) (refusing 10 end buf) turn

-- An end in two parts, its head by value and the order or the held reply in lent bytes, wants 246 of those: 10 too.
abbrev pub with_lent : {End Tale : Type 0} → List ℕ → End → List ℕ → Turn End Tale → Turn End Tale
with_lent lent end buf turn = if (ltb (length lent) longest) (refusing 10 end buf) turn

-- making an end: the answer's number, 0 where it was made, and the record
pub record Made (End : Type 0) : Type 0 where
  pub number : ℕ
  pub end : End
