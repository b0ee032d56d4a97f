-- What private functions promise each other. Nothing here has to be believed: no promise of a public call cites it.
-- What a leaf that writes into the buffer leaves there: `Stored`, `Covers`, `Fitted`; and what `put_telegram` asks for: `Writable`.
use Rattle.std.specs.Prelude.{◌≡◌, ℕ, ◌+◌, ◌%◌, ◌<◌, ◌≤◌, List, length, None, Option, Some}
use Rattle.std.proofs.lemmas.List.Edits.{sets}
use Rattle.codes.specs.Checksums.{sum_of}
use Rattle.telegram_bytes.specs.Serialized.{coded_length}
use Rattle.telegram_bytes.specs.declared.coded.CodedHeader.{CodedHeader}
use Rattle.telegram_bytes.specs.declared.put.Place.{Place}

-- the bytes p were stored one by one from a place on, and the next place is behind them; all other bytes stayed
pub record Stored (before : List ℕ) (at : ℕ) (p : List ℕ) (next : ℕ) (after : List ℕ) : Type 0 where
  pub next_place : next ≡ at + length p
  pub buffer : after ≡ sets before at p

-- the same, and the bytes p are added to the sum
pub record Covers (before : List ℕ) (place : Place) (p : List ℕ) (next : Place) (after : List ℕ) : Type 0 where
  pub stored : Stored before place.at p next.at after
  pub sum : next.sum ≡ (place.sum + sum_of p) % 256

-- the bytes p at the buffer's front where it has so much room, and the place behind them; else nothing
abbrev pub Fitted : List ℕ → ℕ → List ℕ → Option ℕ → List ℕ → Type 0
Fitted before room p None after = (length before < room) × (after ≡ before)
Fitted before room p (Some next) after = (room ≤ length before) × Stored before 0 p next after

-- what is known where a data telegram is written: its addresses and its length byte
pub record Writable (h : CodedHeader) (pdu : List ℕ) (l : ℕ) : Type 0 where
  pub destination : h.da.0 ≤ 127
  pub source : h.sa.0 ≤ 127
  pub length_is : l ≡ coded_length h pdu
  pub short : l ≤ 249
