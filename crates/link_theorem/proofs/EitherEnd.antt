-- What the calls of the two ends have in common: `written`, a telegram that may be written is; `with_room_lem`, the room is judged first.
use Prim.Native.Nat.{ℕ, ◌≤◌}
use mathlib.Core.Bool.{Bool, true, false, ◌&&◌}
use mathlib.Core.List.{List}
use mathlib.Core.Option.{some}
use mathlib.Core.Path.{◌≡◌, refl, ap}
use native.Mathlib.Nat.{le_trans}
use lib.Dec.{leb}
use lib.ListN.{length, drop}
use lib.Seq.{take-append_seam}
use borrow.Author.Tests.{leb-true, leb-false, le-ltb, lt-ltb}
use Rattle.ground.specs.Pick.{if}
use Rattle.demand_3.proofs.Follows.{Same}
use Rattle.demand_3.specs.Turns.{nothing, Turn, refusing}
use Rattle.link_rules.specs.Rules.{room}
use Rattle.link_telegrams.specs.Turns as call
use Rattle.link_theorem.specs.OrderLink.{turn_of}
use Rattle.telegram.specs.Picture.{length_byte, telegram_bytes}
use Rattle.telegram.specs.declared.header.DataTelegramHeader.{DataTelegramHeader}
use Rattle.telegram_tx.proofs.LengthLaws.{telegram_short}
use Rattle.telegram_tx.proofs.WritingLaws as writing

-- a turn that wrote these bytes
abbrev pub wrote_turn : {End Shown : Type 0} → End → List ℕ → Turn End (List ℕ) Shown
wrote_turn next w = record { next = next; writes = some w; says = nothing }

-- A telegram that may be written is written, and is the front of the buffer that the answer names.
pub written :
    {End Tale Shown : Type 0} (show : Tale → Shown) (given next : End) (h : DataTelegramHeader) (pdu buf : List ℕ)
    → h.da.0 ≤ 127 → h.sa.0 ≤ 127 → length_byte h pdu ≤ 249 → room ≤ length buf
    → turn_of show (call.writes_of given next h pdu buf) ≡ wrote_turn next (telegram_bytes h pdu)
written show given next h pdu buf da sa l wide =
    rw (writing.sent h pdu (length buf) da sa l (le_trans (telegram_short h pdu l) wide))
    (ap (λ (w : List ℕ). wrote_turn next w)
    (take-append_seam (telegram_bytes h pdu) (drop (length (telegram_bytes h pdu)) buf)))

-- Two tests at once are one after the other.
pub both : {A : Type 0} (t o : Bool) (y z : A) → if (t && o) y z ≡ if t (if o y z) z
both true o y z = refl
both false o y z = refl

-- "link calls that may write want 255 bytes": the room is judged first, by the one test and by the other.
module _ {End Tale Shown Seen : Type 0} (show : Tale → Shown) (seen : End → Seen) (Of : End → Type 0) where
  pub with_room_lem :
      (end : End) (buf : List ℕ) (x : call.Turn End Tale) (y : Turn Seen (List ℕ) Shown) (t : Bool)
      → leb room (length buf) ≡ t → Of end
      → (room ≤ length buf → Same seen (λ s. s) Of (λ s. Unit {0}) (turn_of show x) y)
      → Same seen (λ s. s) Of (λ s. Unit {0}) (turn_of show (call.with_room end buf x)) (if t y (refusing (seen end)))
  with_room_lem end buf x y true e of f = rw (le-ltb _ _ (leb-true _ _ e)) (f (leb-true _ _ e))
  with_room_lem end buf x y false e of f =
      rw (lt-ltb _ _ (leb-false _ _ e)) (record { same = refl; sound_next = of; sound_writes = tt })
