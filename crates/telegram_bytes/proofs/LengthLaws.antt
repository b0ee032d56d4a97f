-- Laws of a telegram's start, and of how long its head, its start and the whole are.
use Rattle.std.proofs.Common.{◌≡◌, ℕ, ◌+◌, ◌≤◌, eqb, List, [], ◌∷◌, ◌++◌, length, arith, lit≤, length-append, ne_eqb}
use Rattle.ground.proofs.PickLaws.{picked}
use Rattle.codes.specs.Delimiters.{SD1, SD2, SD3}
use Rattle.telegram.specs.Picture.{sap_bytes, start_bytes}
use Rattle.telegram_bytes.specs.Serialized.{coded_head, coded_length, coded_bytes}
use Rattle.telegram_bytes.specs.declared.coded.CodedHeader.{CodedHeader}

pub head_length :
    (h : CodedHeader)
    → length (coded_head h) ≡ 3 + length (sap_bytes h.dsap) + length (sap_bytes h.ssap)
unfolding coded_head
head_length h = rw length-append (omega arith)

pub coded_length_split : (h : CodedHeader) (pdu : List ℕ) → coded_length h pdu ≡ length (coded_head h) + length pdu
unfolding coded_length
coded_length_split h pdu = length-append (coded_head h) pdu

-- "Length byte = PDU + SAPs + 3"
pub coded_length_is :
    (h : CodedHeader) (pdu : List ℕ)
    → coded_length h pdu ≡ length pdu + length (sap_bytes h.dsap) + length (sap_bytes h.ssap) + 3
coded_length_is h pdu = rw (coded_length_split, head_length) (omega arith)

-- The start of each length, and what holds of all three holds of any start.
pub start_3 : (l : ℕ) → l ≡ 3 → start_bytes l ≡ SD1 ∷ []
unfolding start_bytes
start_3 l e = rw e

pub start_11 : (l : ℕ) → l ≡ 11 → start_bytes l ≡ SD3 ∷ []
unfolding start_bytes
start_11 l e = rw e

pub start_else : (l : ℕ) → (l ≡ 3 → ⊥) → (l ≡ 11 → ⊥) → start_bytes l ≡ SD2 ∷ l ∷ l ∷ SD2 ∷ []
unfolding start_bytes
start_else l p q = rw (ne_eqb l 3 p, ne_eqb l 11 q)

pub any_start :
    (P : List ℕ → Type 0) (l : ℕ) → P (SD1 ∷ []) → P (SD3 ∷ []) → P (SD2 ∷ l ∷ l ∷ SD2 ∷ [])
    → P (start_bytes l)
unfolding start_bytes
any_start P l sd1 sd3 sd2 = picked P (eqb l 3) (λ e. sd1) (λ e. picked P (eqb l 11) (λ f. sd3) (λ f. sd2))

pub start_short : (l : ℕ) → length (start_bytes l) ≤ 4
start_short l = any_start (λ s. length s ≤ 4) l (lit≤ tt) (lit≤ tt) (lit≤ tt)

-- "Totals: SD1 6, SD3 14, SD2 L + 6": the start, what the length byte counts, the checksum and the end delimiter.
pub coded_bytes_length :
    (h : CodedHeader) (pdu : List ℕ)
    → length (coded_bytes h pdu) ≡ length (start_bytes (coded_length h pdu)) + coded_length h pdu + 2
unfolding coded_bytes coded_length
coded_bytes_length h pdu =
    let covered : List ℕ = coded_head h ++ pdu in
    rw (length-append (start_bytes (coded_length h pdu) ++ covered), length-append (start_bytes (coded_length h pdu)) covered)
