-- Document 01, "Writing", of a header that has the byte of its function code: the telegram's bytes, `coded_bytes`; what is answered,
-- `serialize_of`, and the whole buffer that is left, `serialized_to`.
use Rattle.std.specs.Prelude.{ℕ, ◌||◌, List, ◌∷◌, ◌++◌, length, drop, nat_lt, Err, Ok, Result}
use Rattle.ground.specs.Pick.{if}
use Rattle.ground.specs.Refusals.{OrRefused, gives, refused, number_of}
use Rattle.telegram.specs.Picture.{address_byte, sap_bytes, start_bytes, framed}
use Rattle.telegram_bytes.specs.declared.coded.CodedHeader.{CodedHeader}
use Rattle.ground.specs.declared.refusal.Refusal.{Refusal}

-- the picture's `head_bytes`, `length_byte` and `telegram_bytes`, of a header whose function code is a byte
unfoldable pub coded_head : CodedHeader → List ℕ
coded_head h =
    address_byte h.da.0 h.dsap
    ∷ address_byte h.sa.0 h.ssap
    ∷ h.code
    ∷ sap_bytes h.dsap ++ sap_bytes h.ssap

unfoldable pub coded_length : CodedHeader → List ℕ → ℕ
coded_length h pdu = length (coded_head h ++ pdu)

unfoldable pub coded_bytes : CodedHeader → List ℕ → List ℕ
coded_bytes h pdu = framed (start_bytes (coded_length h pdu)) (coded_head h ++ pdu)

-- what is answered, with document 01's number
abbrev pub shown_serialized : Result ℕ Refusal → OrRefused ℕ
shown_serialized (Ok n) = gives n
shown_serialized (Err refusal) = refused (number_of refusal)

-- "da or sa above 127": 8; "length byte above 249": 9; "buffer too short": 10; else the telegram's length
unfoldable pub serialize_of : CodedHeader → List ℕ → ℕ → OrRefused ℕ
serialize_of h pdu room =
    if (nat_lt 127 h.da.0 || nat_lt 127 h.sa.0) (refused 8)
    (if (nat_lt 249 (coded_length h pdu)) (refused 9)
    (if (nat_lt room (length (coded_bytes h pdu))) (refused 10) (gives (length (coded_bytes h pdu)))))

-- the buffer: these bytes at its front, and "bytes past the telegram stay"; as it came where it was refused
abbrev pub front_of : OrRefused ℕ → List ℕ → List ℕ → List ℕ
front_of (gives n) t buf = t ++ drop (length t) buf
front_of (refused n) t buf = buf

abbrev pub serialized_to : CodedHeader → List ℕ → List ℕ → List ℕ
serialized_to h pdu buf = front_of (serialize_of h pdu (length buf)) (coded_bytes h pdu) buf
