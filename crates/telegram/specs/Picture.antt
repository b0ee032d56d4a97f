-- A telegram as the standard draws it, `telegram_bytes`: which bytes it is. Nothing here knows how a reader or a writer goes about it.
-- (Which byte strings count as a telegram for a reader is said in Begins.antt, with the same pieces.)
use Rattle.std.specs.Prelude.{ℕ, ◌+◌, List, [], ◌∷◌, ◌++◌, eqb, length, None, Option, Some}
use Rattle.codes.specs.Checksums.{checksum_of}
use Rattle.codes.specs.FunctionCodes.{code_byte}
use Rattle.ground.specs.Pick.{if}
use Rattle.codes.specs.Delimiters.{SD1, SD2, SD3, SD4, SC, ED}
use Rattle.telegram.specs.declared.header.DataTelegramHeader.{DataTelegramHeader}
use Rattle.telegram.specs.declared.kinds.DataTelegram.{DataTelegram}
use Rattle.ground.specs.declared.address.Sap.{Sap}

-- an address's byte: its top bit announces a SAP
abbrev pub address_byte : ℕ → Option Sap → ℕ
address_byte a (Some sap) = a + 128
address_byte a None = a

-- a SAP's byte in the content, where there is one
abbrev pub sap_bytes : Option Sap → List ℕ
sap_bytes (Some sap) = sap.0 ∷ []
sap_bytes None = []

-- da, sa, fc, then the SAPs: DSAP before SSAP; the function code by a byte of it
abbrev pub head_with : DataTelegramHeader → ℕ → List ℕ
head_with h code =
    address_byte h.da.0 h.dsap
    ∷ address_byte h.sa.0 h.ssap
    ∷ code
    ∷ sap_bytes h.dsap ++ sap_bytes h.ssap

-- the same with the byte that is written
unfoldable pub head_bytes : DataTelegramHeader → List ℕ
head_bytes h = head_with h (code_byte h.fc)

-- what the length byte counts: from da through the PDU
unfoldable pub covered_bytes : DataTelegramHeader → List ℕ → List ℕ
covered_bytes h pdu = head_bytes h ++ pdu

-- "Length byte = PDU + SAPs + 3"
unfoldable pub length_byte : DataTelegramHeader → List ℕ → ℕ
length_byte h pdu = length (covered_bytes h pdu)

-- "3 gives SD1, 11 gives SD3 (SAPs counted too), others SD2", which has the length twice and its delimiter again
unfoldable pub start_bytes : ℕ → List ℕ
start_bytes l = if (eqb l 3) (SD1 ∷ []) (if (eqb l 11) (SD3 ∷ []) (SD2 ∷ l ∷ l ∷ SD2 ∷ []))

-- the start, what the length byte counts, its checksum, the end delimiter
abbrev pub framed : List ℕ → List ℕ → List ℕ
framed start covered = start ++ covered ++ checksum_of covered ∷ ED ∷ []

-- a data telegram as it is written
unfoldable pub telegram_bytes : DataTelegramHeader → List ℕ → List ℕ
telegram_bytes h pdu = framed (start_bytes (length_byte h pdu)) (covered_bytes h pdu)

-- the data telegram of a header and a PDU, where its bytes stand at the front of others
abbrev pub at_front : DataTelegramHeader → List ℕ → DataTelegram
at_front h pdu =
    record {
      h = h;
      pdu = record { start = length (start_bytes (length_byte h pdu) ++ head_bytes h); len = length pdu };
    }

-- a token: da then sa, whole bytes
abbrev pub token_bytes : ℕ → ℕ → List ℕ
token_bytes da sa = SD4 ∷ da ∷ sa ∷ []

-- a short confirmation
abbrev pub confirmation_bytes : List ℕ
confirmation_bytes = SC ∷ []
