-- What reading a telegram tells a program in another language: numbers alone. Read `koy_read`, the promise of `koy_read`, and `told_of`.
use Rattle.std.specs.Prelude.{ℕ, List, [], ◌∷◌, None, Option, Some}
use Rattle.codes.specs.FunctionCodes.{code_byte}
use Rattle.telegram.specs.Reading.{Reading, whole, incomplete, refused, read_of}
use Rattle.telegram.specs.declared.header.DataTelegramHeader.{DataTelegramHeader}
use Rattle.telegram.specs.declared.kinds.Telegram.{Telegram}
use Rattle.telegram.specs.declared.kinds.Telegram.TheVariants.{Data, Token, ShortConfirmation}
use Rattle.ground.specs.declared.address.Sap.{Sap}

-- stands where a byte is absent: no byte is 256
abbrev pub absent : ℕ
absent = 256

-- the code of "incomplete": no refusal has it
abbrev pub incomplete_code : ℕ
incomplete_code = 100

abbrev pub sap_number : Option Sap → ℕ
sap_number (Some sap) = sap.0
sap_number None = absent

abbrev pub data_told : DataTelegramHeader → ℕ → ℕ → ℕ → List ℕ
data_told h start len total =
    3 ∷ total ∷ h.da.0 ∷ h.sa.0 ∷ sap_number h.dsap ∷ sap_number h.ssap ∷ code_byte h.fc ∷ start ∷ len ∷ []

-- kind, total length, da, sa, DSAP, SSAP, function code, start and length of the PDU
abbrev pub told_of : Telegram → ℕ → List ℕ
told_of ShortConfirmation total = 1 ∷ total ∷ absent ∷ absent ∷ absent ∷ absent ∷ absent ∷ 0 ∷ 0 ∷ []
told_of (Token t) total = 2 ∷ total ∷ t.da.0 ∷ t.sa.0 ∷ absent ∷ absent ∷ absent ∷ 0 ∷ 0 ∷ []
told_of (Data t) total = data_told t.h t.pdu.start t.pdu.len total

-- a call: its code, and the lent numbers at its end
pub record ReadCall : Type 0 where
  pub code : ℕ
  pub told : List ℕ

-- 0 and what was read, or a code beside numbers that stay
abbrev pub read_call : Reading → List ℕ → ReadCall
read_call (whole t total) before = record { code = 0; told = told_of t total }
read_call incomplete before = record { code = incomplete_code; told = before }
read_call (refused n) before = record { code = n; told = before }

-- `koy_read`: what the reader finds in these bytes
abbrev pub koy_read : List ℕ → List ℕ → ReadCall
koy_read bytes told = read_call (read_of bytes) told
