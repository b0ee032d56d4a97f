-- "These bytes begin with this telegram", `Begins`: a telegram's picture as a relation, which knows nothing of how a reader goes about it,
-- under the rules of the standard (`standard`), the wider ones of document 01 (`document01`) and those between the two of strict mode (`strict`).
-- What is said of the standard here is what people of the trade know of it; its text is not at hand. Points.antt names each point in which
-- document 01 is wider.
use Rattle.std.specs.Prelude.{ℕ, ◌<◌, ◌≤◌, List, [], ◌∷◌, ◌++◌, ◌≡◌, length, None, Option, Some}
use Rattle.codes.specs.FunctionCodes.{code_byte, CodeRead}
use Rattle.ground.specs.Part.{byte_at}
use Rattle.codes.specs.declared.function_code.FunctionCode.{FunctionCode}
use Rattle.codes.specs.Delimiters.{SD1, SD2, SD3}
use Rattle.telegram.specs.Picture.{head_with, start_bytes, framed, token_bytes, confirmation_bytes}
use Rattle.telegram.specs.declared.kinds.DataTelegram.{DataTelegram}
use Rattle.telegram.specs.declared.kinds.Telegram.{Telegram}
use Rattle.telegram.specs.declared.kinds.Telegram.TheVariants.{Data, Token, ShortConfirmation}
use Rattle.telegram.specs.declared.kinds.TokenTelegram.{TokenTelegram}
use Rattle.ground.specs.declared.address.Sap.{Sap}

-- What may stand in a telegram, place by place.
pub record Rules : Type 1 where
  -- the length byte of an SD2 telegram
  pub length_may_be : ℕ → Type 0
  -- the fourth byte of an SD2 telegram
  pub fourth_may_be : ℕ → Type 0
  -- the byte of a function code
  pub code_may_be : FunctionCode → ℕ → Type 0
  -- the byte of a SAP
  pub sap_may_be : ℕ → Type 0
  -- the source address of a data telegram
  pub source_may_be : ℕ → Type 0
  -- an address of a token
  pub token_may_be : ℕ → Type 0

-- The standard: L from 4 to 249, the delimiter again, and bit 7 of a response clear. An address extension that is a SAP is an octet below 64: above, it
-- is a region or segment address, or one more extension follows. Stations have the addresses 0 to 126; 127, the global address, is a
-- destination only, and none of a token's.
abbrev pub standard : Rules
standard =
    record {
      length_may_be = λ l. (4 ≤ l) × (l ≤ 249);
      fourth_may_be = λ b. b ≡ SD2;
      code_may_be = λ fc b. b ≡ code_byte fc;
      sap_may_be = λ b. b < 64;
      source_may_be = λ a. a ≤ 126;
      token_may_be = λ a. a ≤ 126;
    }

-- Document 01, as the Rust, reads more in six points: L of 3 and above 249 too; "an SD2 telegram's fourth byte is never looked at";
-- bit 7 of a response either way; any byte for a SAP; 127 as a source; and a token's addresses "whole bytes".
abbrev pub document01 : Rules
document01 =
    record {
      length_may_be = λ l. 3 ≤ l;
      fourth_may_be = λ b. Unit;
      code_may_be = CodeRead;
      sap_may_be = λ b. Unit;
      source_may_be = λ a. Unit;
      token_may_be = λ a. Unit;
    }

-- Strict mode (request 2026-05): "the fourth byte must be 68, and L must lie in 4 to 249, as the standard has it"; the rest as in document 01.
abbrev pub strict : Rules
strict =
    record {
      length_may_be = λ l. (4 ≤ l) × (l ≤ 249);
      fourth_may_be = λ b. b ≡ SD2;
      code_may_be = CodeRead;
      sap_may_be = λ b. Unit;
      source_may_be = λ a. Unit;
      token_may_be = λ a. Unit;
    }

-- What a writer writes is the standard's in the three points of its own; SAPs and addresses are its caller's, and any byte of theirs is taken.
abbrev pub written : Rules
written =
    record {
      length_may_be = λ l. (4 ≤ l) × (l ≤ 249);
      fourth_may_be = λ b. b ≡ SD2;
      code_may_be = λ fc b. b ≡ code_byte fc;
      sap_may_be = λ b. Unit;
      source_may_be = λ a. Unit;
      token_may_be = λ a. Unit;
    }

-- A SAP, where there is one, may be so.
abbrev pub SapMayBe : Rules → Option Sap → Type 0
SapMayBe rules (Some sap) = rules.sap_may_be sap.0
SapMayBe rules None = Unit

-- What stands before da, where l bytes stand from there through the PDU.
pub data StartOf (rules : Rules) : ℕ → List ℕ → Type 0 where
  with_sd1 : StartOf rules 3 (SD1 ∷ [])
  with_sd3 : StartOf rules 11 (SD3 ∷ [])
  with_sd2 : {l fourth : ℕ} → rules.length_may_be l → rules.fourth_may_be fourth → StartOf rules l (SD2 ∷ l ∷ l ∷ fourth ∷ [])

-- These bytes are a data telegram: its header and a PDU, framed; addresses have seven bits; and the telegram says where
-- its PDU stands.
pub record DrawsData (rules : Rules) (d : DataTelegram) (picture : List ℕ) : Type 0 where
  -- what stands before da, the function code's byte, and the PDU
  pub start : List ℕ
  pub code : ℕ
  pub pdu : List ℕ
  -- the bytes
  pub drawn : picture ≡ framed start (head_with d.h code ++ pdu)
  -- what may stand in them
  pub start_is : StartOf rules (length (head_with d.h code ++ pdu)) start
  pub code_is : rules.code_may_be d.h.fc code
  pub dsap_is : SapMayBe rules d.h.dsap
  pub ssap_is : SapMayBe rules d.h.ssap
  pub da_small : d.h.da.0 ≤ 127
  pub sa_small : d.h.sa.0 ≤ 127
  pub source_is : rules.source_may_be d.h.sa.0
  -- where the PDU stands
  pub pdu_start : d.pdu.start ≡ length (start ++ head_with d.h code)
  pub pdu_len : d.pdu.len ≡ length pdu

-- What a writer would write: the start that the length byte gives, and the function code's one byte.
pub record AsWritten {rules : Rules} {d : DataTelegram} {picture : List ℕ} (draws : DrawsData rules d picture) : Type 0 where
  pub start_written : draws.start ≡ start_bytes (length (head_with d.h draws.code ++ draws.pdu))
  pub code_written : draws.code ≡ code_byte d.h.fc

-- These bytes are a token: its two addresses, whole bytes.
pub record DrawsToken (rules : Rules) (t : TokenTelegram) (picture : List ℕ) : Type 0 where
  pub drawn : picture ≡ token_bytes t.da.0 t.sa.0
  pub da_is : rules.token_may_be t.da.0
  pub sa_is : rules.token_may_be t.sa.0

-- These bytes are this telegram.
abbrev pub Draws : Rules → Telegram → List ℕ → Type 0
Draws rules (Data d) picture = DrawsData rules d picture
Draws rules (Token t) picture = DrawsToken rules t picture
Draws rules ShortConfirmation picture = picture ≡ confirmation_bytes

-- These bytes begin with this telegram, whose total length is n; anything may follow it.
pub record Begins (rules : Rules) (s : List ℕ) (t : Telegram) (n : ℕ) : Type 0 where
  pub picture : List ℕ
  pub rest : List ℕ
  pub draws : Draws rules t picture
  pub bytes : s ≡ picture ++ rest
  pub total : n ≡ length picture

-- A list of bytes.
abbrev pub Bytes : List ℕ → Type 0
Bytes s = (i : ℕ) → byte_at s i < 256
