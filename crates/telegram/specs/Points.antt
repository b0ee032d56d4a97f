-- The points in which document 01, as the Rust, reads more than the standard draws: `Beyond`. There is no other, and a telegram of which one
-- holds is none of the standard's there: `only_these_points` and
-- `beyond_not_standard` of proofs/Theorems.antt.
use Rattle.std.specs.Prelude.{ℕ, ◌+◌, ◌<◌, List, [], ◌∷◌, ◌++◌, ◌⊎◌, ◌≡◌, Option, Some}
use Rattle.codes.specs.Delimiters.{SD2}
use Rattle.codes.specs.FunctionCodes.{code_byte, CodeRead}
use Rattle.ground.specs.declared.address.Sap.{Sap}
use Rattle.telegram.specs.Begins.{document01, Draws}
use Rattle.telegram.specs.Picture.{head_with, framed}
use Rattle.telegram.specs.declared.kinds.DataTelegram.{DataTelegram}
use Rattle.telegram.specs.declared.kinds.Telegram.{Telegram}
use Rattle.telegram.specs.declared.kinds.Telegram.TheVariants.{Data, Token, ShortConfirmation}
use Rattle.telegram.specs.declared.kinds.TokenTelegram.{TokenTelegram}

-- A start of an SD2 telegram: its L is 3 or above 249, or its fourth byte is not 68.
pub data StartBeyond : List ℕ → Type 0 where
  length_outside : {l fourth : ℕ} → (l < 4) ⊎ (249 < l) → StartBeyond (SD2 ∷ l ∷ l ∷ fourth ∷ [])
  fourth_not68 : {l fourth : ℕ} → (fourth ≡ SD2 → ⊥) → StartBeyond (SD2 ∷ l ∷ l ∷ fourth ∷ [])

-- A SAP's byte above 63.
pub data SapBeyond : Option Sap → Type 0 where
  above63 : {sap : Sap} → 63 < sap.0 → SapBeyond (Some sap)

-- Of a data telegram, by what stands before da and the byte of its function code.
pub data DataBeyond (d : DataTelegram) (start : List ℕ) (code : ℕ) : Type 0 where
  start_beyond : StartBeyond start → DataBeyond d start code
  bit7 : code ≡ code_byte d.h.fc + 128 → DataBeyond d start code
  dsap_beyond : SapBeyond d.h.dsap → DataBeyond d start code
  ssap_beyond : SapBeyond d.h.ssap → DataBeyond d start code
  source_beyond : 126 < d.h.sa.0 → DataBeyond d start code

-- Of a token.
pub data TokenBeyond (t : TokenTelegram) : Type 0 where
  da_beyond : 126 < t.da.0 → TokenBeyond t
  sa_beyond : 126 < t.sa.0 → TokenBeyond t

-- One of these points holds of a telegram that document 01 draws. A short confirmation has none.
abbrev pub Beyond : (t : Telegram) (picture : List ℕ) → Draws document01 t picture → Type 0
Beyond (Data d) picture draws = DataBeyond d draws.start draws.code
Beyond (Token t) picture draws = TokenBeyond t
Beyond ShortConfirmation picture draws = ⊥

-- Two starts that differ at most in an SD2 telegram's fourth byte.
pub data StartsAlike : List ℕ → List ℕ → Type 0 where
  same_start : {start : List ℕ} → StartsAlike start start
  other_fourth : {l fourth another : ℕ} → StartsAlike (SD2 ∷ l ∷ l ∷ fourth ∷ []) (SD2 ∷ l ∷ l ∷ another ∷ [])

-- The bytes of two data telegrams with one header and one PDU: they differ at most in the fourth byte, in bit 7 of a response's code, and so in
-- the checksum.
pub record Alike (d : DataTelegram) (picture another : List ℕ) : Type 0 where
  pub start : List ℕ
  pub other : List ℕ
  pub code : ℕ
  pub other_code : ℕ
  pub pdu : List ℕ
  pub left : picture ≡ framed start (head_with d.h code ++ pdu)
  pub right : another ≡ framed other (head_with d.h other_code ++ pdu)
  pub starts : StartsAlike start other
  pub code_is : CodeRead d.h.fc code
  pub other_is : CodeRead d.h.fc other_code
