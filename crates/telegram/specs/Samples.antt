-- The smallest inputs of the points in which reading takes more than the standard draws: `BeyondTheStandard`.
use Rattle.std.specs.Prelude.{ℕ, List, [], ◌∷◌, ◌++◌, ◌≡◌, replicate, None, Option, Some}
use Rattle.codes.specs.FunctionCodes.{response_code}
use Rattle.codes.specs.declared.response.ResponseState.TheVariants.{Slave}
use Rattle.codes.specs.declared.response.ResponseStatus.TheVariants.{Ok}
use Rattle.telegram.specs.Begins.{standard, Begins}
use Rattle.telegram.specs.Reading.{whole, read_of}
use Rattle.telegram.specs.declared.kinds.Telegram.{Telegram}
use Rattle.telegram.specs.declared.kinds.Telegram.TheVariants.{Data, Token}
use Rattle.ground.specs.declared.address.Sap.{Sap}

-- a telegram to 0 from this source, with these SAPs, state Slave, status Ok
abbrev from_to : ℕ → Option Sap → Option Sap → ℕ → ℕ → Telegram
from_to sa dsap ssap start len =
    Data
    (record {
      h =
          record {
            da = record { 0 = 0 };
            sa = record { 0 = sa };
            dsap = dsap;
            ssap = ssap;
            fc = response_code Slave Ok;
          };
      pdu = record { start = start; len = len };
    })

-- the same from 0, without SAPs
abbrev zeros : ℕ → ℕ → Telegram
zeros start len = from_to 0 None None start len

-- a token
abbrev token : ℕ → ℕ → Telegram
token da sa = Token (record { da = record { 0 = da }; sa = record { 0 = sa } })

-- Bytes that are read as this telegram, and that begin with no telegram of the standard.
pub record ReadBeyond (s : List ℕ) (t : Telegram) (n : ℕ) : Type 0 where
  pub is_read : read_of s ≡ whole t n
  pub not_drawn : (t : Telegram) (m : ℕ) → Begins standard s t m → ⊥

-- Each point in which document 01 reads more than the standard draws, L at both ends, either SAP, either address of a token.
pub record BeyondTheStandard : Type 0 where
  -- the fourth byte is not 68
  pub fourth_byte : ReadBeyond (0x68 ∷ 0x04 ∷ 0x04 ∷ 0x00 ∷ 0x00 ∷ 0x00 ∷ 0x00 ∷ 0x00 ∷ 0x00 ∷ 0x16 ∷ []) (zeros 7 1) 10
  -- L is 3
  pub length_three : ReadBeyond (0x68 ∷ 0x03 ∷ 0x03 ∷ 0x68 ∷ 0x00 ∷ 0x00 ∷ 0x00 ∷ 0x00 ∷ 0x16 ∷ []) (zeros 7 0) 9
  -- L is above 249
  pub length250 : ReadBeyond (0x68 ∷ 0xFA ∷ 0xFA ∷ 0x68 ∷ replicate 251 0 ++ 0x16 ∷ []) (zeros 7 247) 256
  -- bit 7 of a response is set
  pub bit7 : ReadBeyond (0x10 ∷ 0x00 ∷ 0x00 ∷ 0x80 ∷ 0x80 ∷ 0x16 ∷ []) (zeros 4 0) 6
  -- the byte of a DSAP, and of an SSAP, is above 63
  pub dsap64 : ReadBeyond (0x68 ∷ 0x04 ∷ 0x04 ∷ 0x68 ∷ 0x80 ∷ 0x00 ∷ 0x00 ∷ 0x40 ∷ 0xC0 ∷ 0x16 ∷ []) (from_to 0 (Some (record { 0 = 64 })) None 8 0) 10
  pub ssap64 : ReadBeyond (0x68 ∷ 0x04 ∷ 0x04 ∷ 0x68 ∷ 0x00 ∷ 0x80 ∷ 0x00 ∷ 0x40 ∷ 0xC0 ∷ 0x16 ∷ []) (from_to 0 None (Some (record { 0 = 64 })) 8 0) 10
  -- the source is 127
  pub source127 : ReadBeyond (0x10 ∷ 0x00 ∷ 0x7F ∷ 0x00 ∷ 0x7F ∷ 0x16 ∷ []) (from_to 127 None None 4 0) 6
  -- an address of a token is above 126
  pub token_to127 : ReadBeyond (0xDC ∷ 0x7F ∷ 0x00 ∷ []) (token 127 0) 3
  pub token_from127 : ReadBeyond (0xDC ∷ 0x00 ∷ 0x7F ∷ []) (token 0 127) 3
