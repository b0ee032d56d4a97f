-- Document 01, "The lister": the line of a telegram, `line_at`.
use Rattle.std.specs.Prelude.{List, ℕ, eqb, None, Option, Some}
use Rattle.ground.specs.Part.{byte_at}
use Rattle.ground.specs.Pick.{if}
use Rattle.codes.specs.Delimiters.{SD2}
use Rattle.telegram.specs.declared.kinds.Telegram.{Telegram}
use Rattle.telegram.specs.declared.kinds.Telegram.TheVariants as telegram
use Rattle.listing_lines.specs.declared.line.Kind.TheVariants.{Ack, Token, Data}
use Rattle.listing_lines.specs.declared.line.Line.{Line}
use Rattle.ground.specs.declared.address.Sap.{Sap}

-- where a data telegram's function code stands: behind the delimiter (of SD2: its four bytes), da and sa
abbrev pub code_place : List ℕ → ℕ
code_place s = if (eqb (byte_at s 0) SD2) 6 3

-- a SAP, or `-`
abbrev pub sap_figure : Option Sap → Option ℕ
sap_figure (Some sap) = Some sap.0
sap_figure None = None

-- the line of a telegram of n bytes that starts at a place, where s is the input from there on: "`at` start, `len` telegram length, `fc` the
-- byte received, `pdu` its length, `-` absent"
abbrev pub line_at : ℕ → List ℕ → Telegram → ℕ → Line
line_at at s telegram.ShortConfirmation n =
    record { at = at; kind = Ack; len = n; da = None; sa = None; dsap = None; ssap = None; fc = None; pdu = None }
line_at at s (telegram.Token t) n =
    record {
      at = at;
      kind = Token;
      len = n;
      da = Some t.da.0;
      sa = Some t.sa.0;
      dsap = None;
      ssap = None;
      fc = None;
      pdu = None;
    }
line_at at s (telegram.Data t) n =
    record {
      at = at;
      kind = Data;
      len = n;
      da = Some t.h.da.0;
      sa = Some t.h.sa.0;
      dsap = sap_figure t.h.dsap;
      ssap = sap_figure t.h.ssap;
      fc = Some (byte_at s (code_place s));
      pdu = Some t.pdu.len;
    }
