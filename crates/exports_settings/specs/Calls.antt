-- What the settings calls tell a program in another language: numbers alone. Read `koy_settings_read` and `koy_settings_write`, the promises
-- of the calls so named.
use Rattle.std.specs.Prelude.{ℕ, List, [], ◌∷◌, length}
use Rattle.settings.specs.Reading as reading
use Rattle.settings.specs.Text.{text_of}
use Rattle.settings.specs.Writing as writing

-- a call: its code, and the lent numbers at its end
pub record ReadCall : Type 0 where
  pub code : ℕ
  pub told : List ℕ

-- 0 with own, peer and tries; or a refusal's number
abbrev pub read_call : reading.ReadAnswer → List ℕ → ReadCall
read_call (reading.settings own peer tries) before = record { code = 0; told = own ∷ peer ∷ tries ∷ [] }
read_call (reading.refused n) before = record { code = n; told = before }

-- `koy_settings_read`: what this text says
abbrev pub koy_settings_read : List ℕ → List ℕ → ReadCall
koy_settings_read text told = read_call (reading.read_of text) told

-- a call: its code, and what was lent at its end
pub record WriteCall : Type 0 where
  pub code : ℕ
  pub told : List ℕ
  pub buffer : List ℕ

-- 0 with the text's length; or a refusal's number
abbrev pub write_call : writing.WriteAnswer → List ℕ → List ℕ → WriteCall
write_call (writing.written len) before buf = record { code = 0; told = len ∷ []; buffer = buf }
write_call (writing.refused n) before buf = record { code = n; told = before; buffer = buf }

-- `koy_settings_write`: the writer's answer, and the buffer that it leaves
abbrev pub koy_settings_write : ℕ → ℕ → ℕ → List ℕ → List ℕ → WriteCall
koy_settings_write own peer tries buf told =
    write_call (writing.write_of own peer tries (length buf)) told
    (writing.left_by buf (text_of own peer tries) (writing.write_of own peer tries (length buf)))
