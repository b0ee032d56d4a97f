-- What reading a telegram in strict mode tells a program in another language: `koy_read_strict`, the promise of `koy_read_strict`, in the numbers of
-- `koy_read`.
use Rattle.std.specs.Prelude.{ℕ, List}
use Rattle.exports_telegrams.specs.Read.{ReadCall, read_call}
use Rattle.telegram_strict.specs.Strict.{strict_of}

abbrev pub koy_read_strict : List ℕ → List ℕ → ReadCall
koy_read_strict bytes told = read_call (strict_of bytes) told
