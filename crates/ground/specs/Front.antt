-- A buffer with bytes at its front.
use Rattle.std.specs.Prelude.{ℕ, List, ◌++◌, leb, length, drop}
use Rattle.ground.specs.Pick.{if}

-- the bytes, then what stood behind them; as it came where they do not fit
unfoldable pub copied_to : List ℕ → List ℕ → List ℕ
copied_to buffer bytes = if (leb (length bytes) (length buffer)) (bytes ++ drop (length bytes) buffer) buffer
