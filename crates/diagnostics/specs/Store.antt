-- Document 01, "Diagnostics": the store, which is a lent slice and a length. Read `walked_of` and `fill_of`.
use Rattle.std.specs.Prelude.{ℕ, Bool, true, false, List, ◌++◌, length, take, drop, ltb, eqb}
use Rattle.ground.specs.Pick.{if}

-- diagnostics are collected where the store has room for them
abbrev pub available_of : List ℕ → Bool
available_of store = ltb 0 (length store)

-- what is walked: so many bytes of the store; a walked length above the store counts as the store's
abbrev pub walked_of : ℕ → List ℕ → List ℕ
walked_of walked store = take walked store

-- what filling answers and leaves
pub record Filling : Type 0 where
  pub answer : Bool
  pub walked : ℕ
  pub store : List ℕ

-- filling: a store of length 0, or shorter than the data, keeps everything and answers false; else the data goes to its
-- front, its length is theirs, true
unfoldable pub fill_of : List ℕ → ℕ → List ℕ → Filling
fill_of store walked bytes =
    if (eqb (length store) 0) (record { answer = false; walked = walked; store = store })
    (if (ltb (length store) (length bytes)) (record { answer = false; walked = walked; store = store })
    (record { answer = true; walked = length bytes; store = bytes ++ drop (length bytes) store }))
