-- Demand 1: "A refused call leaves its records and lent buffers exactly as they came; only a refused diagnostics walk moves, to its end."
-- What that is of any call and its promise, in the words of `Determined`: of each outcome that the promise allows and whose result shows a
-- refusal. Read `RefusedLeaves`, then `RefusedStays` and `RefusedKeeps`, to which every call is held but the walk.
use Rattle.std.specs.Prelude.{ℕ, ◌≤◌, ◌<◌, ◌≡◌}
use denote.Triple.Clauses.{Ended, AtExit, at_exit}
use Rattle.ground.specs.Determined.{Lives, Given, Result, Promise, Allowed}

-- ---- what shows a refusal

-- an answer that is a refusal of some number
pub record IsRefused {N A : Type 0} (refused : N → A) (answer : A) : Type 0 where
  pub number : N
  pub is : answer ≡ refused number

-- an answer that is a number: those of document 01 and of later requests are below 100; 0 is done, and a code from 100 on is no refusal
abbrev pub IsNumber : ℕ → Type 0
IsNumber n = (1 ≤ n) × (n < 100)

-- ---- what a refused call leaves

module _ (call : Ended) where
  -- which results are refusals
  abbrev pub Shows : Type 1
  Shows = (κs : Lives call) → Result call κs → Type 0

  -- The parameters at exit, to be held against those at entry. What was lent comes back at the end, so that the two are of one type: of
  -- every call this is `λ κs e. e`.
  abbrev pub Back : Type 0
  Back = (κs : Lives call) → AtExit call κs → Given call κs

  -- The promise where the arguments are of these sizes. That an array is as long as its type says is not in a promise.
  abbrev pub sized : ((κs : Lives call) → Given call κs → Type 0) → Promise call → Promise call
  sized sizes promise κs a x e = sizes κs a × promise κs a x e

-- A refused call leaves its parameters like this (`left`), what lies behind each `&mut` among it, and the record in its result
-- (`returned`) is this one (`due`).
pub record RefusedLeaves
    {R : Type 0} (call : Ended) (promise : Promise call) (refuses : Shows call)
    (back : Back call) (left : (κs : Lives call) → Given call κs → Given call κs)
    (returned : (κs : Lives call) → Given call κs → Result call κs → R) (due : (κs : Lives call) → Given call κs → R) : Type 0 where
  pub leaves :
      (κs : Lives call) (a : Given call κs) (m : Allowed call promise κs a) → refuses κs m.result
      → (back κs (at_exit call κs a m.last) ≡ left κs a) × (returned κs a m.result ≡ due κs a)

-- "exactly as they came": every byte and number that it was lent. Of a call that was given no record to give back: one that is lent its
-- record, one that has none, and one that makes a record, beside whose refusal stands what its promise says.
abbrev pub RefusedStays : (call : Ended) → Promise call → Shows call → Back call → Type 0
RefusedStays call promise refuses back =
    RefusedLeaves {R = Unit {0}} call promise refuses back (λ κs a. a) (λ κs a x. tt) (λ κs a. tt)

-- The same of a call that takes a record by value: the one that it gives back is the one that it was given.
abbrev pub RefusedKeeps :
    {R : Type 0} (call : Ended) → Promise call → Shows call → Back call
    → ((κs : Lives call) → Given call κs → Result call κs → R) → ((κs : Lives call) → Given call κs → R)
    → Type 0
RefusedKeeps call promise refuses back returned given = RefusedLeaves call promise refuses back (λ κs a. a) returned given
