-- "Show that no second outcome fits": what it is that a promise determines a call. Read `Determined`.
use base.Logic.{SProp}
use contract.Lifetimes.{Lfts}
use contract.Monad.{Fun, fact}
use denote.Triple.Clauses.{Clauses, Ended, Lasts, AtExit, at_exit}
use denote.Triple.Entry.{Args, Res}
use types.Logic.{Logic}
use seplogic.Ra.Ura.{Ura}
use Rattle.std.specs.Prelude.{◌≡◌}
use prog.Memory.{Memory}
use prog.Routine.{Routine}

module _ (call : Ended) where
  -- the lifetimes of a call's references
  abbrev pub Lives : Type 0
  Lives = Lfts call.signature.lifetimes

  -- its arguments, its result, and its parameters at exit
  abbrev pub Given : Lives → Type 0
  Given κs = Args call.signature κs

  abbrev pub Result : Lives → Type 0
  Result κs = Res call.signature κs

  -- A promise: a claim of these. Of a function of the libraries it is the function's `Learnt`, which is made from its `ensures` and is what
  -- a caller learns.
  abbrev pub Promise : Type 1
  Promise = (κs : Lives) → Given κs → Result κs → AtExit call κs → Type 0

-- an outcome that the promise allows a call with these arguments: its result, and what it leaves behind each `&mut`
pub record Allowed (call : Ended) (promise : Promise call) (κs : Lives call) (a : Given call κs) : Type 0 where
  pub result : Result call κs
  pub last : Lasts call κs a
  pub meets : promise κs a result (at_exit call κs a last)

-- no second outcome fits: two that the promise allows are the same
pub record Determined (call : Ended) (promise : Promise call) : Type 0 where
  pub one :
      (κs : Lives call) (a : Given call κs) (m n : Allowed call promise κs a)
      → (m.result ≡ n.result) × (m.last ≡ n.last)

-- the same of a call that answers a borrowed part: the bytes that it shows are the same
pub record ShownDetermined {A : Type 0} (call : Ended) (bytes : (κs : Lives call) → Result call κs → A) (promise : Promise call) : Type 0 where
  pub one :
      (κs : Lives call) (a : Given call κs) (m n : Allowed call promise κs a)
      → (bytes κs m.result ≡ bytes κs n.result) × (m.last ≡ n.last)

-- A function that is proved by hand has no `Learnt`. For it the promise is written out, and this says that its `ensures` is that promise.
pub record Says
    (call : Ended)
    (contract : (M : Type 1) (𝓤 : Ura M) (𝓛 : Logic 𝓤) → (Memory → SProp 𝓤) → (Routine → Fun 𝓤) → Clauses 𝓤 call)
    (promise : Promise call) : Type 2 where
  pub says :
      (M : Type 1) (𝓤 : Ura M) (𝓛 : Logic 𝓤) (mem : Memory → SProp 𝓤) (run : Routine → Fun 𝓤)
      (κs : Lives call) (a : Given call κs) (g : (contract M 𝓤 𝓛 mem run κs a).ghost) (x : Result call κs) (e : AtExit call κs)
      → (contract M 𝓤 𝓛 mem run κs a).ensures g x e ≡ fact 𝓤 (promise κs a x e)
