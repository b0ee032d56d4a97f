-- No second outcome, shown once in general: where a promise is an equation, and where a result is seen through a definition that tells its
-- values apart. Each law is over any call; its last argument takes what the promise fixes to what the call leaves behind its `&mut`s.
-- Read which promises there are: `fixed`, `shows`, `seen`, `left`, `gives`, `wrote`, `together`, `turned`.
use mathlib.Core.Path.{◌≡◌, sym, ◌∙◌}
use denote.Triple.Clauses.{Ended, Lasts, AtExit, at_exit}
use Rattle.ground.specs.Determined.{Lives, Given, Result, Promise, Determined, ShownDetermined}

-- what one equation fixes is one value
pub same : {A : Type 0} {x y b : A} → x ≡ b → y ≡ b → x ≡ y
same p q = p ∙ sym q

-- so is what is fixed through a definition that tells values apart
pub same_through :
    {A B : Type 0} {f : A → B} → ((x y : A) → f x ≡ f y → x ≡ y)
    → {x y : A} {b : B} → f x ≡ b → f y ≡ b → x ≡ y
same_through apart {x} {y} p q = apart x y (p ∙ sym q)

module _ (call : Ended) where
  -- what a definition makes of the arguments
  abbrev Made : (Lives call → Type 0) → Type 0
  Made A = (κs : Lives call) → Given call κs → A κs

  -- the call is lent nothing to change
  abbrev NothingLent : Type 0
  NothingLent = (κs : Lives call) (a : Given call κs) (u v : Lasts call κs a) → u ≡ v

  -- what is lent is known where this much of it is
  abbrev KnownBy : {B : Type 0} → ((κs : Lives call) → AtExit call κs → B) → Type 0
  KnownBy lent =
      (κs : Lives call) (a : Given call κs) (u v : Lasts call κs a)
      → lent κs (at_exit call κs a u) ≡ lent κs (at_exit call κs a v)
      → u ≡ v

  -- different results are seen differently
  abbrev Injective : {A : Type 0} → ((κs : Lives call) → Result call κs → A) → Type 0
  Injective shown = (κs : Lives call) (x y : Result call κs) → shown κs x ≡ shown κs y → x ≡ y

module _ {call : Ended} where
  -- An equation for the result.
  pub fixed : {value : Made call (Result call)} → NothingLent call → Determined call (λ κs a x e. x ≡ value κs a)
  fixed alike = record { one = λ κs a m n. (same m.meets n.meets, alike κs a m.last n.last) }

  -- An equation for the bytes that the result shows.
  pub shows :
      {A : Type 0} {bytes : (κs : Lives call) → Result call κs → A} {value : Made call (λ κs. A)} → NothingLent call
      → ShownDetermined call bytes (λ κs a x e. bytes κs x ≡ value κs a)
  shows alike = record { one = λ κs a m n. (same m.meets n.meets, alike κs a m.last n.last) }

  -- An equation for what is seen of the result.
  pub seen :
      {A : Type 0} {shown : (κs : Lives call) → Result call κs → A} {value : Made call (λ κs. A)}
      → Injective call shown → NothingLent call
      → Determined call (λ κs a x e. shown κs x ≡ value κs a)
  seen apart alike = record { one = λ κs a m n. (same_through (apart κs) m.meets n.meets, alike κs a m.last n.last) }

  -- An equation for what is lent.
  pub left :
      {B : Type 0} {lent : (κs : Lives call) → AtExit call κs → B} {after : Made call (λ κs. B)}
      → ((κs : Lives call) (x y : Result call κs) → x ≡ y) → KnownBy call lent
      → Determined call (λ κs a x e. lent κs e ≡ after κs a)
  left nothing known = record { one = λ κs a m n. (nothing κs m.result n.result, known κs a m.last n.last (same m.meets n.meets)) }

  -- One for each of the two, which the promise gives.
  pub gives :
      {promise : Promise call} {A B : Type 0}
      {shown : (κs : Lives call) → Result call κs → A} {value : Made call (λ κs. A)}
      {lent : (κs : Lives call) → AtExit call κs → B} {after : Made call (λ κs. B)}
      → ((κs : Lives call) (a : Given call κs) (x : Result call κs) (e : AtExit call κs)
      → promise κs a x e → (shown κs x ≡ value κs a) × (lent κs e ≡ after κs a))
      → Injective call shown → KnownBy call lent
      → Determined call promise
  gives {promise} both apart known =
      record {
        one = λ κs a m n.
            let p = both κs a _ _ m.meets in
            let q = both κs a _ _ n.meets in
            (same_through (apart κs) p.0 q.0, known κs a m.last n.last (same p.1 q.1));
      }

  -- The promise is the two.
  pub wrote :
      {A B : Type 0}
      {shown : (κs : Lives call) → Result call κs → A} {value : Made call (λ κs. A)}
      {lent : (κs : Lives call) → AtExit call κs → B} {after : Made call (λ κs. B)}
      → Injective call shown → KnownBy call lent
      → Determined call (λ κs a x e. (shown κs x ≡ value κs a) × (lent κs e ≡ after κs a))
  wrote apart known = gives (λ κs a x e p. p) apart known

  -- One equation for the result and all that is lent.
  pub together :
      {A : Type 0} {all : (κs : Lives call) → Result call κs → AtExit call κs → A} {value : Made call (λ κs. A)}
      → ((κs : Lives call) (a : Given call κs) (x y : Result call κs) (u v : Lasts call κs a)
      → all κs x (at_exit call κs a u) ≡ all κs y (at_exit call κs a v) → (x ≡ y) × (u ≡ v))
      → Determined call (λ κs a x e. all κs x e ≡ value κs a)
  together apart = record { one = λ κs a m n. apart κs a _ _ _ _ (same m.meets n.meets) }

  -- The same where all that is lent is known by one thing of it.
  pub turned :
      {A B : Type 0}
      {shown : (κs : Lives call) → Result call κs → B → A} {value : Made call (λ κs. A)}
      {lent : (κs : Lives call) → AtExit call κs → B}
      → ((κs : Lives call) (x y : Result call κs) (b c : B) → shown κs x b ≡ shown κs y c → (x ≡ y) × (b ≡ c))
      → KnownBy call lent
      → Determined call (λ κs a x e. shown κs x (lent κs e) ≡ value κs a)
  turned apart known =
      together (λ κs a x y u v e. let both = apart κs x y _ _ e in (both.0, known κs a u v both.1))
