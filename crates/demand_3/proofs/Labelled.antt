-- The history beside the log of an application that answers by number: what each thing that happens does to both. Of the latest order it is
-- known for whom its reply was given as soon as there is one; of the older ones once they are confirmed.
use mathlib.Core.Bool.{Bool, true, false, true≢false}
use mathlib.Core.List.{List, [], ◌∷◌, map, ◌++◌}
use mathlib.Core.Option.{Option, none, some}
use mathlib.Core.Path.{◌≡◌, refl, sym, ap}
use Rattle.demand_3.specs.Turns.{Bytes, Outcome, Told, refused, nothing, tells}
use Rattle.demand_3.specs.History.{Given, awaited, made, dropped, HandUp, hand_up, pending, abandoned, ended, Entry, entry, History, history, submitted, Sent, nothingSent, openingSent, orderSent, counted, outcome, reported, left_pending, handed_up, settled, settled_in, settled_all}
use Rattle.demand_3.specs.Numbers.{Label, Answer, ordered, labelled, Among, flat, ItsOwn, AllTheirOwn}
use Rattle.demand_3.specs.Safe.{Every, hand_ups_of, given_of, entries_of, ConfirmedReply}

abbrev pub first : {A : Type 0} → List A → Option A
first [] = none
first (a ∷ bs) = some a

-- of an order's handings up and their labels
abbrev pub Latest : List Answer → List HandUp → List Label → Type 0
Latest gave [] [] = Unit {0}
Latest gave [] (l ∷ m) = ⊥
Latest gave (u ∷ us) [] = ⊥
Latest gave (u ∷ []) (l ∷ []) = (r : Bytes) → given_of u ≡ made r → Among (record { to = l; reply = r }) gave
Latest gave (u ∷ []) (l ∷ k ∷ m) = ⊥
Latest gave (u ∷ v ∷ us) (l ∷ []) = ⊥
Latest gave (u ∷ v ∷ us) (l ∷ k ∷ m) = Unit {0}

abbrev pub Shape : List Answer → List Entry → List (List Label) → Type 0
Shape gave [] [] = Unit {0}
Shape gave [] (m ∷ ms) = ⊥
Shape gave (e ∷ es) [] = ⊥
Shape gave (e ∷ es) (m ∷ ms) = Latest gave (hand_ups_of e) m × AllTheirOwn gave es ms

-- ---- telling apart

abbrev pub is_made : Given → Bool
is_made awaited = false
is_made (made r) = true
is_made dropped = false

abbrev pub reply_in : Given → Bytes
reply_in awaited = []
reply_in (made r) = r
reply_in dropped = []

abbrev pub is_empty : {A : Type 0} → List A → Bool
is_empty [] = true
is_empty (a ∷ bs) = false

abbrev is_one : {A : Type 0} → List A → Bool
is_one [] = false
is_one (a ∷ []) = true
is_one (a ∷ b ∷ bs) = false

abbrev head_or : {A : Type 0} → A → List A → A
head_or d [] = d
head_or d (a ∷ bs) = a

abbrev pub some_or : {A : Type 0} → A → Option A → A
some_or d none = d
some_or d (some a) = a

-- ---- a confirmed order shows its own reply

own_of : (gave : List Answer) (e : Entry) (m : List Label) → Latest gave (hand_ups_of e) m → ConfirmedReply e → ItsOwn gave e m
own_of gave e m la c r k h = go (hand_ups_of e) m la (c r k h)
  where
    go :
        (us : List HandUp) (m : List Label) → Latest gave us m → map given_of us ≡ made r ∷ []
        → (l : Label) × (m ≡ l ∷ []) × Among (record { to = l; reply = r }) gave
    go [] [] la p = absurd (true≢false (ap is_empty p))
    go [] (l ∷ m) la p = absurd la
    go (u ∷ us) [] la p = absurd la
    go (u ∷ []) (l ∷ []) la p = (l, refl, la r (ap (head_or awaited) p))
    go (u ∷ []) (l ∷ k ∷ m) la p = absurd la
    go (u ∷ v ∷ us) (l ∷ m) la p = absurd (true≢false (sym (ap is_one p)))

pub all_own :
    (gave : List Answer) (es : List Entry) (ms : List (List Label)) → Shape gave es ms → Every ConfirmedReply es
    → AllTheirOwn gave es ms
all_own gave [] [] sh c = tt
all_own gave [] (m ∷ ms) sh c = absurd sh
all_own gave (e ∷ es) [] sh c = absurd sh
all_own gave (e ∷ es) (m ∷ ms) sh c = (own_of gave e m sh.0 c.0, sh.1)

-- ---- what the initiator's calls do

pub shape_counted :
    (gave : List Answer) (x : Sent) (h : History) (ms : List (List Label)) → Shape gave (entries_of h) ms
    → Shape gave (entries_of (counted x h)) ms
shape_counted gave nothingSent h ms sh = sh
shape_counted gave openingSent (history [] cs x) ms sh = sh
shape_counted gave openingSent (history (entry q u r o n ∷ es) cs x) [] sh = sh
shape_counted gave openingSent (history (entry q u r o n ∷ es) cs x) (m ∷ ms) sh = sh
shape_counted gave orderSent (history [] cs x) ms sh = sh
shape_counted gave orderSent (history (entry q u r o n ∷ es) cs x) [] sh = sh
shape_counted gave orderSent (history (entry q u r o n ∷ es) cs x) (m ∷ ms) sh = sh

shape_outcome :
    (gave : List Answer) (t : Outcome) (h : History) (ms : List (List Label)) → Shape gave (entries_of h) ms
    → Shape gave (entries_of (outcome t h)) ms
shape_outcome gave t (history [] cs x) ms sh = sh
shape_outcome gave t (history (entry q u pending o n ∷ es) cs x) [] sh = sh
shape_outcome gave t (history (entry q u pending o n ∷ es) cs x) (m ∷ ms) sh = sh
shape_outcome gave t (history (entry q u abandoned o n ∷ es) cs x) ms sh = sh
shape_outcome gave t (history (entry q u (ended r) o n ∷ es) cs x) ms sh = sh

pub shape_reported :
    (gave : List Answer) (x : Told Outcome) (h : History) (ms : List (List Label)) → Shape gave (entries_of h) ms
    → Shape gave (entries_of (reported x h)) ms
shape_reported gave refused h ms sh = sh
shape_reported gave nothing h ms sh = sh
shape_reported gave (tells t) h ms sh = shape_outcome gave t h ms sh

pub shape_left :
    (gave : List Answer) (h : History) (ms : List (List Label)) → Shape gave (entries_of h) ms
    → Shape gave (entries_of (left_pending h)) ms
shape_left gave (history [] cs x) ms sh = sh
shape_left gave (history (entry q u pending o n ∷ es) cs x) [] sh = sh
shape_left gave (history (entry q u pending o n ∷ es) cs x) (m ∷ ms) sh = sh
shape_left gave (history (entry q u abandoned o n ∷ es) cs x) ms sh = sh
shape_left gave (history (entry q u (ended r) o n ∷ es) cs x) ms sh = sh

-- a new order: the one before is an older one from now on
pub shape_submitted :
    (gave : List Answer) (x : Told Outcome) (q : Bytes) (h : History) (ms : List (List Label)) → Shape gave (entries_of h) ms
    → Every ConfirmedReply (entries_of h) → Shape gave (entries_of (submitted x q h)) (ordered x ms)
shape_submitted gave refused q h ms sh c = sh
shape_submitted gave nothing q (history es cs x) ms sh c = (tt, all_own gave es ms sh c)
shape_submitted gave (tells o) q (history es cs x) ms sh c = (tt, all_own gave es ms sh c)

-- ---- what the responder's calls do

latest_handed :
    (gave : List Answer) (p : Bytes) (l : Label) (us : List HandUp) (m : List Label) → Latest gave us m
    → Latest gave (hand_up p awaited ∷ us) (l ∷ m)
latest_handed gave p l [] [] la = λ r e. absurd (true≢false (sym (ap is_made e)))
latest_handed gave p l [] (k ∷ m) la = absurd la
latest_handed gave p l (u ∷ us) [] la = absurd la
latest_handed gave p l (u ∷ us) (k ∷ m) la = tt

pub shape_handed :
    (gave : List Answer) (p : Bytes) (l : Label) (h : History) (ms : List (List Label)) → Shape gave (entries_of h) ms
    → Shape gave (entries_of (handed_up p h)) (labelled (tells p) l ms)
shape_handed gave p l (history [] cs x) [] sh = tt
shape_handed gave p l (history [] cs x) (m ∷ ms) sh = absurd sh
shape_handed gave p l (history (entry q u r o n ∷ es) cs x) [] sh = absurd sh
shape_handed gave p l (history (entry q u r o n ∷ es) cs x) (m ∷ ms) sh = (latest_handed gave p l u m sh.0, sh.1)

-- more answers were given: what was given was given
module _ (gave after : List Answer) (more : (a : Answer) → Among a gave → Among a after) where
  own_more : (e : Entry) (m : List Label) → ItsOwn gave e m → ItsOwn after e m
  own_more e m f = λ p k h. let w = f p k h in (w.0, w.1, more (record { to = w.0; reply = p }) w.2)

  latest_more : (us : List HandUp) (m : List Label) → Latest gave us m → Latest after us m
  latest_more [] [] la = tt
  latest_more [] (l ∷ m) la = absurd la
  latest_more (u ∷ us) [] la = absurd la
  latest_more (u ∷ []) (l ∷ []) la = λ r e. more (record { to = l; reply = r }) (la r e)
  latest_more (u ∷ []) (l ∷ k ∷ m) la = absurd la
  latest_more (u ∷ v ∷ us) (l ∷ []) la = absurd la
  latest_more (u ∷ v ∷ us) (l ∷ k ∷ m) la = tt

  all_more : (es : List Entry) (ms : List (List Label)) → AllTheirOwn gave es ms → AllTheirOwn after es ms
  all_more [] [] f = tt
  all_more [] (m ∷ ms) f = absurd f
  all_more (e ∷ es) [] f = absurd f
  all_more (e ∷ es) (m ∷ ms) f = (own_more e m f.0, all_more es ms f.1)

  pub shape_more : (es : List Entry) (ms : List (List Label)) → Shape gave es ms → Shape after es ms
  shape_more [] [] sh = tt
  shape_more [] (m ∷ ms) sh = absurd sh
  shape_more (e ∷ es) [] sh = absurd sh
  shape_more (e ∷ es) (m ∷ ms) sh = (latest_more (hand_ups_of e) m sh.0, all_more es ms sh.1)

module _ (gave after : List Answer) (more : (a : Answer) → Among a gave → Among a after) (g : Given) where
  all_settled :
      (es : List Entry) (ms : List (List Label)) → AllTheirOwn gave es ms → AllTheirOwn after (map (settled_in g) es) ms
  all_settled [] [] f = tt
  all_settled [] (m ∷ ms) f = absurd f
  all_settled (e ∷ es) [] f = absurd f
  all_settled (entry q u r o n ∷ es) (m ∷ ms) f = (own_more gave after more (entry q u r o n) m f.0, all_settled es ms f.1)

  -- the awaited reply becomes g: then g is given for the label of the latest handing up, if it is a reply at all
  latest_settled :
      (us : List HandUp) (m : List Label) (ls : List Label)
      → ((l : Label) (r : Bytes) → first (m ++ ls) ≡ some l → g ≡ made r → Among (record { to = l; reply = r }) after)
      → Latest gave us m → Latest after (map (settled g) us) m
  latest_settled [] [] ls f la = tt
  latest_settled [] (l ∷ m) ls f la = absurd la
  latest_settled (u ∷ us) [] ls f la = absurd la
  latest_settled (hand_up p awaited ∷ []) (l ∷ []) ls f la = λ r e. f l r refl e
  latest_settled (hand_up p (made x) ∷ []) (l ∷ []) ls f la = λ r e. more (record { to = l; reply = r }) (la r e)
  latest_settled (hand_up p dropped ∷ []) (l ∷ []) ls f la = λ r e. more (record { to = l; reply = r }) (la r e)
  latest_settled (u ∷ []) (l ∷ k ∷ m) ls f la = absurd la
  latest_settled (u ∷ v ∷ us) (l ∷ []) ls f la = absurd la
  latest_settled (u ∷ v ∷ us) (l ∷ k ∷ m) ls f la = tt

  pub shape_settled :
      (h : History) (ms : List (List Label))
      → ((l : Label) (r : Bytes) → first (flat ms) ≡ some l → g ≡ made r → Among (record { to = l; reply = r }) after)
      → Shape gave (entries_of h) ms → Shape after (entries_of (settled_all g h)) ms
  shape_settled (history [] cs x) [] f sh = tt
  shape_settled (history [] cs x) (m ∷ ms) f sh = absurd sh
  shape_settled (history (e ∷ es) cs x) [] f sh = absurd sh
  shape_settled (history (entry q u r o n ∷ es) cs x) (m ∷ ms) f sh = (latest_settled u m (flat ms) f sh.0, all_settled es ms sh.1)
