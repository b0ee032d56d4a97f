-- A pair of ends whose responder counts follows the pair without the count, so demand 3 carries over; and when our ends owe a reply, over any
-- encoding. Read `counting_demand` and `coded_owing`.
use Prim.Native.Nat.{ℕ}
use mathlib.Core.Bool.{Bool, true, false, ◌&&◌, true≢false}
use mathlib.Core.Option.{Option, none, some, map}
use mathlib.Core.Path.{◌≡◌, refl, sym}
use Rattle.ground.specs.Pick.{if}
use Rattle.demand_3.proofs.Follows.{Written, seen_turn, Same, Follows}
use Rattle.demand_3.proofs.Owing.{Owing}
use Rattle.demand_3.proofs.Transfer.{demand_same}
use Rattle.demand_3.specs.Demand.{Demand}
use Rattle.demand_3.specs.Line.{Pair}
use Rattle.demand_3.specs.Live.{Accepted, Silent}
use Rattle.demand_3.specs.Turns.{Bytes, Turn, refusing}
use Rattle.link_model.specs.Counting.{counted, counting}
use Rattle.link_model.specs.Messages.{Message, opening, ok, order, reply, other}
use Rattle.link_model.specs.Coded.{Codec, coded, put_turn, taken_of}
use Rattle.link_model.specs.Responder.{Row, blank, opened, owes, holds, ordered_on, same_bit, row_hears, row_answers}

-- what the one wrote, seen as it is
seen_as_it_is : {T : Type 0} (w : Option T) → map (λ t. t) w ≡ w
seen_as_it_is none = refl
seen_as_it_is (some t) = refl

any_written : {T : Type 0} (w : Option T) → Written (λ t. Unit {0}) w
any_written none = tt
any_written (some t) = tt

module _ (P : Pair) where
  seen_end : {E T Tale : Type 0} (t : Turn E T Tale) → seen_turn (λ i. i) (λ s. s) t ≡ t
  seen_end t = λ i. record { next = t.next; writes = seen_as_it_is t.writes i; says = t.says }

  seen_counted : {E T : Type 0} (n : ℕ) (t : Turn E T Bytes) → seen_turn (λ r. r.end) (λ s. s) (counted n t) ≡ t
  seen_counted n t = λ i. record { next = t.next; writes = seen_as_it_is t.writes i; says = t.says }

  initiator_same :
      {E T Tale : Type 0} (t : Turn E T Tale) → Same (λ i. i) (λ s. s) (λ i. Unit {0}) (λ s. Unit {0}) t t
  initiator_same t = record { same = seen_end t; sound_next = tt; sound_writes = any_written t.writes }

  responder_same :
      {E T : Type 0} (n : ℕ) (t : Turn E T Bytes) → Same (λ r. r.end) (λ s. s) (λ r. Unit {0}) (λ s. Unit {0}) (counted n t) t
  responder_same n t = record { same = seen_counted n t; sound_next = tt; sound_writes = any_written t.writes }

  counting_follows : Follows (counting P) P
  counting_follows =
      record {
        view_initiator = λ i. i;
        view_responder = λ r. r.end;
        view_telegram = λ s. s;
        view_room = λ room. room;
        view_submit = λ room q. room;
        view_answer = λ room p. room;
        SoundInitiator = λ i. Unit {0};
        SoundResponder = λ r. Unit {0};
        SoundTelegram = λ s. Unit {0};
        same_opens = λ t. refl;
        same_enough = λ room. refl;
        same_answerable = λ p e. e;
        enough_answer = λ room p e f. e;
        same_orderable = λ q e. e;
        enough_submit = λ room q e f. e;
        made_initiator = λ n p. refl;
        made_sound = λ n p. tt;
        submits = λ i room q y. initiator_same (P.submit i room q);
        silence = λ i room y. initiator_same (P.silence i room);
        initiator_hears = λ i room t y m. initiator_same (P.initiator_hear i room t);
        initiator_restarts = λ i y. initiator_same (P.initiator_restart i);
        stray_to_initiator = λ i t y e. e;
        made_responder = refl;
        responder_sound = tt;
        responder_hears = λ r room t y m. responder_same r.handed (P.responder_hear r.end room t);
        answers = λ r room p y. responder_same r.handed (P.answer r.end room p);
        responder_restarts = λ r y. (refl, tt);
        stray_to_responder = λ r t y e. e;
      }

  pub counting_demand : Demand P → Demand (counting P)
  counting_demand d = demand_same (counting P) P counting_follows d

-- ---- when our ends owe a reply

abbrev owed : Row → Bool
owed blank = false
owed opened = false
owed (owes b) = true
owed (holds b p) = false

hears_owed : (r : Row) (m : Message) → Silent (row_hears r m).says → owed (row_hears r m).next ≡ true → owed r ≡ true
hears_owed r opening q e = absurd (true≢false (sym e))
hears_owed r ok q e = e
hears_owed r (order b p) q e = go (same_bit r b) r q e
  where
    go : (x : Bool) (r : Row) → Silent (ordered_on x r b p).says → owed (ordered_on x r b p).next ≡ true → owed r ≡ true
    go x blank q e = e
    go true opened q e = e
    go false opened q e = absurd q
    go true (owes c) q e = refl
    go false (owes c) q e = refl
    go true (holds c w) q e = e
    go false (holds c w) q e = absurd q
hears_owed r (reply p) q e = e
hears_owed r other q e = e

answers_owed_lem : (r : Row) (p : Bytes) → Accepted (row_answers r p).says → owed r ≡ true
answers_owed_lem blank p a = absurd a
answers_owed_lem opened p a = absurd a
answers_owed_lem (owes b) p a = refl
answers_owed_lem (holds b w) p a = absurd a

owes_no_more_lem : (r : Row) (p : Bytes) → Accepted (row_answers r p).says → owed (row_answers r p).next ≡ false
owes_no_more_lem blank p a = absurd a
owes_no_more_lem opened p a = absurd a
owes_no_more_lem (owes b) p a = refl
owes_no_more_lem (holds b w) p a = absurd a

answers_silent_lem : (r : Row) (p : Bytes) → Silent (row_answers r p).says
answers_silent_lem blank p = tt
answers_silent_lem opened p = tt
answers_silent_lem (owes b) p = tt
answers_silent_lem (holds b w) p = tt

-- the ends over any encoding: a call that is refused for want of room, or for its length, changes nothing
module _ (C : Codec) where
  heard_owed :
      (x : Bool) (r : Row) (m : Message) → Silent (if x (put_turn C (row_hears r m)) (refusing r)).says
      → owed (if x (put_turn C (row_hears r m)) (refusing r)).next ≡ true → owed r ≡ true
  heard_owed true r m q e = hears_owed r m q e
  heard_owed false r m q e = e

  taken_owed : (x : Bool) (r : Row) (p : Bytes) → Accepted (if x (put_turn C (row_answers r p)) (refusing r)).says → owed r ≡ true
  taken_owed true r p a = answers_owed_lem r p a
  taken_owed false r p a = absurd a

  taken_no_more :
      (x : Bool) (r : Row) (p : Bytes) → Accepted (if x (put_turn C (row_answers r p)) (refusing r)).says
      → owed (if x (put_turn C (row_answers r p)) (refusing r)).next ≡ false
  taken_no_more true r p a = owes_no_more_lem r p a
  taken_no_more false r p a = absurd a

  taken_silent : (x : Bool) (r : Row) (p : Bytes) → Silent (if x (put_turn C (row_answers r p)) (refusing r)).says
  taken_silent true r p = answers_silent_lem r p
  taken_silent false r p = tt

  pub coded_owing : Owing (coded C)
  coded_owing =
      record {
        Sound = λ r. Unit {0};
        owes = owed;
        made_sound = tt;
        restarted_sound = λ r z. tt;
        hears_sound = λ r room t z. tt;
        answers_sound = λ r room p z. tt;
        made_owes = refl;
        restarted_owes = λ r z. refl;
        owed_before = λ r room t z. heard_owed (C.enough room) r (taken_of C r (C.to_responder t));
        answers_owed = λ r room p z. taken_owed (C.enough room && C.answerable p) r p;
        owes_no_more = λ r room p z. taken_no_more (C.enough room && C.answerable p) r p;
        answers_silent = λ r room p z. taken_silent (C.enough room && C.answerable p) r p;
      }
