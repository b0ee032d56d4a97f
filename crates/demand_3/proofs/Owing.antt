-- When a responder owes a reply, of any pair of ends: what its calls do to that, and that a pair which follows another owes when that one does.
-- Read `Owing` and `owing_same`.
use mathlib.Core.Bool.{Bool, true, false}
use mathlib.Core.Logic.{inl}
use mathlib.Core.Path.{◌≡◌, sym, ap, ◌∙◌, subst}
use Rattle.demand_3.proofs.Follows.{Same, Follows}
use Rattle.demand_3.specs.Line.{Pair}
use Rattle.demand_3.specs.Live.{Accepted, Silent}
use Rattle.demand_3.specs.Turns.{Bytes, Turn}

pub record Owing (P : Pair) : Type 1 where
  -- which records can come about, and whether a reply is owed
  pub Sound : P.Responder → Type 0
  pub owes : P.Responder → Bool
  pub made_sound : Sound P.make_responder
  pub restarted_sound : (r : P.Responder) → Sound r → Sound (P.responder_restart r)
  pub hears_sound : (r : P.Responder) (room : P.Room) (t : P.Telegram) → Sound r → Sound (P.responder_hear r room t).next
  pub answers_sound : (r : P.Responder) (room : P.Room) (p : Bytes) → Sound r → Sound (P.answer r room p).next
  -- a record made or restarted owes nothing; hearing makes it owe only where it hands up
  pub made_owes : owes P.make_responder ≡ false
  pub restarted_owes : (r : P.Responder) → Sound r → owes (P.responder_restart r) ≡ false
  pub owed_before :
      (r : P.Responder) (room : P.Room) (t : P.Telegram) → Sound r → Silent (P.responder_hear r room t).says
      → owes (P.responder_hear r room t).next ≡ true → owes r ≡ true
  -- an answer is taken where a reply is owed, which then is owed no more; and no answer hands up
  pub answers_owed :
      (r : P.Responder) (room : P.Room) (p : Bytes) → Sound r → Accepted (P.answer r room p).says → owes r ≡ true
  pub owes_no_more :
      (r : P.Responder) (room : P.Room) (p : Bytes) → Sound r → Accepted (P.answer r room p).says
      → owes (P.answer r room p).next ≡ false
  pub answers_silent : (r : P.Responder) (room : P.Room) (p : Bytes) → Sound r → Silent (P.answer r room p).says

module _ (S O : Pair) (F : Follows S O) (all : (t : S.Telegram) → F.SoundTelegram t) (W : Owing O) where
  abbrev SoundHere : S.Responder → Type 0
  SoundHere r = F.SoundResponder r × W.Sound (F.view_responder r)

  module _ (r : S.Responder) (z : SoundHere r) where
    module _ (room : S.Room) (t : S.Telegram) where
      abbrev hears : Turn O.Responder O.Telegram Bytes
      hears = O.responder_hear (F.view_responder r) (F.view_room room) (F.view_telegram t)

      hears_same :
          Same F.view_responder F.view_telegram F.SoundResponder F.SoundTelegram (S.responder_hear r room t) hears
      hears_same = F.responder_hears r room t z.0 (inl (all t))

      hears_says : (S.responder_hear r room t).says ≡ hears.says
      hears_says = ap (λ u. u.says) hears_same.same

      hears_next : F.view_responder (S.responder_hear r room t).next ≡ hears.next
      hears_next = ap (λ u. u.next) hears_same.same

    module _ (room : S.Room) (p : Bytes) where
      abbrev answers : Turn O.Responder O.Telegram Bytes
      answers = O.answer (F.view_responder r) (F.view_answer room p) p

      answers_same : Same F.view_responder F.view_telegram F.SoundResponder F.SoundTelegram (S.answer r room p) answers
      answers_same = F.answers r room p z.0

      answers_says : (S.answer r room p).says ≡ answers.says
      answers_says = ap (λ u. u.says) answers_same.same

      answers_next : F.view_responder (S.answer r room p).next ≡ answers.next
      answers_next = ap (λ u. u.next) answers_same.same

  pub owing_same : Owing S
  owing_same =
      record {
        Sound = SoundHere;
        owes = λ r. W.owes (F.view_responder r);
        made_sound = (F.responder_sound, subst W.Sound (sym F.made_responder) W.made_sound);
        restarted_sound =
            λ r z. (
              (F.responder_restarts r z.0).1,
              subst W.Sound (sym (F.responder_restarts r z.0).0) (W.restarted_sound (F.view_responder r) z.1),
            );
        hears_sound =
            λ r room t z. (
              (hears_same r z room t).sound_next,
              subst W.Sound (sym (hears_next r z room t)) (W.hears_sound (F.view_responder r) (F.view_room room) (F.view_telegram t) z.1),
            );
        answers_sound =
            λ r room p z. (
              (answers_same r z room p).sound_next,
              subst W.Sound (sym (answers_next r z room p)) (W.answers_sound (F.view_responder r) (F.view_answer room p) p z.1),
            );
        made_owes = ap W.owes F.made_responder ∙ W.made_owes;
        restarted_owes = λ r z. ap W.owes (F.responder_restarts r z.0).0 ∙ W.restarted_owes (F.view_responder r) z.1;
        owed_before =
            λ r room t z q e.
            W.owed_before (F.view_responder r) (F.view_room room) (F.view_telegram t) z.1 (subst Silent (hears_says r z room t) q)
            (sym (ap W.owes (hears_next r z room t)) ∙ e);
        answers_owed =
            λ r room p z a.
            W.answers_owed (F.view_responder r) (F.view_answer room p) p z.1 (subst Accepted (answers_says r z room p) a);
        owes_no_more =
            λ r room p z a.
            ap W.owes (answers_next r z room p)
            ∙ W.owes_no_more (F.view_responder r) (F.view_answer room p) p z.1 (subst Accepted (answers_says r z room p) a);
        answers_silent =
            λ r room p z.
            subst Silent (sym (answers_says r z room p)) (W.answers_silent (F.view_responder r) (F.view_answer room p) p z.1);
      }
