-- The settings text, read and written: a text is read just where it is the picture of settings that a link can have (`reads_settings`,
-- `reads_no_form`), and what was written is read back (`written_then_read`, `read_as_written`).
-- Nobody has to believe how it is read: what `read_of` answers is said here by the picture of the text alone.
use Rattle.std.proofs.Common.{None, Ok, Option, Some}
use mathlib.Core.Logic.{◌↔◌}
use mathlib.Core.Path.{◌≡◌, refl, sym, ap, ◌∙◌}
use mathlib.Core.Bool.{Bool, true, false}
use mathlib.Core.List.{List, [], ◌++◌, append_assoc, append-nil}
use Prim.Native.Nat.{ℕ, ◌+◌, ◌≤◌}
use native.Mathlib.Omega.{arith}
use borrow.Author.Tests.{eqb-true, leb-true, le-leb}
use lib.Dec.{eqb, leb}
use lib.ListN.{length, take, drop, length-append}
use lib.Seq.{drop-append_seam, drop-length}
use Rattle.ground.specs.Pick.{if}
use Rattle.text.specs.Placed.{laid}
use Rattle.text.proofs.PlacedLaws.{laid_front, laid_whole}
use Rattle.settings.specs.declared.line.Line.{Line}
use Rattle.settings.specs.declared.settings.Settings.{Settings}
use Rattle.settings.specs.Lines.{own=, peer=, tries=, line_is, line_of, line_at}
use Rattle.settings.specs.Reading.{ReadAnswer, settings, refused, numbers, after_tries, after_peer, after_own, form_of, checked_of, of_form, read_of}
use Rattle.settings.specs.Rules.{rule_of, Allowed}
use Rattle.settings.specs.Text.{text_of, Pictured}
use Rattle.settings.specs.Writing.{written, refused as refusedWrite, write_of, left_by, Wrote}
use Rattle.settings.proofs.ReadingLaws.{three_lines, read_form}
use Rattle.settings.proofs.LineLaws.{LineRead, line_read, line_written}
use Rattle.settings.proofs.RuleLaws.{rule_allowed, allowed_rule, rule_is}

-- ---- the form

-- such a text has the right form, with these numbers
pub pictured_form : (text : List ℕ) (own peer tries : ℕ) → Pictured text own peer tries → form_of text ≡ numbers own peer tries
unfolding text_of
pictured_form text own peer tries k = three_lines text first second third end
  where
    first : line_at own= text 0 ≡ line_is own (length (line_of own= own))
    first =
        line_written own= text 0 own (line_of peer= peer ++ line_of tries= tries)
        (k.picture ∙ append_assoc (line_of own= own) (line_of peer= peer) (line_of tries= tries))
        k.own_byte
        ∙ ap (λ (n : ℕ). line_is own n) (omega arith)

    behind_first : drop (length (line_of own= own)) text ≡ line_of peer= peer ++ line_of tries= tries
    behind_first = rw (k.picture, append_assoc) (drop-append_seam (line_of own= own) (line_of peer= peer ++ line_of tries= tries))

    second : line_at peer= text (length (line_of own= own)) ≡ line_is peer (length (line_of own= own) + length (line_of peer= peer))
    second = line_written peer= text (length (line_of own= own)) peer (line_of tries= tries) behind_first k.peer_byte

    behind_second : drop (length (line_of own= own) + length (line_of peer= peer)) text ≡ line_of tries= tries ++ []
    behind_second =
        rw (← length-append, k.picture) (drop-append_seam (line_of own= own ++ line_of peer= peer) (line_of tries= tries))
        ∙ sym (append-nil (line_of tries= tries))

    third : line_at tries= text (length (line_of own= own) + length (line_of peer= peer))
        ≡ line_is tries (length (line_of own= own) + length (line_of peer= peer) + length (line_of tries= tries))
    third = line_written tries= text (length (line_of own= own) + length (line_of peer= peer)) tries [] behind_second k.tries_byte

    end : length (line_of own= own) + length (line_of peer= peer) + length (line_of tries= tries) ≡ length text
    end = rw (k.picture, length-append, length-append)

-- and a text of the right form, with these numbers, is such a text
lines_pictured : {text : List ℕ} {own peer tries at₁ at₂ end : ℕ}
    → LineRead own= text 0 own at₁
    → LineRead peer= text at₁ peer at₂
    → LineRead tries= text at₂ tries end
    → end ≡ length text
    → Pictured text own peer tries
unfolding text_of
lines_pictured {text} {own} {peer} {tries} a b c e = record {
  picture =
      a.stands
      ∙ ap (λ (l : List ℕ). line_of own= own ++ l)
      (b.stands ∙ ap (λ (l : List ℕ). line_of peer= peer ++ l) (c.stands ∙ rw (e, drop-length) (append-nil (line_of tries= tries))))
      ∙ sym (append_assoc (line_of own= own) (line_of peer= peer) (line_of tries= tries));
  own_byte = a.within;
  peer_byte = b.within;
  tries_byte = c.within;
}

-- settings have one number in each place
settings_in : Option Settings → ReadAnswer
settings_in (Some s) = settings s.own.0 s.peer.0 s.tries
settings_in None = refused 0

numbers_same : (o p t own peer tries : ℕ) → numbers o p t ≡ numbers own peer tries → (o ≡ own) × (p ≡ peer) × (t ≡ tries)
unfolding settings_in
numbers_same o p t own peer tries e = let same : settings o p t ≡ settings own peer tries = ap settings_in e in (cc, cc, cc)

pub form_pictured : (text : List ℕ) (own peer tries : ℕ) → form_of text ≡ numbers own peer tries → Pictured text own peer tries
unfolding form_of
form_pictured text own peer tries e = from_own (line_at own= text 0) refl e
  where
    at_end : (o p t at₁ at₂ end : ℕ) → LineRead own= text 0 o at₁ → LineRead peer= text at₁ p at₂ → LineRead tries= text at₂ t end
        → (s : Bool) → eqb end (length text) ≡ s → if {A = Option Settings} s (numbers o p t) None ≡ numbers own peer tries
        → Pictured text own peer tries
    at_end o p t at₁ at₂ end a b c true f e =
        let same = numbers_same o p t own peer tries e in
        rw (← same.0, ← same.1, ← same.2) (lines_pictured a b c (eqb-true end (length text) f))
    at_end o p t at₁ at₂ end a b c false f e = let z : ◌≡◌ {A = ℕ} 0 1 = cc in absurd (omega arith)

    from_tries : (o p at₁ at₂ : ℕ) → LineRead own= text 0 o at₁ → LineRead peer= text at₁ p at₂ → (l : Option Line) → line_at tries= text at₂ ≡ l
        → after_tries text o p l ≡ numbers own peer tries
        → Pictured text own peer tries
    from_tries o p at₁ at₂ a b (Some t) f e =
        at_end o p t.value at₁ at₂ t.next a b (line_read tries= text at₂ t.value t.next f) (eqb t.next (length text)) refl e
    from_tries o p at₁ at₂ a b None f e = let z : ◌≡◌ {A = ℕ} 0 1 = cc in absurd (omega arith)

    from_peer : (o at₁ : ℕ) → LineRead own= text 0 o at₁ → (l : Option Line) → line_at peer= text at₁ ≡ l
        → after_peer text o l ≡ numbers own peer tries
        → Pictured text own peer tries
    from_peer o at₁ a (Some p) f e =
        from_tries o p.value at₁ p.next a (line_read peer= text at₁ p.value p.next f) (line_at tries= text p.next) refl e
    from_peer o at₁ a None f e = let z : ◌≡◌ {A = ℕ} 0 1 = cc in absurd (omega arith)

    from_own : (l : Option Line) → line_at own= text 0 ≡ l → after_own text l ≡ numbers own peer tries → Pictured text own peer tries
    from_own (Some o) f e = from_peer o.value o.next (line_read own= text 0 o.value o.next f) (line_at peer= text o.next) refl e
    from_own None f e = let z : ◌≡◌ {A = ℕ} 0 1 = cc in absurd (omega arith)

-- ---- what reading answers

-- the picture of three numbers from 0 to 255: then the rules of a link decide, 18, 19 or the settings
pub read_pictured : (text : List ℕ) (own peer tries : ℕ) → Pictured text own peer tries → read_of text ≡ checked_of own peer tries
read_pictured text own peer tries k = read_form text (pictured_form text own peer tries k)

-- settings that a link can have fit their bytes
allowed_pictured : (own peer tries : ℕ) → Allowed own peer tries → Pictured (text_of own peer tries) own peer tries
allowed_pictured own peer tries k = record {
  picture = refl;
  own_byte = omega (arith, k.addresses.own_small);
  peer_byte = omega (arith, k.addresses.peer_small);
  tries_byte = omega (arith, k.permitted.to_most);
}

-- settings are read just from the picture of settings that a link can have
pub reads_settings : (text : List ℕ) (own peer tries : ℕ)
    → read_of text ≡ settings own peer tries
    ↔ Allowed own peer tries × (text ≡ text_of own peer tries)
unfolding read_of checked_of
reads_settings text own peer tries = (forth (form_of text) refl, back)
  where
    ruled : (o p t : ℕ) → form_of text ≡ numbers o p t → (s : Bool) → eqb (rule_of o p t) 0 ≡ s
        → if s (settings o p t) (refused (rule_of o p t)) ≡ settings own peer tries
        → Allowed own peer tries × (text ≡ text_of own peer tries)
    ruled o p t f true r e =
        let o_is : o ≡ own = cc in
        let p-is : p ≡ peer = cc in
        let t-is : t ≡ tries = cc in
        rw (← o_is, ← p-is, ← t-is) (rule_allowed o p t (eqb-true (rule_of o p t) 0 r), (form_pictured text o p t f).picture)
    ruled o p t f false r e = let z : ◌≡◌ {A = ℕ} 0 1 = cc in absurd (omega arith)

    forth : (form : Option Settings) → form_of text ≡ form → of_form form ≡ settings own peer tries → Allowed own peer tries × (text ≡ text_of own peer tries)
    forth (Some s) f e = ruled s.own.0 s.peer.0 s.tries f (eqb (rule_of s.own.0 s.peer.0 s.tries) 0) refl e
    forth None f e = let z : ◌≡◌ {A = ℕ} 0 1 = cc in absurd (omega arith)

    back : Allowed own peer tries × (text ≡ text_of own peer tries) → read_of text ≡ settings own peer tries
    back k =
        ap read_of k.1
        ∙ read_pictured (text_of own peer tries) own peer tries (allowed_pictured own peer tries k.0)
        ∙ rw (allowed_rule own peer tries k.0)

-- 20 is the answer just where the text is no picture of three numbers from 0 to 255
pub reads_no_form : (text : List ℕ)
    → read_of text ≡ refused 20
    ↔ ((own peer tries : ℕ) → Pictured text own peer tries → ⊥)
unfolding read_of checked_of
reads_no_form text = (λ e own peer tries k. other own peer tries k e, λ none. back none (form_of text) refl)
  where
    other : (own peer tries : ℕ) → Pictured text own peer tries → read_of text ≡ refused 20 → ⊥
    other own peer tries k e = ruled (eqb (rule_of own peer tries) 0) (sym (read_pictured text own peer tries k) ∙ e)
      where
        ruled : (s : Bool) → if s (settings own peer tries) (refused (rule_of own peer tries)) ≡ refused 20 → ⊥
        ruled true e = let z : ◌≡◌ {A = ℕ} 0 1 = cc in omega arith
        ruled false e = rule_is own peer tries (cc)

    back : ((own peer tries : ℕ) → Pictured text own peer tries → ⊥) → (form : Option Settings) → form_of text ≡ form → of_form form ≡ refused 20
    back none (Some s) f = absurd (none s.own.0 s.peer.0 s.tries (form_pictured text s.own.0 s.peer.0 s.tries f))
    back none None f = refl

-- ---- reading what was written

-- the text was written: the rules refuse nothing, the length is the text's, and there is room for it
record WrittenBy (own peer tries room len : ℕ) : Type 0 where
  rules : rule_of own peer tries ≡ 0
  text_long : length (text_of own peer tries) ≡ len
  fits : length (text_of own peer tries) ≤ room

written_by : (own peer tries room len : ℕ) → write_of own peer tries room ≡ written len → WrittenBy own peer tries room len
unfolding write_of
written_by own peer tries room len e = go (eqb (rule_of own peer tries) 0) refl (leb (length (text_of own peer tries)) room) refl e
  where
    go : (s : Bool) → eqb (rule_of own peer tries) 0 ≡ s → (t : Bool) → leb (length (text_of own peer tries)) room ≡ t
        → if s (if t (written (length (text_of own peer tries))) (refusedWrite 10)) (refusedWrite (rule_of own peer tries)) ≡ written len
        → WrittenBy own peer tries room len
    go true p true q e = record {
      rules = eqb-true (rule_of own peer tries) 0 p;
      text_long = cc;
      fits = leb-true (length (text_of own peer tries)) room q;
    }
    go true p false q e = let z : ◌≡◌ {A = ℕ} 0 1 = cc in absurd (omega arith)
    go false p t q e = let z : ◌≡◌ {A = ℕ} 0 1 = cc in absurd (omega arith)

-- what a call wrote is read as the settings that it was given
pub written_then_read : (own peer tries : ℕ) (before after : List ℕ) (len : ℕ)
    → Wrote own peer tries before (Ok len) after
    → read_of (take len after) ≡ settings own peer tries
written_then_read own peer tries before after len w =
    let wrote = sym w.result in
    let k = written_by own peer tries (length before) len wrote in
    let left : after ≡ laid before 0 (text_of own peer tries) = w.buffer ∙ ap (left_by before (text_of own peer tries)) wrote in
    let front : take len after ≡ text_of own peer tries = rw (← k.text_long, left) (laid_front before (text_of own peer tries) k.fits) in
    (reads_settings (take len after) own peer tries).1 (rule_allowed own peer tries k.rules, front)

-- the texts that are read are just those that are written: a text is read as settings exactly where writing them into a
-- buffer of its length writes all of it and leaves just the text
pub read_as_written : (text before : List ℕ) (own peer tries : ℕ) → length before ≡ length text
    → read_of text ≡ settings own peer tries
    ↔ (write_of own peer tries (length before) ≡ written (length text)) × (left_by before (text_of own peer tries) (write_of own peer tries (length before)) ≡ text)
unfolding write_of
read_as_written text before own peer tries same = (λ e. forth ((reads_settings text own peer tries).0 e), back)
  where
    forth : Allowed own peer tries × (text ≡ text_of own peer tries)
        → (write_of own peer tries (length before) ≡ written (length text)) × (left_by before (text_of own peer tries) (write_of own peer tries (length before)) ≡ text)
    forth k =
        let long : length (text_of own peer tries) ≡ length before = ap length (sym k.1) ∙ sym same in
        let all : write_of own peer tries (length before) ≡ written (length text) =
        rw (allowed_rule own peer tries k.0, le-leb (length (text_of own peer tries)) (length before) (omega arith), ← k.1) in
        (all, ap (left_by before (text_of own peer tries)) all ∙ laid_whole before (text_of own peer tries) long ∙ sym k.1)

    back : (write_of own peer tries (length before) ≡ written (length text)) × (left_by before (text_of own peer tries) (write_of own peer tries (length before)) ≡ text)
        → read_of text ≡ settings own peer tries
    back k =
        let w = written_by own peer tries (length before) (length text) k.0 in
        let left : text ≡ laid before 0 (text_of own peer tries) = sym k.1 ∙ ap (left_by before (text_of own peer tries)) k.0 in
        (reads_settings text own peer tries).1
        (rule_allowed own peer tries w.rules, left ∙ laid_whole before (text_of own peer tries) (w.text_long ∙ sym same))
