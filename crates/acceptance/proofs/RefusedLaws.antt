-- What the definitions of the promises leave where their answer is a refusal: a law for each kind of answer. `RefusedStays` cites them for each
-- call.
use Rattle.std.proofs.Common.{Err, None, Ok, Option, Result, Some}
use Prim.Native.Nat.{ℕ, ◌≤◌}
use mathlib.Core.Bool.{Bool, true, false}
use mathlib.Core.List.{List, [], ◌∷◌}
use mathlib.Core.Path.{◌≡◌, refl, sym, subst, ap, ◌∙◌}
use native.Mathlib.Omega.{arith}
use borrow.Author.Tests.{lt-ltb}
use lib.Dec.{eqb, ltb}
use lib.ListN.{length, get_or}
use Rattle.acceptance.specs.Refused.{IsRefused, IsNumber}
use Rattle.codes.specs.FunctionCodes.{function_code_of}
use Rattle.diagnostics.proofs.Steps.{step_refused}
use Rattle.diagnostics.specs.Store.{Filling, fill_of}
use Rattle.diagnostics.specs.Walk as walk
use Rattle.diagnostics.specs.Walk.{StepAnswer, Stepped, step_of}
use Rattle.exports_diagnostics.specs.Calls.{StepCall, step_call, stepped_call, FillCall, fill_call}
use Rattle.exports_settings.specs.Calls as settings
use Rattle.exports_stations.specs.Calls as stations
use Rattle.exports_telegrams.specs.Read as telegrams
use Rattle.exports_telegrams.specs.Write.{WriteCall, write_call, coded_call, header_of, koy_write_data, bare_call}
use Rattle.ground.proofs.Injective.{zero_one}
use Rattle.ground.specs.Pick.{if}
use Rattle.ground.specs.Refusals.{OrRefused, gives, refused, number_of, shown}
use Rattle.listing.specs.Answers as listing
use Rattle.responder_row.specs.Rows.{row_answers, row_after, row_of, shown_in, row_answered, shown_answered}
use Rattle.ground.specs.declared.returned.Returned.{Returned}
use Rattle.responder_row.specs.declared.head.RowHead.{RowHead}
use Rattle.responder_row.specs.declared.row.Row.{Row}
use Rattle.settings.specs.Reading as settingsReading
use Rattle.settings.specs.Writing as settingsWriting
use Rattle.telegram.specs.Picture.{telegram_bytes}
use Rattle.telegram.specs.Reading as reading
use Rattle.telegram.specs.Reading.{Reading, whole, incomplete}
use Rattle.telegram_tx.specs.Writing.{left_of, write_of, write_found, buffer_found}
use Rattle.telegram_bytes.specs.Serialized.{front_of}
use Rattle.telegram_bytes.specs.declared.coded.CodedHeader.{CodedHeader}
use Rattle.telegram_tx.specs.declared.tx.TelegramTxResponse.{TelegramTxResponse}
use Rattle.token_ring.specs.Rules.{station_answer, next_set, removed}
use Rattle.token_ring.specs.declared.ring.TokenRing.{TokenRing}
use Rattle.ground.specs.declared.refusal.Refusal.{Refusal}
use Rattle.codes.specs.declared.function_code.FunctionCode.{FunctionCode}

-- what holds of the one side of an equation, of the other
pub carried : {A : Type 0} (P : A → Type 0) {x y : A} → x ≡ y → P y → P x
carried P e p = subst P (sym e) p

-- an array of one number, and of two
pub one_number : (s : List ℕ) → length s ≡ 1 → get_or s 0 0 ∷ [] ≡ s
one_number [] e = absurd (omega (arith, e))
one_number (a ∷ []) e = refl
one_number (a ∷ b ∷ s) e = absurd (omega (arith, e))

pub two_numbers : (s : List ℕ) → length s ≡ 2 → get_or s 0 0 ∷ get_or s 1 0 ∷ [] ≡ s
two_numbers [] e = absurd (omega (arith, e))
two_numbers (a ∷ []) e = absurd (omega (arith, e))
two_numbers (a ∷ b ∷ []) e = refl
two_numbers (a ∷ b ∷ d ∷ s) e = absurd (omega (arith, e))

-- What is left is made of an answer, and a refusal leaves what was there.
pub left_alone :
    {N A B : Type 0} (made : N → A) (left : A → B) (before : B) → ((n : N) → left (made n) ≡ before)
    → {x o : A} {after : B} → x ≡ o → after ≡ left o → IsRefused made x
    → after ≡ before
left_alone made left before same e f r = f ∙ ap left (sym e ∙ r.is) ∙ same r.number

-- ---- writing

pub front_stays :
    (t buf : List ℕ) {x o : OrRefused ℕ} {after : List ℕ} → x ≡ o → after ≡ front_of o t buf → IsRefused refused x
    → after ≡ buf
front_stays t buf e f r = left_alone refused (λ o. front_of o t buf) buf (λ n. refl) e f r

pub written_stays :
    (t buf : List ℕ) {x o : OrRefused TelegramTxResponse} {after : List ℕ} → x ≡ o → after ≡ left_of o t buf → IsRefused refused x
    → after ≡ buf
written_stays t buf e f r = left_alone refused (λ o. left_of o t buf) buf (λ n. refl) e f r

-- where the function code comes as a byte
pub coded_stays :
    (found : Option FunctionCode) (h : CodedHeader) (pdu buf : List ℕ) {x : OrRefused TelegramTxResponse} {after : List ℕ}
    → x ≡ write_found found h pdu (length buf) → after ≡ buffer_found found h pdu buf → IsRefused refused x
    → after ≡ buf
coded_stays (Some fc) h pdu buf e f r = written_stays _ buf e f r
coded_stays None h pdu buf e f r = f

-- ---- texts

pub settings_stay :
    (t buf : List ℕ) {x o : settingsWriting.WriteAnswer} {after : List ℕ} → x ≡ o → after ≡ settingsWriting.left_by buf t o
    → IsRefused settingsWriting.refused x
    → after ≡ buf
settings_stay t buf e f r = left_alone settingsWriting.refused (λ o. settingsWriting.left_by buf t o) buf (λ n. refl) e f r

pub listing_stays :
    (t buf : List ℕ) {x o : OrRefused ℕ} {after : List ℕ} → x ≡ o → after ≡ listing.left_by buf t o → IsRefused refused x
    → after ≡ buf
listing_stays t buf e f r = left_alone refused (λ o. listing.left_by buf t o) buf (λ n. refl) e f r

-- ---- the station list

numbered_station : (a : ℕ) (t : Bool) → ltb 125 a ≡ t → 1 ≤ if t 11 0 → ltb 125 a ≡ true
numbered_station a true e h = e
numbered_station a false e h = absurd (omega arith)

-- 11 is given just where an address is above 125
pub station_refused : (a : ℕ) {n : ℕ} → n ≡ station_answer a → IsNumber n → ltb 125 a ≡ true
station_refused a e h = numbered_station a (ltb 125 a) refl (rw (sym e) h.0)

pub next_set_stays : (a : ℕ) (r : TokenRing) → ltb 125 a ≡ true → next_set a r ≡ r
unfolding next_set
next_set_stays a r e = rw e

pub removed_stays : (a : ℕ) (r : TokenRing) → ltb 125 a ≡ true → removed a r ≡ r
unfolding removed
removed_stays a r e = rw e

-- ---- the responder's row

number_shown : (answer : Result Unit Refusal) (row : Row) → IsNumber (shown answer) → IsRefused refused (shown_in answer row)
number_shown (Ok tt) row h = absurd (omega (arith, h.0))
number_shown (Err refusal) row h = record { number = number_of refusal; is = refl }

-- whatever the held bytes are: none, and any answer
pub row_kept :
    (x : Returned (Result Unit Refusal) RowHead) (head : RowHead) (p : List ℕ) → shown_answered x [] p ≡ row_answers (row_of head []) p
    → row_answered x [] p ≡ row_after (row_answers (row_of head []) p) (row_of head []) → IsNumber (shown x.answer)
    → x.after ≡ head
row_kept x head p e f h =
    let q = left_alone refused (λ o. row_after o (row_of head [])) (row_of head []) (λ n. refl) e f (number_shown x.answer (row_answered x [] p) h) in
    λ i. record { state = (q i).state; len = (q i).len }

-- ---- filling

pub record FillStays (store : List ℕ) (walked : ℕ) (f : Filling) : Type 0 where
  pub same : f.answer ≡ false → (f.walked ≡ walked) × (f.store ≡ store)

fill_picked :
    (t : Bool) (store : List ℕ) (walked : ℕ) (f : Filling) → FillStays store walked f
    → FillStays store walked (if t (record { answer = false; walked = walked; store = store }) f)
fill_picked true store walked f h = record { same = λ e. (refl, refl) }
fill_picked false store walked f h = h

pub fill_stays : (store bytes : List ℕ) (walked : ℕ) → FillStays store walked (fill_of store walked bytes)
unfolding fill_of
fill_stays store bytes walked =
    fill_picked (eqb (length store) 0) store walked _
    (fill_picked (ltb (length store) (length bytes)) store walked _ (record { same = λ e. absurd (zero_one (cc)) }))

-- ---- the same calls in numbers and lent bytes

pub read_told : (r : Reading) (told : List ℕ) → IsNumber (telegrams.read_call r told).code → (telegrams.read_call r told).told ≡ told
read_told (whole t total) told h = absurd (omega (arith, h.0))
read_told incomplete told h = refl
read_told (reading.refused n) told h = refl

-- what a call that writes leaves: the numbers told, and the buffer
pub record WriteStays (told buf : List ℕ) (c : WriteCall) : Type 0 where
  pub same : IsNumber c.code → (c.told ≡ told) × (c.buffer ≡ buf)

write_call_lem : (o : OrRefused TelegramTxResponse) (told t buf : List ℕ) → WriteStays told buf (write_call o told (left_of o t buf))
write_call_lem (gives response) told t buf = record { same = λ h. absurd (omega (arith, h.0)) }
write_call_lem (refused n) told t buf = record { same = λ h. (refl, refl) }

coded_call_lem :
    (found : Option FunctionCode) (da sa dsap ssap : ℕ) (pdu told buf : List ℕ)
    → WriteStays told buf (coded_call found da sa dsap ssap pdu told buf)
coded_call_lem (Some fc) da sa dsap ssap pdu told buf =
    write_call_lem (write_of (header_of da sa dsap ssap fc) pdu (length buf)) told (telegram_bytes (header_of da sa dsap ssap fc) pdu) buf
coded_call_lem None da sa dsap ssap pdu told buf = record { same = λ h. (refl, refl) }

pub write_data_stays : (da sa dsap ssap fc : ℕ) (pdu buf told : List ℕ) → WriteStays told buf (koy_write_data da sa dsap ssap fc pdu buf told)
unfolding koy_write_data
write_data_stays da sa dsap ssap fc pdu buf told = coded_call_lem (function_code_of fc) da sa dsap ssap pdu told buf

pub bare_stays : (o : OrRefused TelegramTxResponse) (t buf : List ℕ) → IsNumber (bare_call o (left_of o t buf)).code → (bare_call o (left_of o t buf)).buffer ≡ buf
bare_stays (gives response) t buf h = absurd (omega (arith, h.0))
bare_stays (refused n) t buf h = refl

pub stations_stay : (state : List ℕ) (number : ℕ) (after : TokenRing) → IsNumber (stations.crossed state number after).code → (stations.crossed state number after).state ≡ state
unfolding stations.crossed
stations_stay state number after h = rw (lt-ltb 0 number (omega (arith, h.0)))

pub settings_told : (r : settingsReading.ReadAnswer) (told : List ℕ) → IsNumber (settings.read_call r told).code → (settings.read_call r told).told ≡ told
settings_told (settingsReading.settings own peer tries) told h = absurd (omega (arith, h.0))
settings_told (settingsReading.refused n) told h = refl

pub record SettingsStay (told buf : List ℕ) (c : settings.WriteCall) : Type 0 where
  pub same : IsNumber c.code → (c.told ≡ told) × (c.buffer ≡ buf)

pub settings_write_stays :
    (o : settingsWriting.WriteAnswer) (told t buf : List ℕ)
    → SettingsStay told buf (settings.write_call o told (settingsWriting.left_by buf t o))
settings_write_stays (settingsWriting.written len) told t buf = record { same = λ h. absurd (omega (arith, h.0)) }
settings_write_stays (settingsWriting.refused n) told t buf = record { same = λ h. (refl, refl) }

-- ---- the walk

-- "only a refused diagnostics walk moves, to its end"
pub walk_moves :
    (s : List ℕ) (at : ℕ) {x : Stepped} → x ≡ step_of s at → IsRefused walk.refused x.answer
    → x.cursor ≡ length s
walk_moves s at e r = ap (λ (z : Stepped). z.cursor) e ∙ (step_refused s at r.number (sym (ap (λ (z : Stepped). z.answer) e) ∙ r.is)).cursor_at

-- the same step told in numbers: the cursor is where a refusal leaves it, and no other number is told
step_by :
    (answer : StepAnswer) (next end : ℕ) (told : List ℕ) → ((n : ℕ) → answer ≡ walk.refused n → next ≡ end)
    → IsNumber (step_call answer next told).code
    → ((step_call answer next told).cursor ≡ end ∷ []) × ((step_call answer next told).told ≡ told)
step_by (walk.block p) next end told f h = absurd (omega (arith, h.0))
step_by walk.at_end next end told f h = absurd (omega (arith, h.1))
step_by (walk.refused n) next end told f h = (ap (λ (k : ℕ). k ∷ []) (f n refl), refl)

pub record StepMoves (s told : List ℕ) (c : StepCall) : Type 0 where
  pub same : IsNumber c.code → (c.cursor ≡ length s ∷ []) × (c.told ≡ told)

pub step_moves : (s : List ℕ) (at : ℕ) (told : List ℕ) → StepMoves s told (stepped_call (step_of s at) told)
step_moves s at told =
    record { same = λ h. step_by (step_of s at).answer (step_of s at).cursor (length s) told (λ n e. (step_refused s at n e).cursor_at) h }

-- filling told in numbers
pub record FillCallStays (store walked : List ℕ) (c : FillCall) : Type 0 where
  pub same : c.answer ≡ false → (c.walked ≡ walked) × (c.store ≡ store)

pub fill_call_stays :
    (store walked bytes : List ℕ) → length walked ≡ 1
    → FillCallStays store walked (fill_call (fill_of store (get_or walked 0 0) bytes))
fill_call_stays store walked bytes one =
    record {
      same = λ e.
          let s = (fill_stays store bytes (get_or walked 0 0)).same e in
          (ap (λ (n : ℕ). n ∷ []) s.0 ∙ one_number walked one, s.1);
    }
