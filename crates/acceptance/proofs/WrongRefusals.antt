-- Promises that let a refused call touch what it must leave: each is refuted, so that `RefusedLeaves` says something. And the other side: every
-- refusal counts as one, `every_refusal_shows`, so that `refused_stays_lem` speaks of all of them.
use Rattle.std.proofs.Common.{Err, None}
use mathlib.Core.Bool.{false}
use mathlib.Core.List.{[], ◌∷◌}
use mathlib.Core.Path.{◌≡◌, refl, ap, sym}
use denote.Ref.{Bor}
use denote.MutBor.{MutBor}
use lib.Dec.{lit≤}
use lib.ListN.{length, get_or}
use Rattle.acceptance.specs.Refused.{IsRefused, IsNumber, RefusedLeaves, RefusedStays, RefusedKeeps}
use Rattle.codes.specs.FrameCountBits.{shown_cycled}
use Rattle.codes.specs.declared.frame_count_bit.FrameCountBit.TheVariants.{First}
use Rattle.codes.specs.declared.function_code.FunctionCode.TheVariants.{Request}
use Rattle.codes.specs.declared.request_type.RequestType.TheVariants.{SrdLow}
use Rattle.diagnostics.specs.contracts.store.ExtendedDiagnostics.fill as fill
use Rattle.diagnostics.specs.contracts.walk.ExtDiagBlockIter.next as next
use Rattle.diagnostics.specs.Shown.{shown_found}
use Rattle.diagnostics.specs.Store.{walked_of}
use Rattle.diagnostics.specs.Walk as walk
use Rattle.diagnostics.specs.declared.walk.Found.TheVariants as found
use Rattle.exports_guarded.specs.contracts.guarded_initiator.koy_guarded_initiator_submit as koy_guarded_initiator_submit
use Rattle.exports_telegrams.specs.contracts.reading.koy_read as koy_read
use Rattle.exports_telegrams.specs.Read as reads
use Rattle.ground.proofs.Injective.{zero_one}
use Rattle.ground.specs.Determined.{Promise}
use Rattle.ground.specs.Refusals.{refused, number_of, shown}
use Rattle.ground.specs.declared.refusal.Refusal.TheVariants as refusal
use Rattle.ground.specs.declared.refusal.Refusal.{Refusal}
use Rattle.initiator.specs.Calls as initiator
use Rattle.initiator.specs.declared.answer.InitiatorAnswer.TheVariants as initiatorAnswer
use Rattle.link_telegrams.specs.Turns as turns
use Rattle.listing.specs.Answers as listing
use Rattle.responder.specs.Calls as responder
use Rattle.responder.specs.declared.answer.ResponderAnswer.TheVariants as responder_answer
use Rattle.settings.specs.Reading as settingsReading
use Rattle.settings.specs.Writing as settingsWriting
use Rattle.telegram.specs.Frames.{shown_frame, frame_refused}
use Rattle.telegram.specs.Reading as reading
use Rattle.telegram.specs.Reading.{read_of}
use Rattle.telegram.specs.declared.deserialize.Deserialized.TheVariants as deserialized
use Rattle.telegram.specs.declared.frame.FrameFound.TheVariants as frameFound
use Rattle.telegram.specs.declared.header.DataTelegramHeader.{DataTelegramHeader}
use Rattle.telegram_tx.specs.contracts.tx.send_data_telegram as send_data_telegram
use Rattle.telegram_tx.specs.Writing.{shown_writing, write_of}
use Rattle.telegram_strict.specs.Strict.{shown_start}
use Rattle.telegram_strict.specs.declared.strict.Sloppiness.{Sloppiness}
use Rattle.telegram_strict.specs.declared.strict.Sloppiness.TheVariants.{LengthNotStandard, FourthByte}
use Rattle.token_ring.specs.contracts.ring.TokenRing.set_next_station as set_next_station
use Rattle.token_ring.specs.Rules.{station_answer, fresh}

-- a reference to this value
abbrev to : {A : Type 0} → A → Bor A
to x = record { ref_ptr = (0, 0); now = x }

-- a `&mut` to it
abbrev to_mut : {A : Type 0} → A → MutBor A
to_mut x = record { ref_ptr = (0, 0); ghost_name = 0; now = x }

-- ---- promises of the answer alone

-- Writing: a promise that is silent about the buffer lets a write to station 200, which is refused with 8, change it.
abbrev answer_alone : Promise send_data_telegram.ended
answer_alone κs a x e = shown_writing x ≡ write_of a.0 a.1.0.now (length a.1.1.0.now)

abbrev to_station200 : DataTelegramHeader
to_station200 = record { da = record { 0 = 200 }; sa = record { 0 = 2 }; dsap = None; ssap = None; fc = Request First SrdLow }

pub silent_about_the_buffer : RefusedStays send_data_telegram.ended answer_alone (λ κs x. IsRefused refused (shown_writing x)) (λ κs e. e) → ⊥
unfolding write_of
silent_about_the_buffer stays =
    let same =
    (stays.leaves ([], ([], tt)) (to_station200, (to [], (to_mut (1 ∷ []), tt)))
    (record { result = Err refusal.AddressTooLarge; last = (tt, (tt, (0 ∷ [], tt))); meets = refl })
    (record { number = 8; is = refl })
    ).0 in
    zero_one (ap (λ a. get_or a.1.1.0.now 0 0) same)

-- The station list: a promise of the number alone lets the list that comes back with refusal 11 be another.
abbrev number_alone : Promise set_next_station.ended
number_alone κs a x e = shown x.answer ≡ station_answer a.1.0.0

pub silent_about_the_record :
    RefusedKeeps set_next_station.ended number_alone (λ κs x. IsNumber (shown x.answer)) (λ κs e. e) (λ κs a x. x.after) (λ κs a. a.0)
    → ⊥
unfolding fresh
silent_about_the_record keeps =
    let same =
    (keeps.leaves tt (fresh 1, (record { 0 = 126 }, tt))
    (record { result = record { answer = Err refusal.NotAStation; after = fresh 0 }; last = (tt, (tt, tt)); meets = refl })
    (lit≤ tt, lit≤ tt)
    ).1 in
    zero_one (ap (λ r. r.this_station.0) same)

-- ---- promises of another effect

-- "only a refused diagnostics walk moves, to its end": one that stays where it is
abbrev stays_put : Promise next.ended
stays_put κs a x e =
    (shown_found x.answer ≡ (walk.step_of (walked_of a.1.0.length a.1.1.0.now) a.0.cursor).answer) × (x.after ≡ a.0)

pub walk_that_stays_put :
    RefusedLeaves next.ended stays_put (λ κs x. IsRefused walk.refused (shown_found x.answer))
    (λ κs e. e) (λ κs a. a)
    (λ κs a x. x.after.cursor) (λ κs a. length (walked_of a.1.0.length a.1.1.0.now))
    → ⊥
unfolding walk.step_of walk.headed_by walk.length_of
walk_that_stays_put leaves =
    let same =
    (leaves.leaves ([], tt) (record { cursor = 0 }, (record { length = 1 }, (to (0xC0 ∷ []), tt)))
    (record {
      result = record { answer = found.Refused refusal.BlockReserved; after = record { cursor = 0 } };
      last = (tt, (tt, (tt, tt)));
      meets = (refl, refl);
    })
    (record { number = 13; is = refl })
    ).1 in
    zero_one same

-- a filling that answers false and drops what was there
abbrev drops : Promise fill.ended
drops κs a x e = (x.answer ≡ false) × ((x.after.length ≡ 0) × (e.1.0.now ≡ a.1.0.now))

pub filling_that_drops : RefusedKeeps fill.ended drops (λ κs x. x.answer ≡ false) (λ κs e. e) (λ κs a x. x.after) (λ κs a. a.0) → ⊥
filling_that_drops keeps =
    let same =
    (keeps.leaves ([], ([], tt)) (record { length = 1 }, (to_mut [], (to [], tt)))
    (record {
      result = record { answer = false; after = record { length = 0 } };
      last = (tt, ([], (tt, tt)));
      meets = (refl, (refl, refl));
    })
    refl
    ).1 in
    zero_one (ap (λ d. d.length) same)

-- across the boundary: numbers told in a refused call
abbrev tells_zero : Promise koy_read.ended
tells_zero κs a x e = (x ≡ (reads.koy_read a.0.now a.1.0.now).code) × (e.1.0.now ≡ 0 ∷ [])

pub tells_though_refused : RefusedStays koy_read.ended tells_zero (λ κs x. IsNumber x) (λ κs e. e) → ⊥
unfolding read_of
tells_though_refused stays =
    let same =
    (stays.leaves ([], ([], tt)) (to (0 ∷ []), (to_mut (1 ∷ []), tt))
    (record { result = 1; last = (tt, (0 ∷ [], tt)); meets = (refl, refl) })
    (lit≤ tt, lit≤ tt)
    ).0 in
    zero_one (ap (λ a. get_or a.1.0.now 0 0) same)

-- a guard stamped in a refused call
abbrev stamps : Promise koy_guarded_initiator_submit.ended
stamps κs a x e = (x ≡ 10) × (e.1.0.now ≡ a.1.1.0 ∷ [])

pub stamps_though_refused : RefusedStays koy_guarded_initiator_submit.ended stamps (λ κs x. IsNumber x) (λ κs e. e) → ⊥
stamps_though_refused stays =
    let same =
    (stays.leaves ([], ([], ([], ([], ([], tt))))) (to_mut [], (to_mut (0 ∷ []), (1, (to [], (to_mut [], (to_mut [], tt))))))
    (record { result = 10; last = ([], (1 ∷ [], (tt, (tt, ([], ([], tt)))))); meets = (refl, refl) })
    (lit≤ tt, lit≤ tt)
    ).0 in
    zero_one (sym (ap (λ a. get_or a.1.0.now 0 0) same))

-- ---- every refusal counts

-- each refusal in each kind of answer, and the number of each
pub record EveryRefusalShows : Type 0 where
  pub number : (r : Refusal) → IsNumber (shown (Err r))
  pub cycling : (r : Refusal) → IsRefused refused (shown_cycled (Err r))
  pub reading : (r : Refusal) → IsRefused reading.refused (reading.shown_reading (deserialized.Refused r))
  pub framing : (r : Refusal) → IsRefused frame_refused (shown_frame (frameFound.Refused r))
  pub writing : (r : Refusal) → IsRefused refused (shown_writing (Err r))
  pub walking : (r : Refusal) → IsRefused walk.refused (shown_found (found.Refused r))
  pub settings_read : (r : Refusal) → IsRefused settingsReading.refused (settingsReading.shown_read (Err r))
  pub settings_written : (r : Refusal) → IsRefused settingsWriting.refused (settingsWriting.shown_written (Err r))
  pub listing : (r : Refusal) → IsRefused refused (listing.shown_listed (Err r))
  pub initiator : (r : Refusal) → IsRefused turns.refused (initiator.shown_said (initiatorAnswer.Refused r))
  pub responder : (r : Refusal) → IsRefused turns.refused (responder.shown_said (responder_answer.Refused r))
  pub strict_start : (s : Sloppiness) → IsNumber (shown_start (Err s))

small : (r : Refusal) → IsNumber (number_of r)
small refusal.UnknownStart = (lit≤ tt, lit≤ tt)
small refusal.LengthsDiffer = (lit≤ tt, lit≤ tt)
small refusal.LengthTooSmall = (lit≤ tt, lit≤ tt)
small refusal.FunctionCode = (lit≤ tt, lit≤ tt)
small refusal.SapMissing = (lit≤ tt, lit≤ tt)
small refusal.Checksum = (lit≤ tt, lit≤ tt)
small refusal.EndDelimiter = (lit≤ tt, lit≤ tt)
small refusal.AddressTooLarge = (lit≤ tt, lit≤ tt)
small refusal.TooLong = (lit≤ tt, lit≤ tt)
small refusal.NoRoom = (lit≤ tt, lit≤ tt)
small refusal.NotAStation = (lit≤ tt, lit≤ tt)
small refusal.BlockCutOff = (lit≤ tt, lit≤ tt)
small refusal.BlockReserved = (lit≤ tt, lit≤ tt)
small refusal.BlockLengthZero = (lit≤ tt, lit≤ tt)
small refusal.CycleInactive = (lit≤ tt, lit≤ tt)
small refusal.OrderLength = (lit≤ tt, lit≤ tt)
small refusal.OrderPending = (lit≤ tt, lit≤ tt)
small refusal.LinkAddresses = (lit≤ tt, lit≤ tt)
small refusal.Tries = (lit≤ tt, lit≤ tt)
small refusal.SettingsForm = (lit≤ tt, lit≤ tt)
small refusal.NoReplyOwed = (lit≤ tt, lit≤ tt)
small refusal.InputTooLong = (lit≤ tt, lit≤ tt)

sloppy : (s : Sloppiness) → IsNumber (shown_start (Err s))
sloppy LengthNotStandard = (lit≤ tt, lit≤ tt)
sloppy FourthByte = (lit≤ tt, lit≤ tt)

pub every_refusal_shows : EveryRefusalShows
every_refusal_shows =
    record {
      number = small;
      cycling = λ r. record { number = number_of r; is = refl };
      reading = λ r. record { number = number_of r; is = refl };
      framing = λ r. record { number = number_of r; is = refl };
      writing = λ r. record { number = number_of r; is = refl };
      walking = λ r. record { number = number_of r; is = refl };
      settings_read = λ r. record { number = number_of r; is = refl };
      settings_written = λ r. record { number = number_of r; is = refl };
      listing = λ r. record { number = number_of r; is = refl };
      initiator = λ r. record { number = number_of r; is = refl };
      responder = λ r. record { number = number_of r; is = refl };
      strict_start = sloppy;
    }
