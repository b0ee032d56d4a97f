-- Demand 1: "A refused call leaves its records and lent buffers exactly as they came; only a refused diagnostics walk moves, to its end",
-- of every public call of the libraries that can refuse: `refused_stays_lem`. What that is of a call is said once, in specs/Refused.antt.
--
-- A field names a call's promise, which of its results are refusals, and that its parameters at exit are held against those at entry as
-- they are, `λ κs e. e`; then, where a call takes a record by value, the record that comes back and the one that came in. Restarting an
-- initiator never refuses, though its answer could say so; its fields are here for that.
--
-- Calls that cannot refuse. Each public call is in the record or in this list, and none is in the list whose result could hold a refusal;
-- docs/check-calls sees to both.
-- They ask what a value or bytes are: `Part::show`, `Refusal::number`, `answer_number`, `checksum`, `FrameCountBit::fcb`,
-- `FrameCountBit::fcv`, `FunctionCode::to_byte`, `RequestType::number`, `RequestType::expects_reply`, `ResponseState::number`,
-- `ResponseStatus::number`, `Frame::is_sealed`, `DataTelegram::pdu`, `DataTelegram::is_response`, `Telegram::source_address`,
-- `Telegram::destination_address`, `DataTelegram::is_fdl_status_request`, `TelegramTxResponse::bytes_sent`,
-- `TelegramTxResponse::expects_reply`, `LasState::is_valid`, `TokenRing::active_stations`, `TokenRing::ready_for_ring`,
-- `TokenRing::this_station`, `TokenRing::next_station`, `TokenRing::previous_station`, `TokenRing::las_state`, `TokenRing::is_active`,
-- `ChannelDataType::into_diag_byte2`, `ChannelError::into_diag_byte2`, `is_set`, `ExtendedDiagnostics::is_available`,
-- `ExtendedDiagnostics::raw_diag_buffer`, `decimal_len`, `byte_is_at`, `begins_at`, `text`, `wrong_addresses`, `wrong_tries`,
-- `wrong_length`, `Bit::frame_count_bit`, `InitiatorHead::order_len`, `Initiator::order`, `Initiator::own`, `Initiator::peer`,
-- `Initiator::tries`, `Initiator::phase`, `Initiator::order_len`, `Phase::is_pending`, `Phase::tries_used`, `Phase::frame_count_bit`,
-- `RowHead::held_len`, `RowState::stored_bit`, `RowState::owes_reply`, `RowState::holds_reply`, `Row::state`, `Row::head`,
-- `Row::held_len`, `Row::held`, `Responder::own`, `Responder::peer`, `Responder::row`, `koy_stations_about`, `koy_stations_is_active`,
-- `koy_diagnostics_module`, `stamp_after`, `number_after`, `number_told`,
-- `phase_number`, `phase_of`, `state_number`, `state_of`;
-- they say what was found, or that there is nothing: `FunctionCode::from_byte`, `FunctionCode::reply_to_byte`, `RequestType::from_u8`,
-- `ResponseState::from_u8`, `ResponseStatus::from_u8`, `TokenRing::first_active_from`, `TokenRing::last_active_to`, `first_set`,
-- `get_decimal`, `request_to`, `request_heard`, `reply_heard`, `RowHead::hear`, `koy_stations_first_from`, `koy_stations_last_to`;
-- they make a value of any arguments: `FrameCountBit::from_fcv_fcb`, `FunctionCode::new_srd_low`, `FunctionCode::new_srd_high`,
-- `FunctionCode::new_response`, `TokenTelegram::new`, `TelegramTxResponse::new`, `TokenRing::from_parts`,
-- `ChannelDataType::from_diag_byte2`, `ChannelError::from_diag_byte2`, `ChannelDiagnostics::from_diag_bytes`,
-- `ExtendedDiagnostics::from_buffer`, `ExtendedDiagnostics::iter_diag_blocks`, `opening_header`, `order_header`, `ok_header`,
-- `reply_header`, `Row::blank`, `Row::from_parts`, `Responder::from_parts`;
-- they change what they are given, or put bytes where there is room: `FrameCountBit::reset`, `Bit::cycle`, `copy_to_front`, `put_byte`,
-- `put_bytes`, `put_decimal`, `put_hex`, `put_item`, `TokenRing::witness_token_pass`, `TokenRing::claim_token`, `witness_token_pass`,
-- `claim_token`, `ExtendedDiagnostics::take_buffer`, `Responder::restart`, `koy_stations_witness`, `koy_stations_claim`,
-- `koy_responder_restart`.
use Prim.Native.Nat.{ℕ}
use mathlib.Core.Bool.{false}
use mathlib.Core.List.{[], ◌∷◌}
use mathlib.Core.Path.{◌≡◌, refl, ◌∙◌}
use denote.Ref.{at_last}
use lib.Dec.{eqb}
use lib.ListN.{length, replicate, length-replicate}
use Rattle.acceptance.proofs.RefusedLaws.{carried, front_stays, written_stays, coded_stays, settings_stay, listing_stays, station_refused, next_set_stays, removed_stays, FillStays, fill_stays, read_told, WriteStays, write_data_stays, bare_stays, stations_stay, settings_told, SettingsStay, settings_write_stays, walk_moves, StepMoves, step_moves, FillCallStays, fill_call_stays, row_kept}
use Rattle.acceptance.proofs.RefusedTurns.{Unmoved, submit_unmoved, silence_unmoved, hear_unmoved, restart_unmoved, responder_hear_unmoved, answer_unmoved, submit_on_lem, silence_on_lem, hear_on_lem, responder_hear_on, answer_on_lem, Uncrossed, Unguarded, new_stays, guarded_new_stays, koy_submit, koy_silence, koy_initiator_hear_lem, koy_restart, koy_responder_hear_lem, koy_answer, stamped_stays, numbered_stays, ignored_stays, other_stays}
use Rattle.acceptance.specs.Refused.{IsRefused, IsNumber, sized, RefusedLeaves, RefusedStays, RefusedKeeps}
use Rattle.codes.specs.contracts.frame_count_bit.FrameCountBit.cycle as cycle
use Rattle.codes.proofs.frame_count_bit.FrameCountBit.cycle.Reads as cycle_reads
use Rattle.codes.specs.FrameCountBits.{shown_cycled}
use Rattle.codes.specs.FunctionCodes.{function_code_of}
use Rattle.diagnostics.specs.contracts.store.ExtendedDiagnostics.fill as fill
use Rattle.diagnostics.proofs.store.ExtendedDiagnostics.fill.Reads as fill_reads
use Rattle.diagnostics.specs.contracts.walk.ExtDiagBlockIter.next as next
use Rattle.diagnostics.proofs.walk.ExtDiagBlockIter.next.Reads as next_reads
use Rattle.diagnostics.specs.Shown.{shown_found}
use Rattle.diagnostics.specs.Store.{walked_of}
use Rattle.diagnostics.specs.Walk as walk
use Rattle.exports_diagnostics.specs.contracts.koy_diagnostics_fill as koy_diagnostics_fill
use Rattle.exports_diagnostics.proofs.koy_diagnostics_fill.Reads as koy_diagnostics_fill_reads
use Rattle.exports_diagnostics.specs.contracts.koy_diagnostics_step as koy_diagnostics_step
use Rattle.exports_diagnostics.proofs.koy_diagnostics_step.Reads as koy_diagnostics_step_reads
use Rattle.exports_guarded.specs.contracts.guarded_initiator.koy_guarded_initiator_hear as koy_guarded_initiator_hear
use Rattle.exports_guarded.proofs.guarded_initiator.koy_guarded_initiator_hear.Reads as koy_guarded_initiator_hear_reads
use Rattle.exports_guarded.specs.contracts.guarded_initiator.koy_guarded_initiator_new as koy_guarded_initiator_new
use Rattle.exports_guarded.proofs.guarded_initiator.koy_guarded_initiator_new.Reads as koy_guarded_initiator_new_reads
use Rattle.exports_guarded.specs.contracts.guarded_initiator.koy_guarded_initiator_silence as koy_guarded_initiator_silence
use Rattle.exports_guarded.proofs.guarded_initiator.koy_guarded_initiator_silence.Reads as koy_guarded_initiator_silence_reads
use Rattle.exports_guarded.specs.contracts.guarded_initiator.koy_guarded_initiator_submit as koy_guarded_initiator_submit
use Rattle.exports_guarded.proofs.guarded_initiator.koy_guarded_initiator_submit.Reads as koy_guarded_initiator_submit_reads
use Rattle.exports_guarded.specs.contracts.guarded_responder.koy_guarded_responder_answer as koy_guarded_responder_answer
use Rattle.exports_guarded.proofs.guarded_responder.koy_guarded_responder_answer.Reads as koy_guarded_responder_answer_reads
use Rattle.exports_guarded.specs.contracts.guarded_responder.koy_guarded_responder_hear as koy_guarded_responder_hear
use Rattle.exports_guarded.proofs.guarded_responder.koy_guarded_responder_hear.Reads as koy_guarded_responder_hear_reads
use Rattle.exports_guarded.specs.contracts.guarded_responder.koy_guarded_responder_new as koy_guarded_responder_new
use Rattle.exports_guarded.proofs.guarded_responder.koy_guarded_responder_new.Reads as koy_guarded_responder_new_reads
use Rattle.exports_guarded.specs.Calls.{GuardedNew}
use Rattle.guards.specs.Guards.{handed_of, is_stale}
use Rattle.exports_link.specs.contracts.initiator_end.koy_initiator_hear as koy_initiator_hear
use Rattle.exports_link.proofs.initiator_end.koy_initiator_hear.Reads as koy_initiator_hear_reads
use Rattle.exports_link.specs.contracts.initiator_end.koy_initiator_new as koy_initiator_new
use Rattle.exports_link.proofs.initiator_end.koy_initiator_new.Reads as koy_initiator_new_reads
use Rattle.exports_link.specs.contracts.initiator_end.koy_initiator_restart as koy_initiator_restart
use Rattle.exports_link.proofs.initiator_end.koy_initiator_restart.Reads as koy_initiator_restart_reads
use Rattle.exports_link.specs.contracts.initiator_end.koy_initiator_silence as koy_initiator_silence
use Rattle.exports_link.proofs.initiator_end.koy_initiator_silence.Reads as koy_initiator_silence_reads
use Rattle.exports_link.specs.contracts.initiator_end.koy_initiator_submit as koy_initiator_submit
use Rattle.exports_link.proofs.initiator_end.koy_initiator_submit.Reads as koy_initiator_submit_reads
use Rattle.exports_link.specs.contracts.responder_end.koy_responder_answer as koy_responder_answer
use Rattle.exports_link.proofs.responder_end.koy_responder_answer.Reads as koy_responder_answer_reads
use Rattle.exports_link.specs.contracts.responder_end.koy_responder_hear as koy_responder_hear
use Rattle.exports_link.proofs.responder_end.koy_responder_hear.Reads as koy_responder_hear_reads
use Rattle.exports_link.specs.contracts.responder_end.koy_responder_new as koy_responder_new
use Rattle.exports_link.proofs.responder_end.koy_responder_new.Reads as koy_responder_new_reads
use Rattle.exports_link.specs.Calls.{NewCall}
use Rattle.exports_link.specs.InitiatorCalls.{initiator_crosses}
use Rattle.exports_link.specs.ResponderCalls.{responder_crosses}
use Rattle.exports_settings.specs.contracts.koy_settings_read as koy_settings_read
use Rattle.exports_settings.proofs.koy_settings_read.Reads as koy_settings_read_reads
use Rattle.exports_settings.specs.contracts.koy_settings_write as koy_settings_write
use Rattle.exports_settings.proofs.koy_settings_write.Reads as koy_settings_write_reads
use Rattle.exports_settings.specs.Calls as settings
use Rattle.exports_stations.specs.contracts.stations.koy_stations_new as koy_stations_new
use Rattle.exports_stations.proofs.stations.koy_stations_new.Reads as koy_stations_new_reads
use Rattle.exports_stations.specs.contracts.stations.koy_stations_remove as koy_stations_remove
use Rattle.exports_stations.proofs.stations.koy_stations_remove.Reads as koy_stations_remove_reads
use Rattle.exports_stations.specs.contracts.stations.koy_stations_set_next as koy_stations_set_next
use Rattle.exports_stations.proofs.stations.koy_stations_set_next.Reads as koy_stations_set_next_reads
use Rattle.exports_stations.specs.Calls as stations
use Rattle.exports_strict.specs.contracts.koy_read_strict as koy_read_strict
use Rattle.exports_strict.proofs.koy_read_strict.Reads as koy_read_strict_reads
use Rattle.exports_telegrams.specs.contracts.reading.koy_read as koy_read
use Rattle.exports_telegrams.proofs.reading.koy_read.Reads as koy_read_reads
use Rattle.exports_telegrams.specs.contracts.writing.koy_write_confirmation as koy_write_confirmation
use Rattle.exports_telegrams.proofs.writing.koy_write_confirmation.Reads as koy_write_confirmation_reads
use Rattle.exports_telegrams.specs.contracts.writing.koy_write_data as koy_write_data
use Rattle.exports_telegrams.proofs.writing.koy_write_data.Reads as koy_write_data_reads
use Rattle.exports_telegrams.specs.contracts.writing.koy_write_token as koy_write_token
use Rattle.exports_telegrams.proofs.writing.koy_write_token.Reads as koy_write_token_reads
use Rattle.exports_telegrams.specs.Read.{ReadCall}
use Rattle.exports_telegrams.specs.Write.{BareCall}
use Rattle.ground.specs.Determined.{Promise, Says}
use Rattle.ground.specs.Refusals.{refused, shown}
use Rattle.initiator.specs.contracts.head.InitiatorHead.hear as head_hear
use Rattle.initiator.proofs.head.InitiatorHead.hear.Reads as head_hear_reads
use Rattle.initiator.specs.contracts.head.InitiatorHead.restart as head_restart
use Rattle.initiator.proofs.head.InitiatorHead.restart.Reads as head_restart_reads
use Rattle.initiator.specs.contracts.head.InitiatorHead.silence as head_silence
use Rattle.initiator.proofs.head.InitiatorHead.silence.Reads as head_silence_reads
use Rattle.initiator.specs.contracts.head.InitiatorHead.submit as head_submit
use Rattle.initiator.proofs.head.InitiatorHead.submit.Reads as head_submit_reads
use Rattle.initiator.specs.contracts.state.Initiator.hear as initiator_hear
use Rattle.initiator.proofs.state.Initiator.hear.Reads as initiator_hear_reads
use Rattle.initiator.specs.contracts.state.Initiator.new as initiator_new
use Rattle.initiator.proofs.state.Initiator.new.Reads as initiator_new_reads
use Rattle.initiator.specs.contracts.state.Initiator.restart as initiator_restart
use Rattle.initiator.proofs.state.Initiator.restart.Reads as initiator_restart_reads
use Rattle.initiator.specs.contracts.state.Initiator.silence as silence
use Rattle.initiator.proofs.state.Initiator.silence.Reads as silence_reads
use Rattle.initiator.specs.contracts.state.Initiator.submit as submit
use Rattle.initiator.proofs.state.Initiator.submit.Reads as submit_reads
use Rattle.initiator.specs.contracts.state.Initiator.with_default_tries as with_default_tries
use Rattle.initiator.proofs.state.Initiator.with_default_tries.Reads as with_default_tries_reads
use Rattle.initiator.specs.Calls as initiator
use Rattle.initiator.specs.Heads.{head_after}
use Rattle.initiator.specs.Records.{made_of as initiator_made}
use Rattle.link_rules.specs.Rules.{link_of}
use Rattle.link_telegrams.specs.Turns as turns
use Rattle.listing.specs.contracts.whole.list as list
use Rattle.listing.proofs.whole.list.Reads as list_reads
use Rattle.listing.specs.contracts.whole.list_in as list_in
use Rattle.listing.proofs.whole.list_in.Reads as list_in_reads
use Rattle.listing.specs.contracts.whole.output as output
use Rattle.listing.proofs.whole.output.Reads as output_reads
use Rattle.listing.specs.contracts.whole.output_in as output_in
use Rattle.listing.proofs.whole.output_in.Reads as output_in_reads
use Rattle.listing.specs.Answers as listing
use Rattle.listing.specs.Listing as listing_rules
use Rattle.responder.specs.contracts.head.ResponderHead.answer as responder_head_answer
use Rattle.responder.proofs.head.ResponderHead.answer.Reads as responder_head_answer_reads
use Rattle.responder.specs.contracts.head.ResponderHead.hear as responder_head_hear
use Rattle.responder.proofs.head.ResponderHead.hear.Reads as responder_head_hear_reads
use Rattle.responder.specs.contracts.state.Responder.answer as responder_answer
use Rattle.responder.proofs.state.Responder.answer.Reads as responder_answer_reads
use Rattle.responder.specs.contracts.state.Responder.hear as responder_hear
use Rattle.responder.proofs.state.Responder.hear.Reads as responder_hear_reads
use Rattle.responder.specs.contracts.state.Responder.new as responder_new
use Rattle.responder.proofs.state.Responder.new.Reads as responder_new_reads
use Rattle.responder.specs.Calls as responder
use Rattle.responder.specs.Records.{made_of as responder_made}
use Rattle.responder_row.specs.contracts.head.RowHead.answer as row_answer
use Rattle.responder_row.proofs.head.RowHead.answer.Reads as row_answer_reads
use Rattle.ring_driver.specs.contracts.remove_station as lent_remove_station
use Rattle.ring_driver.specs.contracts.set_next_station as lent_set_next_station
use Rattle.settings.specs.contracts.settings.read_settings as read_settings
use Rattle.settings.proofs.settings.read_settings.Reads as read_settings_reads
use Rattle.settings.specs.contracts.settings.write_settings as write_settings
use Rattle.settings.proofs.settings.write_settings.Reads as write_settings_reads
use Rattle.settings.specs.Reading as settingsReading
use Rattle.settings.specs.Text.{text_of}
use Rattle.settings.specs.Writing as settingsWriting
use Rattle.telegram.specs.contracts.frame.frame_of as frame_of
use Rattle.telegram.proofs.frame.frame_of.Reads as frame_of_reads
use Rattle.telegram.specs.contracts.kinds.Telegram.deserialize as deserialize
use Rattle.telegram.proofs.kinds.Telegram.deserialize.Reads as deserialize_reads
use Rattle.telegram.specs.Frames.{shown_frame, frame_refused}
use Rattle.telegram.specs.Reading as reading
use Rattle.telegram_bytes.specs.contracts.serialized.serialize as serialize
use Rattle.telegram_bytes.proofs.serialized.serialize.Reads as serialize_reads
use Rattle.telegram_bytes.specs.Serialized.{shown_serialized}
use Rattle.telegram_strict.specs.contracts.strict.deserialize_in as deserialize_in
use Rattle.telegram_strict.proofs.strict.deserialize_in.Reads as deserialize_in_reads
use Rattle.telegram_strict.specs.contracts.strict.deserialize_strict as deserialize_strict
use Rattle.telegram_strict.proofs.strict.deserialize_strict.Reads as deserialize_strict_reads
use Rattle.telegram_strict.specs.contracts.strict.strict_start as strict_start
use Rattle.telegram_strict.proofs.strict.strict_start.Reads as strict_start_reads
use Rattle.telegram_strict.specs.Strict.{shown_in, shown_start, strict_of}
use Rattle.telegram_tx.specs.contracts.tx.send_coded_telegram as send_coded_telegram
use Rattle.telegram_tx.proofs.tx.send_coded_telegram.Reads as send_coded_telegram_reads
use Rattle.telegram_tx.specs.contracts.tx.send_data_telegram as send_data_telegram
use Rattle.telegram_tx.proofs.tx.send_data_telegram.Reads as send_data_telegram_reads
use Rattle.telegram_tx.specs.contracts.tx.send_fdl_status_request as send_fdl_status_request
use Rattle.telegram_tx.proofs.tx.send_fdl_status_request.Reads as send_fdl_status_request_reads
use Rattle.telegram_tx.specs.contracts.tx.send_fdl_status_response as send_fdl_status_response
use Rattle.telegram_tx.proofs.tx.send_fdl_status_response.Reads as send_fdl_status_response_reads
use Rattle.telegram_tx.specs.contracts.tx.send_short_confirmation as send_short_confirmation
use Rattle.telegram_tx.proofs.tx.send_short_confirmation.Reads as send_short_confirmation_reads
use Rattle.telegram_tx.specs.contracts.tx.send_token_telegram as send_token_telegram
use Rattle.telegram_tx.proofs.tx.send_token_telegram.Reads as send_token_telegram_reads
use Rattle.telegram_tx.specs.Writing.{shown_writing, write_token_of, write_confirmation_of}
use Rattle.token_ring.specs.contracts.ring.TokenRing.new as new_ring
use Rattle.token_ring.proofs.ring.TokenRing.new.Reads as new_ring_reads
use Rattle.token_ring.specs.contracts.ring.TokenRing.remove_station as remove_station
use Rattle.token_ring.proofs.ring.TokenRing.remove_station.Reads as remove_station_reads
use Rattle.token_ring.specs.contracts.ring.TokenRing.set_next_station as set_next_station
use Rattle.token_ring.proofs.ring.TokenRing.set_next_station.Reads as set_next_station_reads
use Rattle.token_ring.specs.Promises.{Gives}
use Rattle.token_ring.specs.Rules.{next_set, removed, station_answer}

-- The two calls on a lent station list are proved by hand and have no `Learnt`: their promises, which `Says` shows to be their `ensures`.
abbrev lent_set_next : Promise lent_set_next_station.ended
lent_set_next κs a x e = Gives (station_answer a.1.0.0) (next_set a.1.0.0 a.0.now) (record { answer = x; after = e.0.now })

abbrev lent_remove : Promise lent_remove_station.ended
lent_remove κs a x e = Gives (station_answer a.1.0.0) (removed a.1.0.0 a.0.now) (record { answer = x; after = e.0.now })

pub record EveryRefusal : Type 2 where
  -- codes and telegrams
  pub cycle : RefusedStays cycle.ended cycle_reads.Learnt (λ κs x. IsRefused refused (shown_cycled x)) (λ κs e. e)
  pub deserialize :
      RefusedStays deserialize.ended deserialize_reads.Learnt (λ κs x. IsRefused reading.refused (reading.shown_reading x))
      (λ κs e. e)
  pub strict_start : RefusedStays strict_start.ended strict_start_reads.Learnt (λ κs x. IsNumber (shown_start x)) (λ κs e. e)
  pub deserialize_strict :
      RefusedStays deserialize_strict.ended deserialize_strict_reads.Learnt (λ κs x. IsRefused reading.refused (shown_in x))
      (λ κs e. e)
  pub deserialize_in :
      RefusedStays deserialize_in.ended deserialize_in_reads.Learnt (λ κs x. IsRefused reading.refused (shown_in x))
      (λ κs e. e)
  pub frame_of : RefusedStays frame_of.ended frame_of_reads.Learnt (λ κs x. IsRefused frame_refused (shown_frame x)) (λ κs e. e)
  pub serialize :
      RefusedStays serialize.ended serialize_reads.Learnt (λ κs x. IsRefused refused (shown_serialized x)) (λ κs e. e)
  pub send_data_telegram :
      RefusedStays send_data_telegram.ended send_data_telegram_reads.Learnt (λ κs x. IsRefused refused (shown_writing x))
      (λ κs e. e)
  pub send_coded_telegram :
      RefusedStays send_coded_telegram.ended send_coded_telegram_reads.Learnt (λ κs x. IsRefused refused (shown_writing x))
      (λ κs e. e)
  pub send_token_telegram :
      RefusedStays send_token_telegram.ended send_token_telegram_reads.Learnt (λ κs x. IsRefused refused (shown_writing x))
      (λ κs e. e)
  pub send_short_confirmation :
      RefusedStays send_short_confirmation.ended send_short_confirmation_reads.Learnt (λ κs x. IsRefused refused (shown_writing x))
      (λ κs e. e)
  pub send_fdl_status_request :
      RefusedStays send_fdl_status_request.ended send_fdl_status_request_reads.Learnt (λ κs x. IsRefused refused (shown_writing x))
      (λ κs e. e)
  pub send_fdl_status_response :
      RefusedStays send_fdl_status_response.ended send_fdl_status_response_reads.Learnt (λ κs x. IsRefused refused (shown_writing x))
      (λ κs e. e)
  -- the station list: made, by value, lent
  pub new_ring : RefusedStays new_ring.ended new_ring_reads.Learnt (λ κs x. IsNumber (shown x.answer)) (λ κs e. e)
  pub set_next_station :
      RefusedKeeps set_next_station.ended set_next_station_reads.Learnt (λ κs x. IsNumber (shown x.answer))
      (λ κs e. e) (λ κs a x. x.after) (λ κs a. a.0)
  pub remove_station :
      RefusedKeeps remove_station.ended remove_station_reads.Learnt (λ κs x. IsNumber (shown x.answer))
      (λ κs e. e) (λ κs a x. x.after) (λ κs a. a.0)
  pub lent_set_next_says : Says lent_set_next_station.ended (λ M 𝓤 𝓛. lent_set_next_station.clauses 𝓛) lent_set_next
  pub lent_set_next_station : RefusedStays lent_set_next_station.ended lent_set_next (λ κs x. IsNumber (shown x)) (λ κs e. e)
  pub lent_remove_says : Says lent_remove_station.ended (λ M 𝓤 𝓛. lent_remove_station.clauses 𝓛) lent_remove
  pub lent_remove_station : RefusedStays lent_remove_station.ended lent_remove (λ κs x. IsNumber (shown x)) (λ κs e. e)
  -- diagnostics: filling answers false; a refused step moves the cursor to the end of what is walked
  pub fill : RefusedKeeps fill.ended fill_reads.Learnt (λ κs x. x.answer ≡ false) (λ κs e. e) (λ κs a x. x.after) (λ κs a. a.0)
  pub next :
      RefusedLeaves next.ended next_reads.Learnt (λ κs x. IsRefused walk.refused (shown_found x.answer))
      (λ κs e. e) (λ κs a. a)
      (λ κs a x. x.after.cursor) (λ κs a. length (walked_of a.1.0.length a.1.1.0.now))
  -- texts
  pub read_settings :
      RefusedStays read_settings.ended read_settings_reads.Learnt (λ κs x. IsRefused settingsReading.refused (settingsReading.shown_read x))
      (λ κs e. e)
  pub write_settings :
      RefusedStays write_settings.ended write_settings_reads.Learnt (λ κs x. IsRefused settingsWriting.refused (settingsWriting.shown_written x))
      (λ κs e. e)
  pub list : RefusedStays list.ended list_reads.Learnt (λ κs x. IsRefused refused (listing.shown_listed x)) (λ κs e. e)
  pub list_in : RefusedStays list_in.ended list_in_reads.Learnt (λ κs x. IsRefused refused (listing.shown_listed x)) (λ κs e. e)
  pub output_in : RefusedStays output_in.ended output_in_reads.Learnt (λ κs x. IsRefused refused (listing.shown_listed x)) (λ κs e. e)
  pub output : RefusedStays output.ended output_reads.Learnt (λ κs x. IsRefused refused (listing.shown_listed x)) (λ κs e. e)
  -- the initiator: made, by value, on a head and a lent order
  pub initiator_new : RefusedStays initiator_new.ended initiator_new_reads.Learnt (λ κs x. IsNumber (shown x.answer)) (λ κs e. e)
  pub with_default_tries :
      RefusedStays with_default_tries.ended with_default_tries_reads.Learnt (λ κs x. IsNumber (shown x.answer))
      (λ κs e. e)
  pub submit :
      RefusedKeeps submit.ended submit_reads.Learnt (λ κs x. IsRefused turns.refused (initiator.shown_said x.answer))
      (λ κs e. e) (λ κs a x. x.after) (λ κs a. a.0)
  pub silence :
      RefusedKeeps silence.ended silence_reads.Learnt (λ κs x. IsRefused turns.refused (initiator.shown_said x.answer))
      (λ κs e. e) (λ κs a x. x.after) (λ κs a. a.0)
  pub initiator_hear :
      RefusedKeeps initiator_hear.ended initiator_hear_reads.Learnt (λ κs x. IsRefused turns.refused (initiator.shown_said x.answer))
      (λ κs e. e) (λ κs a x. x.after) (λ κs a. a.0)
  pub initiator_restart :
      RefusedKeeps initiator_restart.ended initiator_restart_reads.Learnt (λ κs x. IsRefused turns.refused (initiator.shown_said x.answer))
      (λ κs e. e) (λ κs a x. x.after) (λ κs a. a.0)
  pub head_submit :
      RefusedKeeps head_submit.ended head_submit_reads.Learnt (λ κs x. IsRefused turns.refused (initiator.shown_said x.answer))
      (λ κs e. e) (λ κs a x. head_after x a.0) (λ κs a. a.0)
  pub head_silence :
      RefusedKeeps head_silence.ended head_silence_reads.Learnt (λ κs x. IsRefused turns.refused (initiator.shown_said x.answer))
      (λ κs e. e) (λ κs a x. head_after x a.0) (λ κs a. a.0)
  pub head_hear :
      RefusedKeeps head_hear.ended head_hear_reads.Learnt (λ κs x. IsRefused turns.refused (initiator.shown_said x.answer))
      (λ κs e. e) (λ κs a x. head_after x a.0) (λ κs a. a.0)
  pub head_restart :
      RefusedKeeps head_restart.ended head_restart_reads.Learnt (λ κs x. IsRefused turns.refused (initiator.shown_said x.answer))
      (λ κs e. e) (λ κs a x. head_after x a.0) (λ κs a. a.0)
  -- the responder: its row, made, by value, on a head and a lent reply
  pub row_answer :
      RefusedKeeps row_answer.ended row_answer_reads.Learnt (λ κs x. IsNumber (shown x.answer))
      (λ κs e. e) (λ κs a x. x.after) (λ κs a. a.0)
  pub responder_new : RefusedStays responder_new.ended responder_new_reads.Learnt (λ κs x. IsNumber (shown x.answer)) (λ κs e. e)
  pub responder_hear :
      RefusedKeeps responder_hear.ended responder_hear_reads.Learnt (λ κs x. IsRefused turns.refused (responder.shown_said x.answer))
      (λ κs e. e) (λ κs a x. x.after) (λ κs a. a.0)
  pub responder_answer :
      RefusedKeeps responder_answer.ended responder_answer_reads.Learnt (λ κs x. IsRefused turns.refused (responder.shown_said x.answer))
      (λ κs e. e) (λ κs a x. x.after) (λ κs a. a.0)
  pub responder_head_hear :
      RefusedKeeps responder_head_hear.ended responder_head_hear_reads.Learnt (λ κs x. IsRefused turns.refused (responder.shown_said x.answer))
      (λ κs e. e) (λ κs a x. x.after) (λ κs a. a.0)
  pub responder_head_answer :
      RefusedKeeps responder_head_answer.ended responder_head_answer_reads.Learnt (λ κs x. IsRefused turns.refused (responder.shown_said x.answer))
      (λ κs e. e) (λ κs a x. x.after) (λ κs a. a.0)
  -- the static libraries, whose codes are the numbers
  pub koy_read : RefusedStays koy_read.ended koy_read_reads.Learnt (λ κs x. IsNumber x) (λ κs e. e)
  pub koy_read_strict : RefusedStays koy_read_strict.ended koy_read_strict_reads.Learnt (λ κs x. IsNumber x) (λ κs e. e)
  pub koy_write_data : RefusedStays koy_write_data.ended koy_write_data_reads.Learnt (λ κs x. IsNumber x) (λ κs e. e)
  pub koy_write_token : RefusedStays koy_write_token.ended koy_write_token_reads.Learnt (λ κs x. IsNumber x) (λ κs e. e)
  pub koy_write_confirmation : RefusedStays koy_write_confirmation.ended koy_write_confirmation_reads.Learnt (λ κs x. IsNumber x) (λ κs e. e)
  pub koy_stations_new : RefusedStays koy_stations_new.ended koy_stations_new_reads.Learnt (λ κs x. IsNumber x) (λ κs e. e)
  pub koy_stations_set_next : RefusedStays koy_stations_set_next.ended koy_stations_set_next_reads.Learnt (λ κs x. IsNumber x) (λ κs e. e)
  pub koy_stations_remove : RefusedStays koy_stations_remove.ended koy_stations_remove_reads.Learnt (λ κs x. IsNumber x) (λ κs e. e)
  pub koy_diagnostics_step :
      RefusedLeaves {R = Unit {0}} koy_diagnostics_step.ended koy_diagnostics_step_reads.Learnt (λ κs x. IsNumber x)
      (λ κs e. e) (λ κs a. (a.0, (a.1.0, (at_last a.1.1.0 (length (walked_of a.1.0 a.0.now) ∷ []), a.1.1.1))))
      (λ κs a x. tt) (λ κs a. tt)
  pub koy_diagnostics_fill :
      RefusedStays koy_diagnostics_fill.ended
      (sized koy_diagnostics_fill.ended (λ κs a. length a.1.0.now ≡ 1) koy_diagnostics_fill_reads.Learnt)
      (λ κs x. x ≡ false) (λ κs e. e)
  pub koy_settings_read : RefusedStays koy_settings_read.ended koy_settings_read_reads.Learnt (λ κs x. IsNumber x) (λ κs e. e)
  pub koy_settings_write : RefusedStays koy_settings_write.ended koy_settings_write_reads.Learnt (λ κs x. IsNumber x) (λ κs e. e)
  pub koy_initiator_new : RefusedStays koy_initiator_new.ended koy_initiator_new_reads.Learnt (λ κs x. IsNumber x) (λ κs e. e)
  pub koy_initiator_submit : RefusedStays koy_initiator_submit.ended koy_initiator_submit_reads.Learnt (λ κs x. IsNumber x) (λ κs e. e)
  pub koy_initiator_silence : RefusedStays koy_initiator_silence.ended koy_initiator_silence_reads.Learnt (λ κs x. IsNumber x) (λ κs e. e)
  pub koy_initiator_hear : RefusedStays koy_initiator_hear.ended koy_initiator_hear_reads.Learnt (λ κs x. IsNumber x) (λ κs e. e)
  pub koy_initiator_restart : RefusedStays koy_initiator_restart.ended koy_initiator_restart_reads.Learnt (λ κs x. IsNumber x) (λ κs e. e)
  pub koy_responder_new : RefusedStays koy_responder_new.ended koy_responder_new_reads.Learnt (λ κs x. IsNumber x) (λ κs e. e)
  pub koy_responder_hear : RefusedStays koy_responder_hear.ended koy_responder_hear_reads.Learnt (λ κs x. IsNumber x) (λ κs e. e)
  pub koy_responder_answer : RefusedStays koy_responder_answer.ended koy_responder_answer_reads.Learnt (λ κs x. IsNumber x) (λ κs e. e)
  -- with guards
  pub koy_guarded_initiator_new :
      RefusedStays koy_guarded_initiator_new.ended koy_guarded_initiator_new_reads.Learnt (λ κs x. IsNumber x)
      (λ κs e. e)
  pub koy_guarded_initiator_submit :
      RefusedStays koy_guarded_initiator_submit.ended
      (sized koy_guarded_initiator_submit.ended (λ κs a. length a.1.0.now ≡ 1) koy_guarded_initiator_submit_reads.Learnt)
      (λ κs x. IsNumber x) (λ κs e. e)
  pub koy_guarded_initiator_silence :
      RefusedStays koy_guarded_initiator_silence.ended
      (sized koy_guarded_initiator_silence.ended (λ κs a. length a.1.0.now ≡ 1) koy_guarded_initiator_silence_reads.Learnt)
      (λ κs x. IsNumber x) (λ κs e. e)
  pub koy_guarded_initiator_hear :
      RefusedStays koy_guarded_initiator_hear.ended
      (sized koy_guarded_initiator_hear.ended (λ κs a. length a.1.0.now ≡ 1) koy_guarded_initiator_hear_reads.Learnt)
      (λ κs x. IsNumber x) (λ κs e. e)
  pub koy_guarded_responder_new :
      RefusedStays koy_guarded_responder_new.ended koy_guarded_responder_new_reads.Learnt (λ κs x. IsNumber x)
      (λ κs e. e)
  pub koy_guarded_responder_hear :
      RefusedStays koy_guarded_responder_hear.ended
      (sized koy_guarded_responder_hear.ended (λ κs a. length a.1.0.now ≡ 2) koy_guarded_responder_hear_reads.Learnt)
      (λ κs x. IsNumber x) (λ κs e. e)
  pub koy_guarded_responder_answer :
      RefusedStays koy_guarded_responder_answer.ended
      (sized koy_guarded_responder_answer.ended (λ κs a. length a.1.0.now ≡ 2) koy_guarded_responder_answer_reads.Learnt)
      (λ κs x. IsNumber x) (λ κs e. e)

pub refused_stays_lem : EveryRefusal
refused_stays_lem =
    record {
      cycle = record { leaves = λ κs a m r. (refl, refl) };
      deserialize = record { leaves = λ κs a m r. (refl, refl) };
      strict_start = record { leaves = λ κs a m r. (refl, refl) };
      deserialize_strict = record { leaves = λ κs a m r. (refl, refl) };
      deserialize_in = record { leaves = λ κs a m r. (refl, refl) };
      frame_of = record { leaves = λ κs a m r. (refl, refl) };
      serialize =
          record {
            leaves = λ κs a m r.
                let p = front_stays _ _ m.meets.0 m.meets.1 r in
                (λ i. (a.0, (a.1.0, (at_last a.1.1.0 (p i), tt))), refl);
          };
      send_data_telegram =
          record {
            leaves = λ κs a m r.
                let p = written_stays _ _ m.meets.0 m.meets.1 r in
                (λ i. (a.0, (a.1.0, (at_last a.1.1.0 (p i), tt))), refl);
          };
      send_coded_telegram =
          record {
            leaves = λ κs a m r.
                let p = coded_stays (function_code_of a.0.code) a.0 a.1.0.now a.1.1.0.now m.meets.0 m.meets.1 r in
                (λ i. (a.0, (a.1.0, (at_last a.1.1.0 (p i), tt))), refl);
          };
      send_token_telegram =
          record {
            leaves = λ κs a m r.
                let p = written_stays _ _ m.meets.0 m.meets.1 r in
                (λ i. (a.0, (a.1.0, (at_last a.1.1.0 (p i), tt))), refl);
          };
      send_short_confirmation =
          record {
            leaves = λ κs a m r.
                let p = written_stays _ _ m.meets.0 m.meets.1 r in
                (λ i. (at_last a.0 (p i), tt), refl);
          };
      send_fdl_status_request =
          record {
            leaves = λ κs a m r.
                let p = written_stays _ _ m.meets.0 m.meets.1 r in
                (λ i. (a.0, (a.1.0, (at_last a.1.1.0 (p i), tt))), refl);
          };
      send_fdl_status_response =
          record {
            leaves = λ κs a m r.
                let p = written_stays _ _ m.meets.0 m.meets.1 r in
                (λ i. (a.0, (a.1.0, (a.1.1.0, (a.1.1.1.0, (at_last a.1.1.1.1.0 (p i), tt))))), refl);
          };
      new_ring = record { leaves = λ κs a m r. (refl, refl) };
      set_next_station =
          record {
            leaves = λ κs a m r. (refl, m.meets.ring ∙ next_set_stays a.1.0.0 a.0 (station_refused a.1.0.0 m.meets.answer r));
          };
      remove_station =
          record {
            leaves = λ κs a m r. (refl, m.meets.ring ∙ removed_stays a.1.0.0 a.0 (station_refused a.1.0.0 m.meets.answer r));
          };
      lent_set_next_says = record { says = λ M 𝓤 𝓛 mem run κs a g x e. refl };
      lent_set_next_station =
          record {
            leaves = λ κs a m r.
                let p = m.meets.ring ∙ next_set_stays a.1.0.0 a.0.now (station_refused a.1.0.0 m.meets.answer r) in
                (λ i. (at_last a.0 (p i), (a.1.0, tt)), refl);
          };
      lent_remove_says = record { says = λ M 𝓤 𝓛 mem run κs a g x e. refl };
      lent_remove_station =
          record {
            leaves = λ κs a m r.
                let p = m.meets.ring ∙ removed_stays a.1.0.0 a.0.now (station_refused a.1.0.0 m.meets.answer r) in
                (λ i. (at_last a.0 (p i), (a.1.0, tt)), refl);
          };
      fill =
          record {
            leaves = λ κs a m r.
                let s = (carried (FillStays _ _) m.meets (fill_stays _ _ _)).same r in
                (λ i. (a.0, (at_last a.1.0 (s.1 i), (a.1.1.0, tt))), λ i. record { length = s.0 i });
          };
      next =
          record {
            leaves = λ κs a m r. (refl, walk_moves _ _ m.meets r);
          };
      read_settings = record { leaves = λ κs a m r. (refl, refl) };
      write_settings =
          record {
            leaves = λ κs a m r.
                let p = settings_stay (text_of a.0.own.0 a.0.peer.0 a.0.tries) _ m.meets.result m.meets.buffer r in
                (λ i. (a.0, (at_last a.1.0 (p i), tt)), refl);
          };
      list =
          record {
            leaves = λ κs a m r.
                let p = listing_stays (listing_rules.listing_of a.0.now) _ m.meets.result m.meets.buffer r in
                (λ i. (a.0, (at_last a.1.0 (p i), tt)), refl);
          };
      output =
          record {
            leaves = λ κs a m r.
                let p = listing_stays (listing_rules.output_of a.0.now) _ m.meets.result m.meets.buffer r in
                (λ i. (a.0, (at_last a.1.0 (p i), tt)), refl);
          };
      list_in =
          record {
            leaves = λ κs a m r.
                let p = listing_stays (listing_rules.listing_in a.0 a.1.0.now) _ m.meets.result m.meets.buffer r in
                (λ i. (a.0, (a.1.0, (at_last a.1.1.0 (p i), tt))), refl);
          };
      output_in =
          record {
            leaves = λ κs a m r.
                let p = listing_stays (listing_rules.output_in a.0 a.1.0.now) _ m.meets.result m.meets.buffer r in
                (λ i. (a.0, (a.1.0, (at_last a.1.1.0 (p i), tt))), refl);
          };
      initiator_new = record { leaves = λ κs a m r. (refl, refl) };
      with_default_tries = record { leaves = λ κs a m r. (refl, refl) };
      submit =
          record {
            leaves = λ κs a m r.
                let s = (carried (Unmoved _ _) m.meets (submit_unmoved _ _ _)).same r.number r.is in
                (λ i. (a.0, (a.1.0, (at_last a.1.1.0 (s.1 i), tt))), s.0);
          };
      silence =
          record {
            leaves = λ κs a m r.
                let s = (carried (Unmoved _ _) m.meets (silence_unmoved _ _)).same r.number r.is in
                (λ i. (a.0, (at_last a.1.0 (s.1 i), tt)), s.0);
          };
      initiator_hear =
          record {
            leaves = λ κs a m r.
                let s = (carried (Unmoved _ _) m.meets (hear_unmoved _ _ _)).same r.number r.is in
                (λ i. (a.0, (a.1.0, (at_last a.1.1.0 (s.1 i), tt))), s.0);
          };
      initiator_restart =
          record {
            leaves = λ κs a m r.
                let s = (carried (Unmoved _ _) m.meets (restart_unmoved _)).same r.number r.is in
                (refl, s.0);
          };
      head_submit =
          record {
            leaves = λ κs a m r.
                let s = (carried (Unmoved _ _) m.meets (submit_on_lem a.0 a.1.0.now a.1.1.1.0.now a.1.1.0.now)).same r.number r.is in (
                  λ i. (a.0, (at_last a.1.0 (s.0 i).order, (a.1.1.0, (at_last a.1.1.1.0 (s.1 i), tt)))),
                  λ i. record { link = a.0.link; tries = a.0.tries; phase = (s.0 i).phase; len = (s.0 i).len },
                );
          };
      head_silence =
          record {
            leaves = λ κs a m r.
                let s = (carried (Unmoved _ _) m.meets (silence_on_lem a.0 a.1.0.now a.1.1.0.now)).same r.number r.is in (
                  λ i. (a.0, (a.1.0, (at_last a.1.1.0 (s.1 i), tt))),
                  λ i. record { link = a.0.link; tries = a.0.tries; phase = (s.0 i).phase; len = (s.0 i).len },
                );
          };
      head_hear =
          record {
            leaves = λ κs a m r.
                let s = (carried (Unmoved _ _) m.meets (hear_on_lem a.0 a.1.0.now a.1.1.1.0.now a.1.1.0.now)).same r.number r.is in (
                  λ i. (a.0, (a.1.0, (a.1.1.0, (at_last a.1.1.1.0 (s.1 i), tt)))),
                  λ i. record { link = a.0.link; tries = a.0.tries; phase = (s.0 i).phase; len = (s.0 i).len },
                );
          };
      head_restart =
          record {
            leaves = λ κs a m r.
                let s = (carried (Unmoved _ _) (m.meets []) (restart_unmoved _)).same r.number r.is in
                (refl, λ i. record { link = a.0.link; tries = a.0.tries; phase = (s.0 i).phase; len = (s.0 i).len });
          };
      row_answer =
          record {
            leaves = λ κs a m r.
                let s = m.meets [] (replicate {A = ℕ} a.1.0 0) (length-replicate _ _) in
                (refl, row_kept m.result a.0 _ s.0 s.1 r);
          };
      responder_new = record { leaves = λ κs a m r. (refl, refl) };
      responder_hear =
          record {
            leaves = λ κs a m r.
                let s = (carried (Unmoved _ _) m.meets (responder_hear_unmoved _ _ _)).same r.number r.is in
                (λ i. (a.0, (a.1.0, (at_last a.1.1.0 (s.1 i), tt))), s.0);
          };
      responder_answer =
          record {
            leaves = λ κs a m r.
                let s = (carried (Unmoved _ _) m.meets (answer_unmoved _ _ _)).same r.number r.is in
                (λ i. (a.0, (a.1.0, (at_last a.1.1.0 (s.1 i), tt))), s.0);
          };
      responder_head_hear =
          record {
            leaves = λ κs a m r.
                let s = (carried (Unmoved _ _) m.meets (responder_hear_on a.0 a.1.0.now a.1.1.1.0.now a.1.1.0.now)).same r.number r.is in (
                  λ i. (a.0, (a.1.0, (a.1.1.0, (at_last a.1.1.1.0 (s.1 i), tt)))),
                  λ i. record { link = (s.0 i).link; row = record { state = (s.0 i).row.state; len = (s.0 i).row.len } },
                );
          };
      responder_head_answer =
          record {
            leaves = λ κs a m r.
                let s = (carried (Unmoved _ _) m.meets (answer_on_lem a.0 a.1.0.now a.1.1.1.0.now a.1.1.0.now)).same r.number r.is in (
                  λ i. (a.0, (at_last a.1.0 (s.0 i).row.held, (a.1.1.0, (at_last a.1.1.1.0 (s.1 i), tt)))),
                  λ i. record { link = (s.0 i).link; row = record { state = (s.0 i).row.state; len = (s.0 i).row.len } },
                );
          };
      koy_read =
          record {
            leaves = λ κs a m r.
                let s = carried (λ (c : ReadCall). IsNumber c.code → c.told ≡ a.1.0.now) m.meets (read_told (reading.read_of a.0.now) a.1.0.now) r in
                (λ i. (a.0, (at_last a.1.0 (s i), tt)), refl);
          };
      koy_read_strict =
          record {
            leaves = λ κs a m r.
                let s = carried (λ (c : ReadCall). IsNumber c.code → c.told ≡ a.1.0.now) m.meets (read_told (strict_of a.0.now) a.1.0.now) r in
                (λ i. (a.0, (at_last a.1.0 (s i), tt)), refl);
          };
      koy_write_data =
          record {
            leaves = λ κs a m r.
                let s = (carried (WriteStays _ _) m.meets (write_data_stays _ _ _ _ _ _ _ _)).same r in
                (λ i. (a.0, (a.1.0, (a.1.1.0, (a.1.1.1.0, (a.1.1.1.1.0, (a.1.1.1.1.1.0, (at_last a.1.1.1.1.1.1.0 (s.1 i), (at_last a.1.1.1.1.1.1.1.0 (s.0 i), tt)))))))), refl);
          };
      koy_write_token =
          record {
            leaves = λ κs a m r.
                let s = carried (λ (c : BareCall). IsNumber c.code → c.buffer ≡ a.1.1.0.now) m.meets (bare_stays (write_token_of (record { 0 = a.0 }) (record { 0 = a.1.0 }) (length a.1.1.0.now)) _ a.1.1.0.now) r in
                (λ i. (a.0, (a.1.0, (at_last a.1.1.0 (s i), tt))), refl);
          };
      koy_write_confirmation =
          record {
            leaves = λ κs a m r.
                let s = carried (λ (c : BareCall). IsNumber c.code → c.buffer ≡ a.0.now) m.meets (bare_stays (write_confirmation_of (length a.0.now)) _ a.0.now) r in
                (λ i. (at_last a.0 (s i), tt), refl);
          };
      koy_stations_new =
          record {
            leaves = λ κs a m r.
                let s = carried (λ (c : stations.Call). IsNumber c.code → c.state ≡ a.0.now) m.meets (stations_stay _ _ _) r in
                (λ i. (at_last a.0 (s i), (a.1.0, tt)), refl);
          };
      koy_stations_set_next =
          record {
            leaves = λ κs a m r.
                let s = carried (λ (c : stations.Call). IsNumber c.code → c.state ≡ a.0.now) m.meets (stations_stay _ _ _) r in
                (λ i. (at_last a.0 (s i), (a.1.0, tt)), refl);
          };
      koy_stations_remove =
          record {
            leaves = λ κs a m r.
                let s = carried (λ (c : stations.Call). IsNumber c.code → c.state ≡ a.0.now) m.meets (stations_stay _ _ _) r in
                (λ i. (at_last a.0 (s i), (a.1.0, tt)), refl);
          };
      koy_diagnostics_step =
          record {
            leaves = λ κs a m r.
                let s = (carried (StepMoves _ _) m.meets (step_moves _ _ _)).same r in
                (λ i. (a.0, (a.1.0, (at_last a.1.1.0 (s.0 i), (at_last a.1.1.1.0 (s.1 i), tt)))), refl);
          };
      koy_diagnostics_fill =
          record {
            leaves = λ κs a m r.
                let s = (carried (FillCallStays _ _) m.meets.1 (fill_call_stays _ _ _ m.meets.0)).same r in
                (λ i. (at_last a.0 (s.1 i), (at_last a.1.0 (s.0 i), (a.1.1.0, tt))), refl);
          };
      koy_settings_read =
          record {
            leaves = λ κs a m r.
                let s = carried (λ (c : settings.ReadCall). IsNumber c.code → c.told ≡ a.1.0.now) m.meets (settings_told (settingsReading.read_of a.0.now) a.1.0.now) r in
                (λ i. (a.0, (at_last a.1.0 (s i), tt)), refl);
          };
      koy_settings_write =
          record {
            leaves = λ κs a m r.
                let s = (carried (SettingsStay _ _) m.meets (settings_write_stays (settingsWriting.write_of a.0 a.1.0 a.1.1.0 (length a.1.1.1.0.now)) a.1.1.1.1.0.now (text_of a.0 a.1.0 a.1.1.0) a.1.1.1.0.now)).same r in
                (λ i. (a.0, (a.1.0, (a.1.1.0, (at_last a.1.1.1.0 (s.1 i), (at_last a.1.1.1.1.0 (s.0 i), tt))))), refl);
          };
      koy_initiator_new =
          record {
            leaves = λ κs a m r.
                let s = carried (λ (c : NewCall). IsNumber c.code → c.state ≡ a.0.now) m.meets (new_stays initiator_crosses (initiator_made (link_of a.1.0 a.1.1.0) a.1.1.1.0) a.0.now) r in
                (λ i. (at_last a.0 (s i), a.1), refl);
          };
      koy_initiator_submit =
          record {
            leaves = λ κs a m r.
                let s = (carried (Uncrossed _ _ _) m.meets (koy_submit _ _ _ _)).same r in
                (λ i. (at_last a.0 (s.0 i), (a.1.0, (at_last a.1.1.0 (s.1.1 i), (at_last a.1.1.1.0 (s.1.0 i), tt)))), refl);
          };
      koy_initiator_silence =
          record {
            leaves = λ κs a m r.
                let s = (carried (Uncrossed _ _ _) m.meets (koy_silence _ _ _)).same r in
                (λ i. (at_last a.0 (s.0 i), (at_last a.1.0 (s.1.1 i), (at_last a.1.1.0 (s.1.0 i), tt))), refl);
          };
      koy_initiator_hear =
          record {
            leaves = λ κs a m r.
                let s = (carried (Uncrossed _ _ _) m.meets (koy_initiator_hear_lem _ _ _ _)).same r in
                (λ i. (at_last a.0 (s.0 i), (a.1.0, (at_last a.1.1.0 (s.1.1 i), (at_last a.1.1.1.0 (s.1.0 i), tt)))), refl);
          };
      koy_initiator_restart =
          record {
            leaves = λ κs a m r.
                let s = (carried (Uncrossed _ _ _) m.meets (koy_restart _ _)).same r in
                (λ i. (at_last a.0 (s.0 i), (at_last a.1.0 (s.1.0 i), tt)), refl);
          };
      koy_responder_new =
          record {
            leaves = λ κs a m r.
                let s = carried (λ (c : NewCall). IsNumber c.code → c.state ≡ a.0.now) m.meets (new_stays responder_crosses (responder_made (link_of a.1.0 a.1.1.0)) a.0.now) r in
                (λ i. (at_last a.0 (s i), a.1), refl);
          };
      koy_responder_hear =
          record {
            leaves = λ κs a m r.
                let s = (carried (Uncrossed _ _ _) m.meets (koy_responder_hear_lem _ _ _ _)).same r in
                (λ i. (at_last a.0 (s.0 i), (a.1.0, (at_last a.1.1.0 (s.1.1 i), (at_last a.1.1.1.0 (s.1.0 i), tt)))), refl);
          };
      koy_responder_answer =
          record {
            leaves = λ κs a m r.
                let s = (carried (Uncrossed _ _ _) m.meets (koy_answer _ _ _ _)).same r in
                (λ i. (at_last a.0 (s.0 i), (a.1.0, (at_last a.1.1.0 (s.1.1 i), (at_last a.1.1.1.0 (s.1.0 i), tt)))), refl);
          };
      koy_guarded_initiator_new =
          record {
            leaves = λ κs a m r.
                let s = carried (λ (c : GuardedNew). IsNumber c.code → (c.state ≡ a.0.now) × (c.guard ≡ a.1.0.now)) m.meets (guarded_new_stays initiator_crosses (initiator_made (link_of a.1.1.0 a.1.1.1.0) a.1.1.1.1.0) a.0.now a.1.0.now _) r in
                (λ i. (at_last a.0 (s.0 i), (at_last a.1.0 (s.1 i), a.1.1)), refl);
          };
      koy_guarded_initiator_submit =
          record {
            leaves = λ κs a m r.
                let s = (carried (Unguarded _ _ _ _) m.meets.1 (stamped_stays _ _ _ _ _ _ m.meets.0 (koy_submit _ _ _ _))).same r in
                (λ i. (at_last a.0 (s.0 i), (at_last a.1.0 (s.1.0 i), (a.1.1.0, (a.1.1.1.0, (at_last a.1.1.1.1.0 (s.1.1.1 i), (at_last a.1.1.1.1.1.0 (s.1.1.0 i), tt)))))), refl);
          };
      koy_guarded_initiator_silence =
          record {
            leaves = λ κs a m r.
                let s = (carried (Unguarded _ _ _ _) m.meets.1 (stamped_stays _ _ _ _ _ _ m.meets.0 (koy_silence _ _ _))).same r in
                (λ i. (at_last a.0 (s.0 i), (at_last a.1.0 (s.1.0 i), (a.1.1.0, (at_last a.1.1.1.0 (s.1.1.1 i), (at_last a.1.1.1.1.0 (s.1.1.0 i), tt))))), refl);
          };
      koy_guarded_initiator_hear =
          record {
            leaves = λ κs a m r.
                let s = (carried (Unguarded _ _ _ _) m.meets.1 (ignored_stays (is_stale a.1.0.now a.1.1.0) _ _ _ _ _ (stamped_stays _ _ _ _ _ _ m.meets.0 (koy_initiator_hear_lem _ _ _ _)))).same r in
                (λ i. (at_last a.0 (s.0 i), (at_last a.1.0 (s.1.0 i), (a.1.1.0, (a.1.1.1.0, (a.1.1.1.1.0, (at_last a.1.1.1.1.1.0 (s.1.1.1 i), (at_last a.1.1.1.1.1.1.0 (s.1.1.0 i), tt))))))), refl);
          };
      koy_guarded_responder_new =
          record {
            leaves = λ κs a m r.
                let s = carried (λ (c : GuardedNew). IsNumber c.code → (c.state ≡ a.0.now) × (c.guard ≡ a.1.0.now)) m.meets (guarded_new_stays responder_crosses (responder_made (link_of a.1.1.0 a.1.1.1.0)) a.0.now a.1.0.now _) r in
                (λ i. (at_last a.0 (s.0 i), (at_last a.1.0 (s.1 i), a.1.1)), refl);
          };
      koy_guarded_responder_hear =
          record {
            leaves = λ κs a m r.
                let s = (carried (Unguarded _ _ _ _) m.meets.1 (ignored_stays (is_stale a.1.0.now a.1.1.0) _ _ _ _ _ (numbered_stays _ _ _ _ _ _ m.meets.0 (koy_responder_hear_lem _ _ _ _)))).same r in
                (λ i. (at_last a.0 (s.0 i), (at_last a.1.0 (s.1.0 i), (a.1.1.0, (a.1.1.1.0, (a.1.1.1.1.0, (at_last a.1.1.1.1.1.0 (s.1.1.1 i), (at_last a.1.1.1.1.1.1.0 (s.1.1.0 i), tt))))))), refl);
          };
      koy_guarded_responder_answer =
          record {
            leaves = λ κs a m r.
                let s = (carried (Unguarded _ _ _ _) m.meets.1 (other_stays (eqb a.1.1.0 (handed_of a.1.0.now)) _ _ _ _ _ (numbered_stays _ _ _ _ _ _ m.meets.0 (koy_answer _ _ _ _)))).same r in
                (λ i. (at_last a.0 (s.0 i), (at_last a.1.0 (s.1.0 i), (a.1.1.0, (a.1.1.1.0, (a.1.1.1.1.0, (at_last a.1.1.1.1.1.0 (s.1.1.1 i), (at_last a.1.1.1.1.1.1.0 (s.1.1.0 i), tt))))))), refl);
          };
    }
