-- A responder's day, computed on the definitions: station 5 hears station 2. The order is document 01's sample, at Low with PDU 01 03.
use Prim.Native.Nat.{ℕ}
use mathlib.Core.List.{List, [], ◌∷◌}
use mathlib.Core.Path.{◌≡◌, refl}
use lib.ListN.{take, replicate}
use Rattle.codes.specs.Checksums.{sum_of, checksum_of}
use Rattle.codes.specs.FunctionCodes.{code_byte, function_code_of}
use Rattle.codes.specs.RequestTypes.{request_type_of}
use Rattle.codes.specs.Responses.{state_of, status_of}
use Rattle.ground.specs.declared.part.Part.{Part}
use Rattle.link_rules.specs.Rules.{room, wrong_addresses, wrong_length}
use Rattle.link_telegrams.specs.Headers.{ok_header, reply_header}
use Rattle.link_telegrams.specs.Heard.{data_to_of, request_to_of, request_heard_of}
use Rattle.link_telegrams.specs.Turns.{Turn, sent, tells, nothing, refused}
use Rattle.responder.specs.Calls.{hear_of, answer_of, restart_of}
use Rattle.responder.specs.Records.{blank_of}
use Rattle.responder_row.specs.Rows.{row_hears, row_answers}
use Rattle.responder.specs.declared.state.Responder.{Responder}
use Rattle.telegram.specs.Picture.{head_bytes, covered_bytes, length_byte, start_bytes, telegram_bytes}
use Rattle.telegram.specs.Reading.{header_at, saps_at, read_of}
use Rattle.telegram_tx.specs.Writing.{send_of, write_of}

abbrev buf : List ℕ
buf = replicate room 0

abbrev opening : List ℕ
opening = 16 ∷ 5 ∷ 2 ∷ 108 ∷ 115 ∷ 22 ∷ []

abbrev order_at_low : List ℕ
order_at_low = 104 ∷ 5 ∷ 5 ∷ 104 ∷ 5 ∷ 2 ∷ 92 ∷ 1 ∷ 3 ∷ 103 ∷ 22 ∷ []

abbrev order_at_high : List ℕ
order_at_high = 104 ∷ 5 ∷ 5 ∷ 104 ∷ 5 ∷ 2 ∷ 124 ∷ 1 ∷ 3 ∷ 135 ∷ 22 ∷ []

-- what the responder writes
abbrev ok_telegram : List ℕ
ok_telegram = 16 ∷ 2 ∷ 5 ∷ 0 ∷ 7 ∷ 22 ∷ []

abbrev reply_telegram : List ℕ
reply_telegram = 104 ∷ 4 ∷ 4 ∷ 104 ∷ 2 ∷ 5 ∷ 8 ∷ 9 ∷ 24 ∷ 22 ∷ []

-- the responder as it is made, opened, with a reply owed, and with one held
abbrev made : Responder
made = blank_of (record { own = record { 0 = 5 }; peer = record { 0 = 2 } })

abbrev hears : Responder → List ℕ → Turn Responder Part
hears r s = hear_of r s buf

abbrev opened : Responder
opened = (hears made opening).end

abbrev owing : Responder
owing = (hears opened order_at_low).end

abbrev answers : Responder → Turn Responder Part
answers r = answer_of r (9 ∷ []) buf

abbrev holding : Responder
holding = (answers owing).end

pub record Scene : Type 0 where
  -- an order before any opening is nothing
  pub no_bit : (hears made order_at_low).said ≡ nothing
  pub opens : (hears made opening).said ≡ sent 6
  pub ok : take 6 (hears made opening).buffer ≡ ok_telegram
  -- after an opening bit 1 is stored
  pub same_bit : (hears opened order_at_high).said ≡ nothing
  pub hands_up_lem : (hears opened order_at_low).said ≡ tells (record { start = 7; len = 2 })
  -- while its reply is owed the order is not handed up again, and another one is
  pub owed_again_lem : (hears owing order_at_low).said ≡ nothing
  pub owed_other : (hears owing order_at_high).said ≡ tells (record { start = 7; len = 2 })
  pub replies : (answers owing).said ≡ sent 10
  pub reply : take 10 (answers owing).buffer ≡ reply_telegram
  pub once : (answers holding).said ≡ refused 21
  -- the held reply again, and the next order
  pub held_again : take 10 (hears holding order_at_low).buffer ≡ reply_telegram
  pub next : (hears holding order_at_high).said ≡ tells (record { start = 7; len = 2 })
  -- an opening drops what is owed and what is held
  pub debt_dropped : (answers (hears owing opening).end).said ≡ refused 21
  pub reply_dropped : (hears (hears holding opening).end order_at_low).said ≡ tells (record { start = 7; len = 2 })
  pub restarted : (hears (restart_of holding) order_at_low).said ≡ nothing
  pub no_room : (hear_of made opening (replicate 254 0)).said ≡ refused 10

pub scene : Scene
unfolding wrong_addresses wrong_length sum_of checksum_of code_byte function_code_of request_type_of state_of status_of header_at saps_at read_of head_bytes covered_bytes length_byte start_bytes telegram_bytes send_of write_of ok_header reply_header data_to_of request_to_of request_heard_of row_hears row_answers hear_of answer_of
scene =
    record {
      no_bit = refl;
      opens = refl;
      ok = refl;
      same_bit = refl;
      hands_up_lem = refl;
      owed_again_lem = refl;
      owed_other = refl;
      replies = refl;
      reply = refl;
      once = refl;
      held_again = refl;
      next = refl;
      debt_dropped = refl;
      reply_dropped = refl;
      restarted = refl;
      no_room = refl;
    }
