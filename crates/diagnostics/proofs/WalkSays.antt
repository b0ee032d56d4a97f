-- What a walk gives, the bytes say: a row of blocks, or one and then a fault: `walk_says`.
use mathlib.Core.Path.{◌≡◌, refl, ap, sym, ◌∙◌}
use mathlib.Core.List.{List, [], ◌∷◌, ◌++◌, append_assoc}
use Prim.Native.Nat.{ℕ, zero, suc, ◌+◌, ◌-◌, ◌/◌, ◌%◌, ◌≤◌, ◌<◌}
use native.Mathlib.Numerals.{add-one}
use native.Mathlib.Omega.{arith}
use lib.ListN.{length, take, drop, replicate, drop_of_length-le, length-append, length-drop, length-replicate, take-append-drop}
use lib.Seq.{drop-cons, drop-drop, get_or-drop}
use Rattle.ground.proofs.BitLaws.{digit_again}
use Rattle.ground.proofs.PartLaws.{part_length, shown_fits}
use Rattle.ground.specs.Part.{byte_at, part}
use Rattle.diagnostics.specs.Blocks.{Block, BlocksSay, ChannelFits, Says, TypeRead, channel, channel_says, device, device_says, document01, first_byte, identifier, identifier_says, itself, no_block, one_more, second_byte, third_byte, zero_invalid}
use Rattle.diagnostics.specs.Faults.{Broken, CutOff, Fault, block_cut_off, device_zero, identifier_zero, reserved_header}
use Rattle.diagnostics_blocks.specs.Channel.{Channel, channel_of, error_of, type_of}
use Rattle.diagnostics.specs.Walk.{Walk, block_at, body_of, broken, length_of, pictured, walk_of, walk_steps, whole}
use Rattle.diagnostics.proofs.Bodies.{Kind, channel_kind, device_kind, identifier_kind, kind}
use Rattle.diagnostics_blocks.proofs.Numbers.{error_number_lem, type_kept, type_zero_lem}
use Rattle.diagnostics.proofs.Steps.{StepCase, Why, ended, found, step_case, refusal, reserved, too_long, zero_long}
use Rattle.diagnostics.proofs.Walks.{walk_off, walk_on, walk_refused}

-- a bit is the number that was tested
module _ (first second third : ℕ) where
  first_again : first / 64 ≡ 2 → first_byte (channel_of first second third) ≡ first
  first_again h = omega arith

  second_again : second < 256 → second_byte (channel_of first second third) ≡ second
  second_again h = rw (digit_again (second / 128) (omega arith), digit_again (second / 64 % 2) (omega arith)) (omega arith)

  third_again : third_byte (third / 32) (channel_of first second third) ≡ third
  third_again = rw error_number_lem (omega arith)

type_read : (n : ℕ) → n ≤ 7 → TypeRead n (type_of n)
type_read zero h = rw type_zero_lem zero_invalid
type_read (suc n) h = rw (type_kept (suc n) (omega arith)) (itself {t = suc n} (omega arith) h)

-- the channel that three bytes say has room in them
said_fits : (first second third : ℕ) → third < 256 → ChannelFits document01 (third / 32) (channel_of first second third)
said_fits first second third h = record {
  module_bits = omega arith;
  channel_bits = omega arith;
  direction = tt;
  type_is = type_read (third / 32) (omega arith);
  error_is = rw error_number_lem (omega arith);
  error_sort = ap error_of (error_number_lem _);
}

-- three bytes of which the first is a channel's say that channel
channel_said : (first second third : ℕ) → first / 64 ≡ 2 → second < 256 → third < 256
    → Says document01 (first ∷ second ∷ third ∷ []) (channel (channel_of first second third))
channel_said first second third two h₂ h₃ =
    rw (first_again first second third two, second_again first second third h₂, third_again first second third)
    at (says (said_fits first second third h₃))
  where
    says : {c : Channel} {bits : ℕ} → ChannelFits document01 bits c → Says document01 (first_byte c ∷ second_byte c ∷ third_byte bits c ∷ []) (channel c)
    says = channel_says

-- a header with its body says the block of its kind
identifier_says_lem : (header : ℕ) (body : List ℕ) → header ≡ 64 + suc (length body) → length body ≤ 62 → Says document01 (header ∷ body) (identifier body)
identifier_says_lem header body e short = rw e (identifier_says short)

device_says_lem : (header : ℕ) (body : List ℕ) → header ≡ suc (length body) → length body ≤ 62 → Says document01 (header ∷ body) (device body)
device_says_lem header body e short = rw e (device_says short)

module _ (s : List ℕ) (at : ℕ) where
  -- the bytes of a block with a body
  sized_bytes : (n : ℕ) → at < length s → take (suc n) (drop at s) ≡ byte_at s at ∷ part s (at + 1) (at + 1 + n)
  sized_bytes n h =
      let size : at + 1 + n - (at + 1) ≡ n = omega arith in
      rw (drop-cons s at 0 h, size, add-one)

  -- the bytes of a channel block
  three_bytes : at + 3 ≤ length s → take 3 (drop at s) ≡ byte_at s at ∷ byte_at s (at + 1) ∷ byte_at s (at + 2) ∷ []
  three_bytes h =
      let one : at + 1 ≡ suc at = omega arith in
      let two : at + 2 ≡ suc (suc at) = omega arith in
      rw (drop-cons s at 0 (omega arith), drop-cons s (suc at) 0 (omega arith), drop-cons s (suc (suc at)) 0 (omega arith), one, two)

-- a body that lies within is that part
body_part : (s : List ℕ) (start size : ℕ) → start + size ≤ length s → body_of s start size ≡ part s start (start + size)
body_part s start size h = shown_fits _ _ h

module _ (s : List ℕ) (at n header : ℕ) (head : byte_at s at ≡ header) (room : at + 1 + n ≤ length s) where
  body_length : length (body_of s (at + 1) n) ≡ n
  body_length = ap length (body_part s (at + 1) n room) ∙ part_length s (at + 1) n room

  sized_said : take (suc n) (drop at s) ≡ header ∷ body_of s (at + 1) n
  sized_said = sized_bytes s at n (omega arith) ∙ rw (head, body_part s (at + 1) n room)

block_said : (s : List ℕ) (at header : ℕ) → byte_at s at ≡ header → ((i : ℕ) → byte_at s i < 256) → (header / 64 ≡ 3 → ⊥)
    → 1 ≤ length_of header → at + length_of header ≤ length s → Kind s at header
    → Says document01 (take (length_of header) (drop at s)) (pictured s (block_at s at header))
block_said s at header head byte open₃ some room (identifier_kind one len is) =
    let n = header % 64 - 1 in
    let size : length_of header ≡ suc n = omega arith in
    let within : at + 1 + n ≤ length s = omega arith in
    let long = body_length s at n header head within in
    rw (is, size, sized_said s at n header head within) (identifier_says_lem header _ (omega arith) (omega arith))
block_said s at header head byte open₃ some room (device_kind not₁ not₂ len is) =
    let n = header % 64 - 1 in
    let size : length_of header ≡ suc n = omega arith in
    let small : header < 256 = rw head at (byte at) in
    let within : at + 1 + n ≤ length s = omega arith in
    let long = body_length s at n header head within in
    rw (is, size, sized_said s at n header head within) (device_says_lem header _ (omega arith) (omega arith))
block_said s at header head byte open₃ some room (channel_kind two len is) =
    rw (is, len, three_bytes s at (omega arith), head) (channel_said header _ _ two (byte (at + 1)) (byte (at + 2)))

-- ---- faults

-- a header and fewer bytes than it says are the front of a block, whatever the missing bytes
module _ (header : ℕ) (rest : List ℕ) (less : suc (length rest) < header % 64) where
  padding : List ℕ
  padding = replicate (header % 64 - suc (length rest)) 0

  padded : length (rest ++ padding) ≡ header % 64 - 1
  unfolding padding
  padded = simp (length-append, length-replicate) (omega arith)

  cut_by : {b : Block} → Says document01 (header ∷ (rest ++ padding)) b → CutOff (header ∷ rest)
  unfolding padding
  cut_by {b} says =
      record {
        block = b;
        bytes = header ∷ (rest ++ padding);
        missing = padding;
        says = says;
        front = refl;
        begun = omega arith;
        short = simp length-replicate (omega arith);
      }

  identifier_cut : header / 64 ≡ 1 → CutOff (header ∷ rest)
  identifier_cut one = cut_by (identifier_says_lem header _ (omega (arith, padded)) (omega (arith, padded)))

  device_cut : header / 64 ≡ 0 → CutOff (header ∷ rest)
  device_cut none = cut_by (device_says_lem header _ (omega (arith, padded)) (omega (arith, padded)))

-- a channel's first byte alone, or its first two, whatever the others
channel_cut : (header : ℕ) (rest : List ℕ) → byte_at rest 0 < 256 → header / 64 ≡ 2 → suc (length rest) < 3
    → CutOff (header ∷ rest)
channel_cut header [] byte two less =
    record {
      block = channel (channel_of header 0 0);
      bytes = header ∷ 0 ∷ 0 ∷ [];
      missing = 0 ∷ 0 ∷ [];
      says = channel_said header 0 0 two (omega arith) (omega arith);
      front = refl;
      begun = omega arith;
      short = omega arith;
    }
channel_cut header (second ∷ []) byte two less =
    record {
      block = channel (channel_of header second 0);
      bytes = header ∷ second ∷ 0 ∷ [];
      missing = 0 ∷ [];
      says = channel_said header second 0 two byte (omega arith);
      front = refl;
      begun = omega arith;
      short = omega arith;
    }
channel_cut header (second ∷ third ∷ rest) byte two less = absurd (omega arith)

-- a header with the top two bits 11, and one without a length
reserved_fault : (header low : ℕ) (rest : List ℕ) → header ≡ 192 + low → low < 64 → Fault (header ∷ rest) 13
reserved_fault header low rest e small = rw e (reserved_header small)

device_zero_lem : (header : ℕ) (rest : List ℕ) → header ≡ 0 → Fault (header ∷ rest) 14
device_zero_lem header rest e = rw e device_zero

identifier_zero_lem : (header : ℕ) (rest : List ℕ) → header ≡ 64 → Fault (header ∷ rest) 14
identifier_zero_lem header rest e = rw e identifier_zero

module _ (s : List ℕ) (at : ℕ) (byte : (i : ℕ) → byte_at s i < 256) (h : at < length s) where
  behind : List ℕ
  behind = drop (suc at) s

  behind_length : suc (length behind) ≡ length s - at
  unfolding behind
  behind_length = simp length-drop (omega arith)

  behind_byte : byte_at behind 0 < 256
  unfolding behind
  behind_byte = rw get_or-drop (byte _)

  why_zero : Kind s at (byte_at s at) → (byte_at s at / 64 ≡ 3 → ⊥) → length_of (byte_at s at) ≡ 0 → Fault (byte_at s at ∷ behind) 14
  why_zero (identifier_kind one len is) open₃ none = identifier_zero_lem _ _ (omega arith)
  why_zero (channel_kind two len is) open₃ none = absurd (omega arith)
  why_zero (device_kind not₁ not₂ len is) open₃ none = device_zero_lem _ _ (omega (arith, byte at))

  why_cut : Kind s at (byte_at s at) → (byte_at s at / 64 ≡ 3 → ⊥) → length s < at + length_of (byte_at s at) → CutOff (byte_at s at ∷ behind)
  why_cut (identifier_kind one len is) open₃ less = identifier_cut _ _ (omega (arith, behind_length)) one
  why_cut (channel_kind two len is) open₃ less = channel_cut _ _ behind_byte two (omega (arith, behind_length))
  why_cut (device_kind not₁ not₂ len is) open₃ less = device_cut _ _ (omega (arith, behind_length)) (omega (arith, byte at))

  fault_there : {n : ℕ} → Why s at n → Fault (byte_at s at ∷ behind) n
  fault_there (reserved three) = reserved_fault _ (byte_at s at % 64) _ (omega (arith, byte at)) (omega arith)
  fault_there (zero_long open₃ none) = why_zero (kind s at (byte_at s at)) open₃ none
  fault_there (too_long open₃ some less) = block_cut_off (why_cut (kind s at (byte_at s at)) open₃ less)

  -- what is refused begins with the fault of that number
  fault_at : {n : ℕ} → Why s at n → Fault (drop at s) n
  unfolding behind
  fault_at why = rw (drop-cons s at 0 h) (fault_there why)

-- ---- the walk

-- what the bytes say that a walk gives
pub data Walked (s : List ℕ) : Walk → Type 0 where
  wholly : {bs : List Block} → BlocksSay document01 s bs → Walked s (record { blocks = bs; ending = whole })
  brokenly : {bs : List Block} {n : ℕ} → Broken s bs n → Walked s (record { blocks = bs; ending = broken n })

one_before : {x xs : List ℕ} {b : Block} {w : Walk} → Says document01 x b → Walked xs w
    → Walked (x ++ xs) (record { blocks = b ∷ w.blocks; ending = w.ending })
one_before says (wholly more) = wholly (one_more says more)
one_before {x} says (brokenly broke) =
    brokenly
    (record {
      front = x ++ broke.front;
      rest = broke.rest;
      row = record { says = one_more says broke.row.says; together = tt };
      fault = broke.fault;
      bytes = rw (broke.bytes, append_assoc);
    })

walked_by : (k : ℕ) (s : List ℕ) (at : ℕ) → ((i : ℕ) → byte_at s i < 256) → StepCase s at
    → ((next : ℕ) → at < next → next ≤ length s → Walked (drop next s) (walk_steps k s next))
    → Walked (drop at s) (walk_steps (suc k) s at)
walked_by k s at byte (ended past e) later = rw (walk_off k s at e, drop_of_length-le s past) (wholly no_block)
walked_by k s at byte (refusal h n why e) later =
    rw (walk_refused k s at n e)
    (brokenly (record { front = []; rest = drop at s; row = record { says = no_block; together = tt }; fault = fault_at s at byte h why; bytes = refl }))
walked_by k s at byte (found inside open₃ some room e) later =
    let size = length_of (byte_at s at) in
    let on = walk_on k s at _ _ e in
    let split = rw (drop-drop size at s) at (sym (take-append-drop size (drop at s))) in
    let said = block_said s at (byte_at s at) refl byte open₃ some room (kind s at (byte_at s at)) in
    rw (on, split) (one_before said (later (at + size) (omega arith) room))

walked_from : (k : ℕ) (s : List ℕ) (at : ℕ) → ((i : ℕ) → byte_at s i < 256) → at ≤ length s → length s < at + k
    → Walked (drop at s) (walk_steps k s at)
walked_from zero s at byte h more = absurd (omega arith)
walked_from (suc k) s at byte h more = walked_by k s at byte (step_case s at) (λ next p q. walked_from k s next byte q (omega arith))

-- What the walk of bytes gives, the bytes say.
pub walk_says : (s : List ℕ) → ((i : ℕ) → byte_at s i < 256) → Walked s (walk_of s)
unfolding walk_of
walk_says s byte = walked_from (suc (length s)) s 0 byte (omega arith) (omega arith)
