-- The walk of bytes that are a row of blocks gives that row and then the end (`row_walked`); where bytes with a fault follow the row, that row and
-- the fault's number (`fault_walked`).
use mathlib.Core.Path.{◌≡◌, refl, ap, ◌∙◌}
use mathlib.Core.List.{List, [], ◌∷◌, ◌++◌, append_assoc, append-nil}
use Prim.Native.Nat.{ℕ, zero, suc, ◌+◌, ◌-◌, ◌*◌, ◌/◌, ◌%◌, ◌≤◌, ◌<◌}
use native.Mathlib.Omega.{arith}
use lib.ListN.{length, length-append}
use lib.Seq.{drop-append-add, get_or-append-add, get_or-append_seam, take-append_seam}
use Rattle.ground.proofs.BitLaws.{digit_small, digit_back}
use Rattle.ground.proofs.PartLaws.{shown_fits}
use Rattle.ground.specs.Bits.{digit}
use Rattle.diagnostics.specs.Blocks.{Block, BlocksSay, ChannelFits, RowSays, Says, TypeRead, channel_says, device, device_says, document01, first_byte, identifier, identifier_says, itself, no_block, one_more, second_byte, third_byte, zero_invalid}
use Rattle.diagnostics.specs.Faults.{Broken, Fault, block_cut_off, device_zero, identifier_zero, reserved_header}
use Rattle.diagnostics_blocks.specs.Channel.{Channel, channel_of, type_of}
use Rattle.diagnostics.specs.Walk.{Ending, PlacedBlock, block, block_at, body_of, broken, channel_is, device_at, headed_by, identifier_at, length_of, pictured, refused_at, step_of, walk_of, walk_steps, whole}
use Rattle.diagnostics.proofs.Headers.{channel_cut, headed_reserved, length_channel, length_sized, sized_cut, sized_zero}
use Rattle.diagnostics_blocks.proofs.Numbers.{type_kept, type_zero_lem}
use Rattle.diagnostics.proofs.Steps.{step_block, step_inside, step_stays}
use Rattle.diagnostics.proofs.Walks.{walk_off, walk_on, walk_refused}

-- the second byte gives the channel, the input and the output back
channel_number : (o i n : ℕ) → n < 64 → (128 * o + 64 * i + n) % 64 ≡ n
channel_number o i n h = omega arith

input_number : (o i n : ℕ) → i ≤ 1 → n < 64 → (128 * o + 64 * i + n) / 64 % 2 ≡ i
input_number o i n hi h = omega arith

output_number : (o i n : ℕ) → i ≤ 1 → n < 64 → (128 * o + 64 * i + n) / 128 ≡ o
output_number o i n hi h = omega arith

third_type : (t e : ℕ) → e ≤ 31 → (32 * t + e) / 32 ≡ t
third_type t e h = omega arith

third_error : (t e : ℕ) → e ≤ 31 → (32 * t + e) % 32 ≡ e
third_error t e h = omega arith

-- type bits say their type
type_said : {bits t : ℕ} → TypeRead bits t → type_of bits ≡ t
type_said (itself least most) = type_kept _ least
type_said zero_invalid = type_zero_lem

header_back : (m : ℕ) → m < 64 → (128 + m) % 64 ≡ m
header_back m h = omega arith

-- the three bytes of a channel say that channel
channel_said : {c : Channel} {bits : ℕ} → ChannelFits document01 bits c → channel_of (first_byte c) (second_byte c) (third_byte bits c) ≡ c
channel_said {c} {bits} f =
    let small = digit_small c.input in
    rw (
      header_back _ f.module_bits,
      channel_number (digit c.output) (digit c.input) _ f.channel_bits,
      input_number (digit c.output) (digit c.input) _ small f.channel_bits,
      output_number (digit c.output) (digit c.input) _ small f.channel_bits,
      digit_back c.input,
      digit_back c.output,
      third_type bits _ f.error_is,
      third_error bits _ f.error_is,
      type_said f.type_is,
      f.error_sort,
    )

module _ (pre rest : List ℕ) where
  -- the body of a block that stands behind others
  body_back : (header : ℕ) (body : List ℕ) → body_of (pre ++ (header ∷ (body ++ rest))) (length pre + 1) (length body) ≡ body
  body_back header body =
      let fits : length pre + 1 + length body ≤ length (pre ++ (header ∷ (body ++ rest))) = simp length-append (omega arith) in
      let size : length pre + 1 + length body - (length pre + 1) ≡ length body = omega arith in
      rw (shown_fits _ _ fits, drop-append-add, size, take-append_seam)

  -- a step at a block with a body finds it and goes on behind it
  step_sized : (header : ℕ) (body : List ℕ) → header % 64 ≡ suc (length body) → header / 64 < 2
      → step_of (pre ++ (header ∷ (body ++ rest))) (length pre) ≡ record { answer = block (block_at (pre ++ (header ∷ (body ++ rest))) (length pre) header); cursor = length pre + suc (length body) }
  step_sized header body low kind =
      let len : length_of header ≡ suc (length body) = length_sized header (λ e. omega arith) ∙ low in
      let inside : length pre < length (pre ++ (header ∷ (body ++ rest))) = simp length-append (omega arith) in
      let fits : length pre + length_of header ≤ length (pre ++ (header ∷ (body ++ rest))) = simp (len, length-append) (omega arith) in
      rw (step_block _ _ header inside (get_or-append_seam pre header _ 0) (λ e. omega arith) (omega arith) fits, len)

  -- so does one at a channel block
  step_channel : (header second third : ℕ) → header / 64 ≡ 2
      → step_of (pre ++ (header ∷ second ∷ third ∷ rest)) (length pre) ≡ record { answer = block (channel_is (channel_of header second third)); cursor = length pre + 3 }
  unfolding block_at
  step_channel header second third two =
      let len : length_of header ≡ 3 = length_channel header two in
      let inside : length pre < length (pre ++ (header ∷ second ∷ third ∷ rest)) = simp length-append (omega arith) in
      let fits : length pre + length_of header ≤ length (pre ++ (header ∷ second ∷ third ∷ rest)) = simp (len, length-append) (omega arith) in
      rw (
        step_block _ _ header inside (get_or-append_seam pre header _ 0) (λ e. omega arith) (omega arith) fits,
        len,
        two,
        get_or-append-add pre _ 1 0,
        get_or-append-add pre _ 2 0,
      )

-- a step at a place of s gives this block and goes on so many bytes further
record Gives (s : List ℕ) (at : ℕ) (b : Block) (size : ℕ) : Type 0 where
  placed : PlacedBlock
  steps : step_of s at ≡ record { answer = block placed; cursor = at + size }
  shows : pictured s placed ≡ b

gives : (pre rest : List ℕ) {x : List ℕ} {b : Block} → Says document01 x b → Gives (pre ++ (x ++ rest)) (length pre) b (length x)
unfolding block_at
gives pre rest (identifier_says {body} short) =
    let header = 64 + suc (length body) in
    let low : header % 64 ≡ suc (length body) = omega arith in
    let one : header / 64 ≡ 1 = omega arith in
    let size : suc (length body) - 1 ≡ length body = omega arith in
    record {
      placed = identifier_at (length pre + 1) (length body);
      steps = rw (step_sized pre rest header body low (omega arith), one, low, size);
      shows = ap identifier (body_back pre rest header body);
    }
gives pre rest (device_says {body} short) =
    let header = suc (length body) in
    let low : header % 64 ≡ suc (length body) = omega arith in
    let none : header / 64 ≡ 0 = omega arith in
    let size : suc (length body) - 1 ≡ length body = omega arith in
    record {
      placed = device_at (length pre + 1) (length body);
      steps = rw (step_sized pre rest header body low (omega arith), none, low, size);
      shows = ap device (body_back pre rest header body);
    }
gives pre rest (channel_says {c} {bits} fits) =
    let small = fits.module_bits in
    let two : first_byte c / 64 ≡ 2 = omega arith in
    record {
      placed = channel_is c;
      steps = rw (step_channel pre rest _ (second_byte c) (third_byte bits c) two, channel_said fits);
      shows = refl;
    }

-- ---- a fault

-- the first byte of bytes behind others is the header there
module _ (pre rest : List ℕ) (header : ℕ) where
  inside_at : length pre < length (pre ++ (header ∷ rest))
  inside_at = simp length-append (omega arith)

  step_at : (n : ℕ) → headed_by (pre ++ (header ∷ rest)) (length pre) header ≡ refused_at n (length (pre ++ (header ∷ rest)))
      → step_of (pre ++ (header ∷ rest)) (length pre) ≡ refused_at n (length (pre ++ (header ∷ rest)))
  step_at n e = step_inside _ _ inside_at ∙ rw (get_or-append_seam pre header rest 0) e

  -- a block of which bytes are missing is cut off
  sized_short : header / 64 < 2 → suc (length rest) < header % 64
      → step_of (pre ++ (header ∷ rest)) (length pre) ≡ refused_at 12 (length (pre ++ (header ∷ rest)))
  sized_short kind less = step_at 12 (sized_cut _ _ header kind (λ e. omega arith) (simp length-append (omega arith)))

  channel_short : header / 64 ≡ 2 → suc (length rest) < 3
      → step_of (pre ++ (header ∷ rest)) (length pre) ≡ refused_at 12 (length (pre ++ (header ∷ rest)))
  channel_short kind less = step_at 12 (channel_cut _ _ header kind (simp length-append (omega arith)))

cut_step : (pre s missing : List ℕ) {x : List ℕ} {b : Block} → Says document01 x b → x ≡ s ++ missing → 1 ≤ length s → 1 ≤ length missing
    → step_of (pre ++ s) (length pre) ≡ refused_at 12 (length (pre ++ s))
cut_step pre [] missing says e begun short = absurd (omega arith)
cut_step pre (header ∷ t) missing (identifier_says {body} fits) e begun short =
    let head : header ≡ 64 + suc (length body) = cc in
    let body_is : body ≡ t ++ missing = cc in
    let size = simp length-append at (ap length body_is) in
    sized_short pre t header (omega arith) (omega arith)
cut_step pre (header ∷ t) missing (device_says {body} fits) e begun short =
    let head : header ≡ suc (length body) = cc in
    let body_is : body ≡ t ++ missing = cc in
    let size = simp length-append at (ap length body_is) in
    sized_short pre t header (omega arith) (omega arith)
cut_step pre (header ∷ t) missing (channel_says {c} {bits} fits) e begun short =
    let small = fits.module_bits in
    let head : header ≡ first_byte c = cc in
    let rest_is : second_byte c ∷ third_byte bits c ∷ [] ≡ t ++ missing = cc in
    let size = simp length-append at (ap length rest_is) in
    channel_short pre t header (omega arith) (omega arith)

-- a step at a fault is refused with its number
fault_step : (pre : List ℕ) {s : List ℕ} {n : ℕ} → Fault s n → step_of (pre ++ s) (length pre) ≡ refused_at n (length (pre ++ s))
fault_step pre (block_cut_off cut) = cut_step pre _ cut.missing cut.says cut.front (omega arith) (omega arith)
fault_step pre (reserved_header {low} {rest} small) = step_at pre rest (192 + low) 13 (headed_reserved _ _ (192 + low) (omega arith))
fault_step pre (device_zero {rest}) = step_at pre rest 0 14 (sized_zero _ _ 0 (omega arith) refl)
fault_step pre (identifier_zero {rest}) = step_at pre rest 64 14 (sized_zero _ _ 64 (omega arith) refl)

-- ---- the walk

-- a block is at least one byte
some_bytes : {x : List ℕ} {b : Block} → Says document01 x b → 1 ≤ length x
some_bytes (identifier_says _) = omega arith
some_bytes (device_says _) = omega arith
some_bytes (channel_says _) = omega arith

-- a row is at least as many bytes as blocks
some_row : {s : List ℕ} {bs : List Block} → BlocksSay document01 s bs → length bs ≤ length s
some_row no_block = omega arith
some_row (one_more says more) = simp length-append (omega (arith, some_bytes says, some_row more))

-- bytes at which a walk ends so, whatever stands before them
Stops : List ℕ → Ending → Type 0
Stops rest ending = (k : ℕ) (pre : List ℕ) → walk_steps (suc k) (pre ++ rest) (length pre) ≡ record { blocks = []; ending = ending }

-- the walk of a row that stands behind other bytes and before such, in steps enough
walk_row : {x : List ℕ} {bs : List Block} → BlocksSay document01 x bs → (rest : List ℕ) (ending : Ending) → Stops rest ending
    → (k : ℕ) (pre : List ℕ) → length bs ≤ k
    → walk_steps (suc k) (pre ++ (x ++ rest)) (length pre) ≡ record { blocks = bs; ending = ending }
unfolding Stops
walk_row no_block rest ending stops k pre h = stops k pre
walk_row (one_more says more) rest ending stops zero pre h = absurd (omega arith)
walk_row (one_more {x} {xs} says more) rest ending stops (suc k) pre h =
    let first = gives pre (xs ++ rest) says in
    let later = rw (append_assoc pre x (xs ++ rest), length-append) at (walk_row more rest ending stops k (pre ++ x) (omega arith)) in
    rw (append_assoc x xs rest) (walk_on (suc k) _ _ _ _ first.steps ∙ rw (first.shows, later))

at_the_end : Stops [] whole
unfolding Stops
at_the_end k pre = walk_off k _ _ (step_stays _ _ (simp append-nil (omega arith)))

at_a_fault : {s : List ℕ} {n : ℕ} → Fault s n → Stops s (broken n)
unfolding Stops
at_a_fault fault k pre = walk_refused k _ _ _ (fault_step pre fault)

-- Bytes that are a row of blocks are walked to that row and then the end.
pub row_walked : {s : List ℕ} {bs : List Block} → RowSays document01 s bs → walk_of s ≡ record { blocks = bs; ending = whole }
unfolding walk_of
row_walked {s} row = rw append-nil at (walk_row row.says [] whole at_the_end (length s) [] (some_row row.says))

-- Bytes that are a row of blocks, and then begin with a fault, are walked to that row and refused with the fault's number.
pub fault_walked : {s : List ℕ} {bs : List Block} {n : ℕ} → Broken s bs n → walk_of s ≡ record { blocks = bs; ending = broken n }
unfolding walk_of
fault_walked {s} broke =
    let enough = some_row broke.row.says in
    let long : length s ≡ length broke.front + length broke.rest = ap length broke.bytes ∙ simp length-append in
    let walked = walk_row broke.row.says broke.rest _ (at_a_fault broke.fault) (length s) [] (omega arith) in
    rw (← broke.bytes) at walked
