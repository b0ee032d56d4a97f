-- Laws of the frame. Read `framed_read`: the reader's answer is made from it; for callers who judge the bytes of a frame themselves
-- `found_frame`, `frame_reads`, `sealed_found`, `data_framed`, `framed_data` and `sealed_reads`. The rest says what each step of framing
-- answers.
use Rattle.std.proofs.Common.{None, Option, Some}
use Prim.Native.Nat.{ℕ, ◌+◌, ◌<◌, ◌≤◌}
use mathlib.Core.Bool.{Bool, true, false, not}
use mathlib.Core.List.{List}
use mathlib.Core.Logic.{inl, inr}
use mathlib.Core.Path.{◌≡◌, refl, sym, ap, ◌∙◌}
use native.Mathlib.Omega.{arith}
use lib.Dec.{eqb, ltb}
use lib.ListN.{length}
use borrow.Author.Tests.{ltb-true, ltb-false, eqb-true, lt-ltb, le-ltb, eq-eqb, ne_eqb}
use Rattle.codes.specs.Checksums.{checksum_of}
use Rattle.codes.specs.Delimiters.{SD1, SD2, SD3, SD4, SC, ED}
use Rattle.codes.specs.FunctionCodes.{function_code_of}
use Rattle.codes.specs.declared.function_code.FunctionCode.{FunctionCode}
use Rattle.ground.proofs.Injective.{injective, zero_one}
use Rattle.ground.proofs.PickLaws.{picked, both_first, both_second}
use Rattle.ground.proofs.RefusalLaws.{refusal_of, refusal_again}
use Rattle.ground.specs.Part.{part, byte_at}
use Rattle.ground.specs.Pick.{if}
use Rattle.telegram.proofs.Answers.{DataStart, steps_read, data_start, starts_true, Content, content_whole, whole_length, content_answered, answer_content, code_known, Answered, sd1, sd2, sd3}
use Rattle.telegram.proofs.ReadingLaws.{reason}
use Rattle.telegram.specs.Frames.{Framing, frame_is, frame_incomplete, frame_refused, shown_frame, frame_at, framing_at, framing_lengths, framing_data, framing_of, sealed_of}
use Rattle.telegram.specs.Leaves.{code_of, frame_of, lengths_of, data_of, steps_of, framing_long, reading_of}
use Rattle.telegram.specs.Reading.{whole, incomplete, refused, saps_at, telegram_at, starts_data, read_of}
use Rattle.telegram.specs.declared.frame.Frame.{Frame}
use Rattle.telegram.specs.declared.frame.FrameFound.{FrameFound}
use Rattle.telegram.specs.declared.frame.FrameFound.TheVariants as frameFound
use Rattle.telegram.specs.declared.kinds.DataTelegram.{DataTelegram}
use Rattle.telegram.specs.declared.kinds.Telegram.TheVariants.{Data}

-- What `frame_of` answers is the one that its answer, as it is shown, leads back to.
abbrev framing_back : Framing → FrameFound
framing_back (frame_is f) = frameFound.Is f
framing_back frame_incomplete = frameFound.Incomplete
framing_back (frame_refused k) = frameFound.Refused (refusal_of k)

framing_again : (x : FrameFound) → framing_back (shown_frame x) ≡ x
framing_again (frameFound.Is f) = refl
framing_again frameFound.Incomplete = refl
framing_again (frameFound.Refused r) = ap frameFound.Refused (refusal_again r)

pub shown_frame_injective : (x y : FrameFound) → shown_frame x ≡ shown_frame y → x ≡ y
shown_frame_injective = injective shown_frame framing_back framing_again

-- ---- what each step answers where its tests are decided

module _ (s : List ℕ) where
  pub under_framing : (at l : ℕ) → length s < at + l + 2 → framing_at s at l ≡ frame_incomplete
  unfolding framing_at
  under_framing at l h = rw (lt-ltb _ _ h)

  pub total_framing : (at l : ℕ) → at + l + 2 ≤ length s → framing_at s at l ≡ frame_is (frame_at s at l)
  unfolding framing_at
  total_framing at l h = rw (le-ltb _ _ h)

  pub lengths_framing :
      6 ≤ length s → byte_at s 1 ≡ byte_at s 2 → 3 ≤ byte_at s 1
      → framing_long s ≡ framing_at s 4 (byte_at s 1)
  unfolding framing_long framing_lengths
  lengths_framing h e l = rw (le-ltb _ _ h, eq-eqb _ _ e, le-ltb _ _ l)

  pub nothing_framing : length s ≡ 0 → framing_of s ≡ frame_incomplete
  unfolding framing_of
  nothing_framing h = rw (eq-eqb _ _ h)

  pub data_framing : (length s ≡ 0 → ⊥) → DataStart (byte_at s 0) → framing_of s ≡ framing_data s
  unfolding framing_of
  data_framing h (inl e) = rw (ne_eqb _ _ h, e)
  data_framing h (inr (inl e)) = rw (ne_eqb _ _ h, e)
  data_framing h (inr (inr e)) = rw (ne_eqb _ _ h, e)

  pub unknown_framing :
      (length s ≡ 0 → ⊥) → (byte_at s 0 ≡ SD1 → ⊥) → (byte_at s 0 ≡ SD2 → ⊥) → (byte_at s 0 ≡ SD3 → ⊥)
      → framing_of s ≡ frame_refused 1
  unfolding framing_of
  unknown_framing h a b c = rw (ne_eqb _ _ h, ne_eqb _ _ a, ne_eqb _ _ b, ne_eqb _ _ c)

  -- Where the total is 6 or more, step 1 is in step 3.
  six_within :
      (at l : ℕ) → 6 ≤ at + l + 2
      → if (ltb (length s) 6) frame_incomplete (framing_at s at l) ≡ framing_at s at l
  six_within at l h =
      picked (λ x. x ≡ framing_at s at l) (ltb (length s) 6)
      (λ e. sym (under_framing at l (omega (arith, ltb-true (length s) 6 e, h))))
      (λ e. refl)

  pub sd1_framing : (length s ≡ 0 → ⊥) → byte_at s 0 ≡ SD1 → framing_of s ≡ framing_at s 1 3
  unfolding framing_data
  sd1_framing h d = data_framing h (inl d) ∙ rw d (six_within 1 3 (omega arith))

  pub sd2_framing : (length s ≡ 0 → ⊥) → byte_at s 0 ≡ SD2 → framing_of s ≡ framing_long s
  unfolding framing_data framing_long
  sd2_framing h d = data_framing h (inr (inl d)) ∙ rw d

  pub sd3_framing : (length s ≡ 0 → ⊥) → byte_at s 0 ≡ SD3 → framing_of s ≡ framing_at s 1 11
  unfolding framing_data
  sd3_framing h d = data_framing h (inr (inr d)) ∙ rw d (six_within 1 11 (omega arith))

-- ---- reading is made from the frame

-- A pick under `reading_of`.
reading_pick : (s : List ℕ) (t : Bool) (a b : Framing) → reading_of s (if t a b) ≡ if t (reading_of s a) (reading_of s b)
reading_pick s true a b = refl
reading_pick s false a b = refl

module _ (s : List ℕ) where
  frame_reading : (at l : ℕ) → frame_of s at l ≡ reading_of s (framing_at s at l)
  unfolding frame_of framing_at
  frame_reading at l = sym (reading_pick s (ltb (length s) (at + l + 2)) frame_incomplete (frame_is (frame_at s at l)))

  lengths_reading : lengths_of s ≡ reading_of s (framing_lengths s)
  unfolding lengths_of framing_lengths
  lengths_reading =
      rw (frame_reading 4 (byte_at s 1))
      (sym
      (reading_pick s (not (eqb (byte_at s 1) (byte_at s 2))) (frame_refused 2)
      (if (ltb (byte_at s 1) 3) (frame_refused 3) (framing_at s 4 (byte_at s 1)))
      ∙ ap (λ x. if (not (eqb (byte_at s 1) (byte_at s 2))) (refused 2) x)
      (reading_pick s (ltb (byte_at s 1) 3) (frame_refused 3) (framing_at s 4 (byte_at s 1)))))

  data_reading : data_of s ≡ reading_of s (framing_data s)
  unfolding data_of framing_data
  data_reading =
      rw (frame_reading 1 3, frame_reading 1 11, lengths_reading)
      (sym
      (reading_pick s (ltb (length s) 6) frame_incomplete
      (if (eqb (byte_at s 0) SD1) (framing_at s 1 3) (if (eqb (byte_at s 0) SD2) (framing_lengths s) (framing_at s 1 11)))
      ∙ ap (λ x. if (ltb (length s) 6) incomplete x)
      (reading_pick s (eqb (byte_at s 0) SD1) (framing_at s 1 3) (if (eqb (byte_at s 0) SD2) (framing_lengths s) (framing_at s 1 11))
      ∙ ap (λ x. if (eqb (byte_at s 0) SD1) (reading_of s (framing_at s 1 3)) x)
      (reading_pick s (eqb (byte_at s 0) SD2) (framing_lengths s) (framing_at s 1 11)))))

  -- What begins with neither a confirmation nor a token is read from its frame.
  pub framed_read :
      (length s ≡ 0 → ⊥) → (byte_at s 0 ≡ SC → ⊥) → (byte_at s 0 ≡ SD4 → ⊥)
      → read_of s ≡ reading_of s (framing_of s)
  unfolding steps_of framing_of
  framed_read h a b =
      rw (steps_read s, ne_eqb _ _ h, ne_eqb _ _ a, ne_eqb _ _ b, data_reading)
      (sym (reading_pick s (starts_data (byte_at s 0)) (framing_data s) (frame_refused 1)))

-- ---- a frame that was found

-- What is known of a frame that was found in these bytes.
pub record FrameFits (s : List ℕ) (f : Frame) : Type 0 where
  pub start : DataStart (byte_at s 0)
  pub place_low : 1 ≤ f.at
  pub place_high : f.at ≤ 4
  pub long : 3 ≤ f.len
  pub counted : f.at + f.len + 2 ≡ f.total
  pub within : f.total ≤ length s
  pub coded : f.code ≡ byte_at s (f.at + 2)

module _ (s : List ℕ) (f : Frame) where
  abbrev Fits : Framing → Type 0
  Fits x = x ≡ frame_is f → FrameFits s f

  none_found : Fits frame_incomplete
  none_found e = absurd (zero_one cc)

  refused_found : (k : ℕ) → Fits (frame_refused k)
  refused_found k e = absurd (zero_one cc)

  at_found : (at l : ℕ) → DataStart (byte_at s 0) → 1 ≤ at → at ≤ 4 → 3 ≤ l → Fits (framing_at s at l)
  unfolding framing_at
  at_found at l d low high long =
      picked Fits (ltb (length s) (at + l + 2)) (λ u. none_found)
      (λ u e. let same : frame_at s at l ≡ f = cc in
      rw (← same)
      (record {
        start = d;
        place_low = low;
        place_high = high;
        long = long;
        counted = refl;
        within = ltb-false _ _ u;
        coded = refl;
      }))

  lengths_found : DataStart (byte_at s 0) → Fits (framing_lengths s)
  unfolding framing_lengths
  lengths_found d =
      picked Fits (not (eqb (byte_at s 1) (byte_at s 2))) (λ u. refused_found 2)
      (λ u. picked Fits (ltb (byte_at s 1) 3) (λ v. refused_found 3)
      (λ v. at_found 4 (byte_at s 1) d (omega arith) (omega arith) (ltb-false _ _ v)))

  data_found : DataStart (byte_at s 0) → Fits (framing_data s)
  unfolding framing_data
  data_found d =
      picked Fits (ltb (length s) 6) (λ u. none_found)
      (λ u. picked Fits (eqb (byte_at s 0) SD1) (λ v. at_found 1 3 d (omega arith) (omega arith) (omega arith))
      (λ v. picked Fits (eqb (byte_at s 0) SD2) (λ w. lengths_found d)
      (λ w. at_found 1 11 d (omega arith) (omega arith) (omega arith))))

  pub found_frame : framing_of s ≡ frame_is f → FrameFits s f
  unfolding framing_of
  found_frame =
      picked Fits (eqb (length s) 0) (λ u. none_found)
      (λ u. picked Fits (starts_data (byte_at s 0)) (λ v. data_found (starts_true _ v)) (λ v. refused_found 1))

  -- What the reader's next step asks of it.
  pub found_long : frame_is f ≡ framing_of s → 3 ≤ f.len
  found_long e = (found_frame (sym e)).long

  pub found_within : frame_is f ≡ framing_of s → f.at + f.len + 2 ≤ length s
  found_within e = let fits = found_frame (sym e) in omega (arith, fits.counted, fits.within)

  -- Where a frame was found, it is read: from step 4 on.
  pub frame_reads :
      framing_of s ≡ frame_is f
      → read_of s ≡ code_of s f.at f.len (function_code_of f.code)
  frame_reads e =
      let fits = found_frame e in
      let some : length s ≡ 0 → ⊥ = λ z. omega (arith, fits.within, fits.counted) in
      data_start s some fits.start ∙ data_reading s ∙ ap (reading_of s) (sym (data_framing s some fits.start) ∙ e)

  -- It is sealed where its last two bytes are the checksum and the end delimiter.
  pub sealed_found :
      FrameFits s f
      → sealed_of f s
      ≡ if (eqb (byte_at s (f.at + f.len + 1)) ED)
      (eqb (byte_at s (f.at + f.len)) (checksum_of (part s f.at (f.at + f.len)))) false
  unfolding sealed_of
  sealed_found fits = rw (le-ltb (length s) (f.at + f.len + 2) (omega (arith, fits.counted, fits.within)))

-- A data telegram that is read has a frame, of its length.
pub record DataFramed (s : List ℕ) (n : ℕ) : Type 0 where
  pub frame : Frame
  pub found : framing_of s ≡ frame_is frame
  pub total : n ≡ frame.total

framed_of : {s : List ℕ} {d : DataTelegram} {n : ℕ} → Answered s (whole (Data d) n) → DataFramed s n
framed_of {s} (sd1 h q (code_known fc g e c)) =
    record { frame = frame_at s 1 3; found = sd1_framing s (λ z. omega arith) q ∙ total_framing s 1 3 g; total = whole_length fc c }
framed_of {s} (sd2 h q same l (code_known fc g e c)) =
    record {
      frame = frame_at s 4 (byte_at s 1);
      found = sd2_framing s (λ z. omega arith) q ∙ lengths_framing s h same l ∙ total_framing s 4 (byte_at s 1) g;
      total = whole_length fc c;
    }
framed_of {s} (sd3 h q (code_known fc g e c)) =
    record { frame = frame_at s 1 11; found = sd3_framing s (λ z. omega arith) q ∙ total_framing s 1 11 g; total = whole_length fc c }

pub data_framed : (s : List ℕ) {d : DataTelegram} {n : ℕ} → read_of s ≡ whole (Data d) n → DataFramed s n
data_framed s e = framed_of (reason s e)

-- A data telegram that is read where a frame was found is that frame's, under the code of its byte, and sealed.
pub record FramedData (s : List ℕ) (f : Frame) (d : DataTelegram) (n : ℕ) : Type 0 where
  pub code : FunctionCode
  pub is : d ≡ telegram_at s f.at f.len code
  pub total : n ≡ f.total
  pub sealed : sealed_of f s ≡ true

module _ (s : List ℕ) (f : Frame) where
  content_data :
      FrameFits s f → (fc : FunctionCode) {d : DataTelegram} {n : ℕ} → Content s f.at f.len fc (whole (Data d) n)
      → FramedData s f d n
  content_data fits fc (content_whole h a b) =
      record {
        code = fc;
        is = refl;
        total = fits.counted;
        sealed = sealed_found s f fits ∙ rw (eq-eqb _ _ b, eq-eqb _ _ a);
      }

  code_data :
      FrameFits s f → (x : Option FunctionCode) {d : DataTelegram} {n : ℕ} → code_of s f.at f.len x ≡ whole (Data d) n
      → FramedData s f d n
  code_data fits (Some fc) e = content_data fits fc (rw e at (content_answered s f.at f.len fc))
  code_data fits None e = absurd (zero_one cc)

  pub framed_data : framing_of s ≡ frame_is f → {d : DataTelegram} {n : ℕ} → read_of s ≡ whole (Data d) n → FramedData s f d n
  framed_data e q = code_data (found_frame s f e) (function_code_of f.code) (sym (frame_reads s f e) ∙ q)

  -- The other way: a sealed frame with room for its SAPs is read, where its byte is one of a code.
  pub sealed_reads :
      framing_of s ≡ frame_is f → sealed_of f s ≡ true → 3 + saps_at s f.at ≤ f.len
      → (fc : FunctionCode) → function_code_of f.code ≡ Some fc
      → read_of s ≡ whole (Data (telegram_at s f.at f.len fc)) f.total
  sealed_reads e sealed saps fc known =
      let fits = found_frame s f e in
      let last = eqb (byte_at s (f.at + f.len + 1)) ED in
      let sum = eqb (byte_at s (f.at + f.len)) (checksum_of (part s f.at (f.at + f.len))) in
      let both : if last sum false ≡ true = sym (sealed_found s f fits) ∙ sealed in
      frame_reads s f e ∙ ap (code_of s f.at f.len) known
      ∙ answer_content (content_whole saps (eqb-true _ _ (both_second last sum both)) (eqb-true _ _ (both_first last sum both)))
      ∙ ap (whole (Data (telegram_at s f.at f.len fc))) fits.counted
