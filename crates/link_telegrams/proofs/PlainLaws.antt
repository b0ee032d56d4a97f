-- What heard bytes are to a station, judged on their frame: a law for each way through the code that looks at it. Read `ours` first; the
-- other laws say when the bytes are nothing to the station.
use Rattle.std.proofs.Common.{None, Option, Some}
use Prim.Native.Nat.{ℕ, ◌+◌, ◌-◌, ◌%◌, ◌<◌, ◌≤◌}
use mathlib.Core.Bool.{Bool, true, false}
use mathlib.Core.List.{List}
use mathlib.Core.Path.{◌≡◌, refl, sym, ◌∙◌}
use native.Mathlib.Nat.{add-zero}
use native.Mathlib.Omega.{arith}
use lib.Dec.{eqb}
use lib.ListN.{length}
use borrow.Author.Tests.{eq-eqb, ne_eqb, le-leb, lt-leb, leb-true, leb-false}
use Rattle.codes.specs.FunctionCodes.{function_code_of}
use Rattle.codes.specs.declared.function_code.FunctionCode.{FunctionCode}
use Rattle.ground.proofs.Injective.{zero_one}
use Rattle.ground.proofs.PickLaws.{picked}
use Rattle.ground.specs.Part.{byte_at}
use Rattle.ground.specs.declared.address.Address.{Address}
use Rattle.link_telegrams.specs.Heard.{no_data, absent, is_to, data_in, read_in, data_to_of}
use Rattle.link_telegrams.specs.Leaves.{decoded_as}
use Rattle.telegram.proofs.FrameLaws.{found_frame, frame_reads, data_framed, framed_data, sealed_reads}
use Rattle.telegram.specs.Frames.{frame_is, frame_incomplete, frame_refused, framing_of, sealed_of}
use Rattle.telegram.specs.Reading.{Reading, whole, incomplete, refused, top, sap_at, header_at, saps_at, read_of}
use Rattle.telegram.specs.declared.frame.Frame.{Frame}
use Rattle.telegram.specs.declared.kinds.DataTelegram.{DataTelegram}
use Rattle.telegram.specs.declared.kinds.Telegram.TheVariants.{Data, Token, ShortConfirmation}

-- ---- the header whose da stands at a place: an address byte above 127 announces a SAP

module _ (own : Address) (s : List ℕ) (at : ℕ) (fc : FunctionCode) where
  abbrev NotTo : Bool → Type 0
  NotTo t = t ≡ false

  dsap_named : 128 ≤ byte_at s at → is_to (header_at s at fc) own ≡ false
  unfolding header_at
  dsap_named h = rw (le-leb 128 (byte_at s at) h) (picked NotTo (eqb (byte_at s at % 128) own.0) (λ e. refl) (λ e. refl))

  ssap_named : 128 ≤ byte_at s (at + 1) → is_to (header_at s at fc) own ≡ false
  unfolding header_at
  ssap_named h =
      rw (le-leb 128 (byte_at s (at + 1)) h)
      (picked NotTo (eqb (byte_at s at % 128) own.0)
      (λ e. picked NotTo (absent (sap_at (top (byte_at s at)) s (at + 3))) (λ u. refl) (λ u. refl))
      (λ e. refl))

  other_by_top : (byte_at s at ≡ own.0 → ⊥) → (t : Bool) → top (byte_at s at) ≡ t → is_to (header_at s at fc) own ≡ false
  unfolding header_at
  other_by_top d true e = dsap_named (leb-true 128 (byte_at s at) e)
  other_by_top d false e =
      rw (ne_eqb (byte_at s at % 128) own.0 (λ same. d (omega (arith, same, leb-false 128 (byte_at s at) e))))

  other_named : (byte_at s at ≡ own.0 → ⊥) → is_to (header_at s at fc) own ≡ false
  other_named d = other_by_top d (top (byte_at s at)) refl

  module _ (low-da : byte_at s at < 128) (low-sa : byte_at s (at + 1) < 128) where
    own_named : byte_at s at ≡ own.0 → is_to (header_at s at fc) own ≡ true
    unfolding header_at
    own_named e =
        rw (
          lt-leb 128 (byte_at s at) low-da,
          lt-leb 128 (byte_at s (at + 1)) low-sa,
          eq-eqb (byte_at s at % 128) own.0 (omega (arith, e)),
        )

    sender_named : (header_at s at fc).sa ≡ record { 0 = byte_at s (at + 1) }
    unfolding header_at
    sender_named =
        let same : byte_at s (at + 1) % 128 ≡ byte_at s (at + 1) = omega arith in
        rw same

    no_saps : saps_at s at ≡ 0
    unfolding saps_at
    no_saps = rw (lt-leb 128 (byte_at s at) low-da, lt-leb 128 (byte_at s (at + 1)) low-sa)

-- ---- the heard bytes

module _ (own : Address) (s : List ℕ) where
  -- They are nothing where each data telegram that might be read of them is.
  nothing_of :
      ((d : DataTelegram) (n : ℕ) → read_of s ≡ whole (Data d) n → data_in (length s) n own (Data d) ≡ no_data)
      → data_to_of own s ≡ no_data
  unfolding data_to_of
  nothing_of f = by_reading (read_of s) refl
    where
      by_reading : (r : Reading) → read_of s ≡ r → read_in (length s) own r ≡ no_data
      by_reading (whole (Data d) n) e = f d n e
      by_reading (whole (Token t) n) e = refl
      by_reading (whole ShortConfirmation n) e = refl
      by_reading incomplete e = refl
      by_reading (refused k) e = refl

  no_frame : ((f : Frame) → framing_of s ≡ frame_is f → ⊥) → data_to_of own s ≡ no_data
  no_frame none = nothing_of (λ d n e. let framed = data_framed s e in absurd (none framed.frame framed.found))

  pub cut : framing_of s ≡ frame_incomplete → data_to_of own s ≡ no_data
  cut e = no_frame (λ f is. let z : frame_incomplete ≡ frame_is f = sym e ∙ is in zero_one cc)

  pub no_start : {k : ℕ} → framing_of s ≡ frame_refused k → data_to_of own s ≡ no_data
  no_start {k} e = no_frame (λ f is. let z : frame_refused k ≡ frame_is f = sym e ∙ is in zero_one cc)

  module _ (f : Frame) (found : framing_of s ≡ frame_is f) where
    -- A frame that was found lies within the bytes.
    pub found_long : 3 ≤ f.len
    found_long = (found_frame s f found).long

    pub found_within : f.at + f.len + 2 ≤ length s
    found_within = let fits = found_frame s f found in omega (arith, fits.counted, fits.within)

    pub not_filling : (f.at + f.len + 2 ≡ length s → ⊥) → data_to_of own s ≡ no_data
    not_filling d =
        nothing_of
        (λ t n e. rw ((framed_data s f found e).total, ne_eqb f.total (length s) (λ q. d ((found_frame s f found).counted ∙ q))))

    not_to : ((fc : FunctionCode) → is_to (header_at s f.at fc) own ≡ false) → data_to_of own s ≡ no_data
    not_to other =
        nothing_of (λ t n e. let framed = framed_data s f found e in
        rw (framed.is, other framed.code) (picked (λ x. x ≡ no_data) (eqb n (length s)) (λ u. refl) (λ u. refl)))

    pub other_da : (byte_at s f.at ≡ own.0 → ⊥) → data_to_of own s ≡ no_data
    other_da d = not_to (λ fc. other_named own s f.at fc d)

    pub with_dsap : 127 < byte_at s f.at → data_to_of own s ≡ no_data
    with_dsap h = not_to (λ fc. dsap_named own s f.at fc h)

    pub with_ssap : 127 < byte_at s (f.at + 1) → data_to_of own s ≡ no_data
    with_ssap h = not_to (λ fc. ssap_named own s f.at fc h)

    pub not_sealed : sealed_of f s ≡ false → data_to_of own s ≡ no_data
    not_sealed e =
        nothing_of (λ t n q. let z : true ≡ false = sym (framed_data s f found q).sealed ∙ e in absurd (zero_one cc))

    -- a telegram to the station, under the code of its byte if that is one
    module _
        (fills : f.at + f.len + 2 ≡ length s) (to : byte_at s f.at ≡ own.0)
        (low-da : byte_at s f.at ≤ 127) (low-sa : byte_at s (f.at + 1) ≤ 127) (sealed : sealed_of f s ≡ true)
      where
        by_code :
            (x : Option FunctionCode) → function_code_of f.code ≡ x
            → data_to_of own s
            ≡ decoded_as (record { 0 = byte_at s (f.at + 1) }) (record { start = f.at + 3; len = f.len - 3 }) x
        unfolding data_to_of header_at
        by_code (Some fc) e =
            let da : byte_at s f.at < 128 = omega arith in
            let sa : byte_at s (f.at + 1) < 128 = omega arith in
            let saps = no_saps own s f.at fc da sa in
            let read = sealed_reads s f found sealed (omega (arith, saps, (found_frame s f found).long)) fc e in
            rw (
              read,
              eq-eqb f.total (length s) (sym (found_frame s f found).counted ∙ fills),
              own_named own s f.at fc da sa to,
              sender_named own s f.at fc da sa,
              saps,
              add-zero (f.at + 3),
            )
        by_code None e = rw (frame_reads s f found, e)

        pub ours :
            data_to_of own s
            ≡ decoded_as (record { 0 = byte_at s (f.at + 1) }) (record { start = f.at + 3; len = f.len - 3 })
            (function_code_of f.code)
        ours = by_code (function_code_of f.code) refl

-- Each way through the code that looks at a frame, and what it knows of the frame.
pub ruleset frame_cases = (found_long, found_within, not_filling, other_da, with_dsap, with_ssap, not_sealed, ours)

-- The other ways: no frame was found.
pub ruleset no_frame_cases = (cut, no_start)
