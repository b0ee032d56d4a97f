-- The kinds of a block by its header, and where the body of a block that was found lies: `body_within`.
use mathlib.Core.Path.{◌≡◌}
use mathlib.Core.List.{List}
use Prim.Native.Nat.{ℕ, ◌+◌, ◌-◌, ◌/◌, ◌%◌, ◌≤◌}
use native.Mathlib.Decide.{ℕ_discrete}
use native.Mathlib.Omega.{arith}
use lib.ListN.{length}
use Rattle.ground.specs.Part.{byte_at}
use Rattle.diagnostics_blocks.specs.Channel.{channel_of}
use Rattle.diagnostics.specs.Meaning.{BodyOf, BodyWithin, of_device, of_identifier}
use Rattle.diagnostics.specs.Walk.{PlacedBlock, block, block_at, channel_is, device_at, identifier_at, length_of, step_of}
use Rattle.diagnostics.proofs.Headers.{block_channel, block_device, block_identifier, length_channel, length_identifier, length_sized}
use Rattle.diagnostics.proofs.Steps.{StepCase, clash, ended, found, step_case, refusal}

-- the three kinds of a block
pub data Kind (s : List ℕ) (at header : ℕ) : Type 0 where
  identifier_kind : header / 64 ≡ 1 → length_of header ≡ header % 64 → block_at s at header ≡ identifier_at (at + 1) (header % 64 - 1)
      → Kind s at header
  channel_kind : header / 64 ≡ 2 → length_of header ≡ 3
      → block_at s at header ≡ channel_is (channel_of header (byte_at s (at + 1)) (byte_at s (at + 2)))
      → Kind s at header
  device_kind : (header / 64 ≡ 1 → ⊥) → (header / 64 ≡ 2 → ⊥) → length_of header ≡ header % 64
      → block_at s at header ≡ device_at (at + 1) (header % 64 - 1)
      → Kind s at header

module _ (s : List ℕ) (at header : ℕ) where
  kind_by : Dec (header / 64 ≡ 1) → Dec (header / 64 ≡ 2) → Kind s at header
  kind_by (yes one) d = identifier_kind one (length_identifier header one) (block_identifier s at header one)
  kind_by (no other) (yes two) = channel_kind two (length_channel header two) (block_channel s at header two)
  kind_by (no other) (no another) = device_kind other another (length_sized header another) (block_device s at header other another)

  pub kind : Kind s at header
  kind = kind_by (ℕ_discrete _ _) (ℕ_discrete _ _)

module _ (s : List ℕ) (at header : ℕ) (e : (step_of s at).cursor ≡ at + length_of header) (some : 1 ≤ length_of header) (fits : at + length_of header ≤ length s) where
  -- the low six bits give a body of at most 62 bytes behind the header
  sized_within : length_of header ≡ header % 64 → (start size : ℕ) → start ≡ at + 1 → size ≡ header % 64 - 1 → BodyWithin s at start size
  sized_within len start size from long = record { behind = from; up_to = rw e (omega arith); within = omega arith; short = omega arith }

  kind_within : Kind s at header → {p : PlacedBlock} {start size : ℕ} → block_at s at header ≡ p → BodyOf p start size
      → BodyWithin s at start size
  kind_within (identifier_kind _ len is) q of_identifier = sized_within len _ _ (cc) (cc)
  kind_within (identifier_kind _ len is) q of_device = clash (cc)
  kind_within (channel_kind _ len is) q of_identifier = clash (cc)
  kind_within (channel_kind _ len is) q of_device = clash (cc)
  kind_within (device_kind _ _ len is) q of_identifier = clash (cc)
  kind_within (device_kind _ _ len is) q of_device = sized_within len _ _ (cc) (cc)

within_by : {s : List ℕ} {at : ℕ} → StepCase s at → {p : PlacedBlock} {start size : ℕ} → (step_of s at).answer ≡ block p → BodyOf p start size
    → BodyWithin s at start size
within_by (ended _ e) q b = clash (cc)
within_by (refusal _ n _ e) q b = clash (cc)
within_by {s} {at} (found _ _ some fits e) {p} q b =
    let placed : block_at s at (byte_at s at) ≡ p = cc in
    kind_within s at _ (rw e) some fits (kind s at (byte_at s at)) placed b

-- the body of a block that a step finds lies within what is walked, between the header and where the walk goes on
pub body_within : (s : List ℕ) (at : ℕ) (p : PlacedBlock) (start size : ℕ) → (step_of s at).answer ≡ block p → BodyOf p start size
    → BodyWithin s at start size
body_within s at p start size q b = within_by (step_case s at) q b
