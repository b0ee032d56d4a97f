-- A step at a header, by its kind: what the definition comes to where the kind is known.
use mathlib.Core.Path.{◌≡◌}
use mathlib.Core.List.{List}
use Prim.Native.Nat.{ℕ, ◌+◌, ◌-◌, ◌/◌, ◌%◌, ◌≤◌, ◌<◌}
use native.Mathlib.Omega.{arith}
use borrow.Author.Tests.{eq-eqb, ne_eqb, le-ltb, lt-ltb}
use lib.ListN.{length}
use Rattle.ground.specs.Part.{byte_at}
use Rattle.diagnostics_blocks.specs.Channel.{channel_of}
use Rattle.diagnostics.specs.Walk.{block, block_at, channel_is, device_at, headed_by, identifier_at, length_of, refused_at}

pub length_channel : (header : ℕ) → header / 64 ≡ 2 → length_of header ≡ 3
unfolding length_of
length_channel header h = rw (eq-eqb _ _ h)

pub length_sized : (header : ℕ) → (header / 64 ≡ 2 → ⊥) → length_of header ≡ header % 64
unfolding length_of
length_sized header h = rw (ne_eqb _ _ h)

pub length_identifier : (header : ℕ) → header / 64 ≡ 1 → length_of header ≡ header % 64
length_identifier header h = length_sized header (λ e. omega arith)

module _ (s : List ℕ) (at header : ℕ) where
  pub block_identifier : header / 64 ≡ 1 → block_at s at header ≡ identifier_at (at + 1) (header % 64 - 1)
  unfolding block_at
  block_identifier one = rw (eq-eqb _ _ one)

  pub block_channel : header / 64 ≡ 2 → block_at s at header ≡ channel_is (channel_of header (byte_at s (at + 1)) (byte_at s (at + 2)))
  unfolding block_at
  block_channel two = rw (ne_eqb (header / 64) 1 (λ e. omega arith), eq-eqb _ _ two)

  pub block_device : (header / 64 ≡ 1 → ⊥) → (header / 64 ≡ 2 → ⊥) → block_at s at header ≡ device_at (at + 1) (header % 64 - 1)
  unfolding block_at
  block_device other another = rw (ne_eqb _ _ other, ne_eqb _ _ another)

  pub headed_reserved : header / 64 ≡ 3 → headed_by s at header ≡ refused_at 13 (length s)
  unfolding headed_by
  headed_reserved three = rw (eq-eqb _ _ three)

  module _ (kind : header / 64 ≡ 3 → ⊥) where
    pub headed_zero : length_of header ≡ 0 → headed_by s at header ≡ refused_at 14 (length s)
    unfolding headed_by
    headed_zero none = rw (ne_eqb _ _ kind, eq-eqb _ _ none)

    module _ (some : length_of header ≡ 0 → ⊥) where
      pub headed_cut : length s < at + length_of header → headed_by s at header ≡ refused_at 12 (length s)
      unfolding headed_by
      headed_cut cut = rw (ne_eqb _ _ kind, ne_eqb _ _ some, lt-ltb _ _ cut)

      pub headed_block : at + length_of header ≤ length s
          → headed_by s at header ≡ record { answer = block (block_at s at header); cursor = at + length_of header }
      unfolding headed_by
      headed_block fits = rw (ne_eqb _ _ kind, ne_eqb _ _ some, le-ltb _ _ fits)

  -- a block that says its length: the low six bits
  module _ (kind : header / 64 < 2) where
    sized : length_of header ≡ header % 64
    sized = length_sized header (λ e. omega arith)

    pub sized_zero : header % 64 ≡ 0 → headed_by s at header ≡ refused_at 14 (length s)
    sized_zero none = headed_zero (λ e. omega arith) (rw sized none)

    pub sized_cut : (header % 64 ≡ 0 → ⊥) → length s < at + header % 64 → headed_by s at header ≡ refused_at 12 (length s)
    sized_cut some cut = headed_cut (λ e. omega arith) (rw sized some) (rw sized cut)

    pub sized_whole : (header % 64 ≡ 0 → ⊥) → at + header % 64 ≤ length s
        → headed_by s at header ≡ record { answer = block (block_at s at header); cursor = at + header % 64 }
    sized_whole some fits = rw sized at (headed_block (λ e. omega arith) (rw sized some) (rw sized fits))

  -- a channel block: three bytes
  module _ (kind : header / 64 ≡ 2) where
    three : length_of header ≡ 3
    three = length_channel header kind

    pub channel_cut : length s < at + 3 → headed_by s at header ≡ refused_at 12 (length s)
    channel_cut cut = headed_cut (λ e. omega arith) (λ e. omega (arith, three)) (rw three cut)

    pub channel_whole : at + 3 ≤ length s
        → headed_by s at header ≡ record { answer = block (channel_is (channel_of header (byte_at s (at + 1)) (byte_at s (at + 2)))); cursor = at + 3 }
    channel_whole fits = rw (three, block_channel kind) at (headed_block (λ e. omega arith) (λ e. omega (arith, three)) (rw three fits))
