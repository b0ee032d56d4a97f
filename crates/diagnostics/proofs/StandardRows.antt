-- The standard's rows and document 01's: every row of the standard is one of document 01 (`standard_row`); a row of document 01 is the
-- standard's, or lies beyond it in one of the points that specs/Blocks.antt names (`row_or_beyond`), and never both (`never_both`).
use Prim.Native.Nat.{ℕ, ◌≤◌}
use mathlib.Core.Bool.{Bool, true, false}
use mathlib.Core.List.{List, [], ◌∷◌}
use mathlib.Core.Logic.{◌⊎◌, inl, inr, ⊎_elim}
use mathlib.Core.Path.{◌≡◌, refl, sym, ap, ◌∙◌}
use native.Mathlib.Decide.{dec_le}
use native.Mathlib.Omega.{arith}
use Rattle.diagnostics_blocks.proofs.Numbers.{Sort, is_named, is_reserved, is_vendor, sort}
use Rattle.diagnostics_blocks.specs.Channel.{Channel, error_number, error_of, reserved}
use Rattle.diagnostics.specs.Blocks.{Block, BlockBeyond, BlocksSay, ChannelFits, RowBeyond, RowSays, Says, TypeRead, channel, channel_says, device, device_says, document01, empty_device, empty_identifier, error_reserved, here, identifier, identifiers, identifier_says, itself, later, no_block, no_direction, one_more, second_identifier, standard, type_invalid, zero_invalid}
use Rattle.diagnostics.proofs.Steps.{clash}

-- ---- every row of the standard is one of document 01

type_wider : {bits t : ℕ} → standard.type_may_be bits t → TypeRead bits t
type_wider {bits} {t} e = rw e.0 (itself {t = t} e.1 (omega arith))

error_wider : (n : ℕ) → standard.error_may_be n → n ≤ 31
error_wider n (inl named) = omega arith
error_wider n (inr vendor) = vendor.1

says_wider : {x : List ℕ} {b : Block} → Says standard x b → Says document01 x b
says_wider (identifier_says fits) = identifier_says fits.1
says_wider (device_says fits) = device_says fits.1
says_wider (channel_says fits) =
    channel_says
    (record {
      module_bits = fits.module_bits;
      channel_bits = fits.channel_bits;
      direction = tt;
      type_is = type_wider fits.type_is;
      error_is = error_wider _ fits.error_is;
      error_sort = fits.error_sort;
    })

blocks_wider : {s : List ℕ} {bs : List Block} → BlocksSay standard s bs → BlocksSay document01 s bs
blocks_wider no_block = no_block
blocks_wider (one_more says more) = one_more (says_wider says) (blocks_wider more)

pub standard_row : {s : List ℕ} {bs : List Block} → RowSays standard s bs → RowSays document01 s bs
standard_row row = record { says = blocks_wider row.says; together = tt }

-- ---- a row of document 01 is the standard's, or lies beyond it

type_or_seven : {bits t : ℕ} → TypeRead bits t → standard.type_may_be bits t ⊎ (t ≡ 7)
type_or_seven (itself {t} least most) = by (dec_le t 6)
  where
    by : Dec (t ≤ 6) → standard.type_may_be t t ⊎ (t ≡ 7)
    by (yes h) = inl (refl, least, omega arith)
    by (no h) = inr (omega arith)
type_or_seven zero_invalid = inr refl

error_or_reserved : {n : ℕ} → n ≤ 31 → Sort n → standard.error_may_be n ⊎ (error_of n ≡ reserved n)
error_or_reserved most (is_named low high e) = inl (inl (low, high))
error_or_reserved most (is_reserved _ _ e) = inr e
error_or_reserved most (is_vendor low e) = inl (inr (low, most))

direction_or_none : (input output : Bool) → standard.direction_may_be input output ⊎ ((input ≡ false) × (output ≡ false))
direction_or_none true output = inl (inl refl)
direction_or_none false true = inl (inr refl)
direction_or_none false false = inr (refl, refl)

fits_or_beyond : {bits : ℕ} {c : Channel} → ChannelFits document01 bits c → ChannelFits standard bits c ⊎ BlockBeyond (channel c)
fits_or_beyond {bits} {c} fits =
    ⊎_elim
    (λ type. ⊎_elim
    (λ error. ⊎_elim
    (λ direction. inl
    (record {
      module_bits = fits.module_bits;
      channel_bits = fits.channel_bits;
      direction = direction;
      type_is = type;
      error_is = error;
      error_sort = fits.error_sort;
    }))
    (λ none. inr (no_direction none.0 none.1))
    (direction_or_none c.input c.output))
    (λ error. inr (error_reserved (sym fits.error_sort ∙ error)))
    (error_or_reserved fits.error_is (sort _)))
    (λ seven. inr (type_invalid seven))
    (type_or_seven fits.type_is)

says_or_beyond : {x : List ℕ} {b : Block} → Says document01 x b → Says standard x b ⊎ BlockBeyond b
says_or_beyond (identifier_says {body = []} short) = inr empty_identifier
says_or_beyond (identifier_says {body = y ∷ ys} short) = inl (identifier_says {body = y ∷ ys} (omega arith, short))
says_or_beyond (device_says {body = []} short) = inr empty_device
says_or_beyond (device_says {body = y ∷ ys} short) = inl (device_says {body = y ∷ ys} (omega arith, short))
says_or_beyond (channel_says fits) = ⊎_elim (λ f. inl (channel_says f)) inr (fits_or_beyond fits)

blocks_or_beyond : {s : List ℕ} {bs : List Block} → BlocksSay document01 s bs → BlocksSay standard s bs ⊎ RowBeyond bs
blocks_or_beyond no_block = inl no_block
blocks_or_beyond (one_more says more) =
    ⊎_elim (λ x. ⊎_elim (λ xs. inl (one_more x xs)) (λ beyond. inr (later beyond)) (blocks_or_beyond more)) (λ beyond. inr (here beyond)) (says_or_beyond says)

-- A row by document 01 is the standard's, or has a block beyond it: of type 0 or 7, with a reserved error, with no direction, with an empty body;
-- or a second identifier block. There is no further point.
pub row_or_beyond : {s : List ℕ} {bs : List Block} → RowSays document01 s bs → RowSays standard s bs ⊎ RowBeyond bs
row_or_beyond {s} {bs} row = ⊎_elim (λ says. by says (dec_le (identifiers bs) 1)) inr (blocks_or_beyond row.says)
  where
    by : BlocksSay standard s bs → Dec (identifiers bs ≤ 1) → RowSays standard s bs ⊎ RowBeyond bs
    by says (yes h) = inl (record { says = says; together = h })
    by says (no h) = inr (second_identifier {bs = bs} (omega arith))

-- ---- never both

sort_clash : {n : ℕ} → standard.error_may_be n → Sort n → error_of n ≡ reserved n → ⊥
sort_clash may (is_named _ _ e) is = clash (cc)
sort_clash (inl may) (is_reserved low gap e) is = omega (arith, gap may.0)
sort_clash (inr may) (is_reserved low gap e) is = omega arith
sort_clash may (is_vendor _ e) is = clash (cc)

no_direction_lem : {input output : Bool} → standard.direction_may_be input output → input ≡ false → output ≡ false → ⊥
no_direction_lem (inl e) f g = clash (cc)
no_direction_lem (inr e) f g = clash (cc)

block_never : {x : List ℕ} {b : Block} → Says standard x b → BlockBeyond b → ⊥
block_never (identifier_says fits) empty_identifier = omega arith
block_never (device_says fits) empty_device = omega arith
block_never (channel_says fits) (type_invalid seven) = omega (arith, fits.type_is.2)
block_never (channel_says {c} fits) (error_reserved {n = n} e) =
    let number : error_number c.error ≡ n = ap error_number e in
    sort_clash (rw number at fits.error_is) (sort n) (rw number at fits.error_sort ∙ e)
block_never (channel_says fits) (no_direction e f) = no_direction_lem fits.direction e f

one_less : (b : Block) (bs : List Block) → identifiers bs ≤ identifiers (b ∷ bs)
one_less (identifier body) bs = omega arith
one_less (device body) bs = omega arith
one_less (channel c) bs = omega arith

blocks_never : {s : List ℕ} {bs : List Block} → BlocksSay standard s bs → identifiers bs ≤ 1 → RowBeyond bs → ⊥
blocks_never (one_more says more) few (here beyond) = block_never says beyond
blocks_never (one_more {b = b} {bs} says more) few (later beyond) = blocks_never more (omega (arith, one_less b bs)) beyond
blocks_never says few (second_identifier many) = omega arith

pub never_both : {s : List ℕ} {bs : List Block} → RowSays standard s bs → RowBeyond bs → ⊥
never_both row beyond = blocks_never row.says row.together beyond
