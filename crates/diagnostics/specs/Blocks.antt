-- A diagnostics buffer as a row of blocks: which bytes are a block, and which blocks are a row. Nothing here knows how a reader goes about it.
-- Read `Says` and `RowSays`, over `standard` and `document01`.
--
-- The standard's (EN 50170 part 2; from general knowledge of it, its text was not at hand) are the three kinds of blocks, their headers, the bits
-- of a channel's three bytes, and what `standard` lets stand in five places. Document 01's, as the Rust reads, is `document01`, which is wider in
-- the points of `BlockBeyond` and `RowBeyond` and in no others (proofs/StandardRows.antt: `row_or_beyond`).
use Rattle.std.specs.Prelude.{ℕ, suc, ◌+◌, ◌*◌, ◌≤◌, ◌<◌, Bool, true, false, List, [], ◌∷◌, ◌++◌, ◌⊎◌, ◌≡◌, length}
use Rattle.ground.specs.Bits.{digit}
use Rattle.diagnostics_blocks.specs.Channel.{Channel, error_of, error_number, reserved}

-- one block, with the bytes of its body
pub data Block : Type 0 where
  identifier : List ℕ → Block
  device : List ℕ → Block
  channel : Channel → Block

-- how many blocks of a row are identifier blocks
abbrev pub identifiers : List Block → ℕ
identifiers [] = 0
identifiers (identifier body ∷ bs) = suc (identifiers bs)
identifiers (device body ∷ bs) = identifiers bs
identifiers (channel c ∷ bs) = identifiers bs

-- ---- what may stand where

-- What may stand in five places.
pub record Rules : Type 1 where
  -- how long the body of an identifier or device block is; its header says one more, in six bits
  pub body_may_be : ℕ → Type 0
  -- a channel's direction: whether input, whether output
  pub direction_may_be : Bool → Bool → Type 0
  -- the type bits of a channel, and the type that they say
  pub type_may_be : ℕ → ℕ → Type 0
  -- the number of a channel's error
  pub error_may_be : ℕ → Type 0
  -- the blocks of a row together
  pub row_may_be : List Block → Type 0

-- The standard: a block of length 2 to 63; input, output or both; types 1 to 6; errors 1 to 9, and 16 to 31 the maker's; at most one
-- identifier block.
abbrev pub standard : Rules
standard =
    record {
      body_may_be = λ n. (1 ≤ n) × (n ≤ 62);
      direction_may_be = λ input output. (input ≡ true) ⊎ (output ≡ true);
      type_may_be = λ bits t. (bits ≡ t) × (1 ≤ t) × (t ≤ 6);
      error_may_be = λ n. ((1 ≤ n) × (n ≤ 9)) ⊎ ((16 ≤ n) × (n ≤ 31));
      row_may_be = λ bs. identifiers bs ≤ 1;
    }

-- Document 01: "top three bits type, 0 and 7 both Invalid"; Invalid is 7.
pub data TypeRead : ℕ → ℕ → Type 0 where
  itself : {t : ℕ} → 1 ≤ t → t ≤ 7 → TypeRead t t
  zero_invalid : TypeRead 0 7

-- Document 01: a block of the header alone too; no direction; every type; every error of five bits; any blocks together.
abbrev pub document01 : Rules
document01 =
    record {
      body_may_be = λ n. n ≤ 62;
      direction_may_be = λ input output. Unit;
      type_may_be = TypeRead;
      error_may_be = λ n. n ≤ 31;
      row_may_be = λ bs. Unit;
    }

-- ---- the bytes of a block

-- first byte top two bits 10, the low six bits the module
abbrev pub first_byte : Channel → ℕ
first_byte c = 128 + c.module_no

-- second byte bit 6 input, bit 7 output, the low six bits the channel
abbrev pub second_byte : Channel → ℕ
second_byte c = 128 * digit c.output + 64 * digit c.input + c.channel_no

-- third byte top three bits type, low five bits error
abbrev pub third_byte : ℕ → Channel → ℕ
third_byte bits c = 32 * bits + error_number c.error

-- A channel that these type bits say: module and channel are six bits, and an error is of the sort that its number has.
pub record ChannelFits (rules : Rules) (bits : ℕ) (c : Channel) : Type 0 where
  pub module_bits : c.module_no < 64
  pub channel_bits : c.channel_no < 64
  pub direction : rules.direction_may_be c.input c.output
  pub type_is : rules.type_may_be bits c.dtype
  pub error_is : rules.error_may_be (error_number c.error)
  pub error_sort : error_of (error_number c.error) ≡ c.error

-- These bytes are this block. Top two header bits: 01 identifier, 00 device: the low six bits are the length, header included; 10 channel,
-- 3 bytes; 11 is no block's.
pub data Says (rules : Rules) : List ℕ → Block → Type 0 where
  identifier_says : {body : List ℕ} → rules.body_may_be (length body) → Says rules ((64 + suc (length body)) ∷ body) (identifier body)
  device_says : {body : List ℕ} → rules.body_may_be (length body) → Says rules (suc (length body) ∷ body) (device body)
  channel_says : {c : Channel} {bits : ℕ} → ChannelFits rules bits c
      → Says rules (first_byte c ∷ second_byte c ∷ third_byte bits c ∷ []) (channel c)

-- ---- rows

-- These bytes are these blocks, one behind the other and nothing left.
pub data BlocksSay (rules : Rules) : List ℕ → List Block → Type 0 where
  no_block : BlocksSay rules [] []
  one_more : {x xs : List ℕ} {b : Block} {bs : List Block} → Says rules x b → BlocksSay rules xs bs → BlocksSay rules (x ++ xs) (b ∷ bs)

-- These bytes are this row of blocks.
pub record RowSays (rules : Rules) (s : List ℕ) (bs : List Block) : Type 0 where
  pub says : BlocksSay rules s bs
  pub together : rules.row_may_be bs

-- ---- what document 01 takes and the standard does not

-- A block: of type 0 or 7, both Invalid; with a reserved error; with no direction; with an empty body.
pub data BlockBeyond : Block → Type 0 where
  type_invalid : {c : Channel} → c.dtype ≡ 7 → BlockBeyond (channel c)
  error_reserved : {c : Channel} {n : ℕ} → c.error ≡ reserved n → BlockBeyond (channel c)
  no_direction : {c : Channel} → c.input ≡ false → c.output ≡ false → BlockBeyond (channel c)
  empty_identifier : BlockBeyond (identifier [])
  empty_device : BlockBeyond (device [])

-- A row: with such a block, or with a second identifier block.
pub data RowBeyond : List Block → Type 0 where
  here : {b : Block} {bs : List Block} → BlockBeyond b → RowBeyond (b ∷ bs)
  later : {b : Block} {bs : List Block} → RowBeyond bs → RowBeyond (b ∷ bs)
  second_identifier : {bs : List Block} → 1 < identifiers bs → RowBeyond bs
