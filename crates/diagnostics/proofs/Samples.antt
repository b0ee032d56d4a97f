-- Computed on the definitions: what is answered to bad input of each kind (`bad_input`), and the smallest inputs that document 01 takes and the
-- standard does not (`beyond_the_standard`).
use mathlib.Core.Path.{◌≡◌, refl, ap, sym, ◌∙◌}
use mathlib.Core.Bool.{true, false}
use mathlib.Core.List.{List, [], ◌∷◌, ◌++◌}
use Rattle.std.specs.Prelude.{Some}
use lib.ListN.{replicate}
use Rattle.ground.specs.Part.{shown_part}
use Rattle.diagnostics_blocks.specs.Modules.{bit_of, modules_of, first_of}
use Prim.Native.Nat.{ℕ}
use Rattle.diagnostics_blocks.specs.Channel.{error_of, type_of}
use native.Mathlib.Omega.{arith}
use Rattle.diagnostics.specs.Blocks.{Block, RowBeyond, empty_device, empty_identifier, error_reserved, here, no_direction, second_identifier, type_invalid}
use Rattle.diagnostics.specs.Samples.{Beyond, BeyondTheStandard}
use Rattle.diagnostics.specs.Store.{fill_of, walked_of}
use Rattle.diagnostics.specs.Walk.{Walk, at_end, block, block_at, body_of, device_at, headed_by, length_of, refused_at, step_of, walk_of, whole}
use Rattle.diagnostics.proofs.RowWalked.{row_walked}
use Rattle.diagnostics.proofs.StandardRows.{never_both, standard_row}

-- bad input: what is kept and what is answered
pub record BadInput : Type 0 where
  -- no store: nothing is taken, and the walk is at its end whatever length is stated
  pub no_store : fill_of [] 0 (0x01 ∷ []) ≡ record { answer = false; walked = 0; store = [] }
  pub no_store_no_data : fill_of [] 3 [] ≡ record { answer = false; walked = 3; store = [] }
  pub no_store_walked : step_of (walked_of 5 []) 0 ≡ record { answer = at_end; cursor = 0 }
  -- a store that is too short keeps its bytes and its length
  pub short_store : fill_of (0xAA ∷ []) 1 (0x02 ∷ 0x07 ∷ []) ≡ record { answer = false; walked = 1; store = 0xAA ∷ [] }
  -- data of no bytes, and the bytes behind the data
  pub no_data : fill_of (0xAA ∷ 0xBB ∷ []) 2 [] ≡ record { answer = true; walked = 0; store = 0xAA ∷ 0xBB ∷ [] }
  pub bytes_behind : fill_of (0xAA ∷ 0xBB ∷ []) 2 (0x01 ∷ []) ≡ record { answer = true; walked = 1; store = 0x01 ∷ 0xBB ∷ [] }
  -- a walked length above the store, and one below it
  pub long_length : step_of (walked_of 9 (0x01 ∷ [])) 0 ≡ record { answer = block (device_at 1 0); cursor = 1 }
  pub short_length : step_of (walked_of 1 (0x42 ∷ 0x05 ∷ [])) 0 ≡ refused_at 12 1
  -- a cursor past the end
  pub past_the_end : step_of (0x01 ∷ []) 7 ≡ record { answer = at_end; cursor = 7 }
  -- a body that does not fit
  pub no_such_body : body_of (0x01 ∷ 0x02 ∷ []) 1 2 ≡ []
  -- a module past the body's end
  pub no_such_module : bit_of (0xFF ∷ []) 8 ≡ false
  -- a body longer than any block's: its first module behind 62 bytes is set, and is found
  pub long_body_set : bit_of (replicate 62 0 ++ 0x01 ∷ []) 496 ≡ true
  pub long_body_found : first_of (replicate 62 0 ++ 0x01 ∷ []) 0 ≡ Some 496

pub bad_input : BadInput
unfolding fill_of step_of headed_by block_at length_of shown_part bit_of modules_of first_of
bad_input = record {
  no_store = refl;
  no_store_no_data = refl;
  no_store_walked = refl;
  short_store = refl;
  no_data = refl;
  bytes_behind = refl;
  long_length = refl;
  short_length = refl;
  past_the_end = refl;
  no_such_body = refl;
  no_such_module = refl;
  long_body_set = refl;
  long_body_found = refl;
}

-- bytes that are walked to blocks beyond the standard are no row of it
beyond : {s : List ℕ} {bs : List Block} → walk_of s ≡ record { blocks = bs; ending = whole } → RowBeyond bs → Beyond s bs
beyond {s} {bs} walked points =
    record {
      is_walked = walked;
      no_row = λ cs row.
          let same : cs ≡ bs = ap (λ (w : Walk). w.blocks) (sym (row_walked (standard_row row)) ∙ walked) in
          never_both (rw same at row) points;
    }

pub beyond_the_standard : BeyondTheStandard
unfolding walk_of step_of headed_by block_at length_of shown_part type_of error_of
beyond_the_standard =
    record {
      type_zero = beyond refl (here (type_invalid refl));
      type_seven = beyond refl (here (type_invalid refl));
      error_zero = beyond refl (here (error_reserved refl));
      error_ten = beyond refl (here (error_reserved refl));
      no_direction = beyond refl (here (no_direction refl refl));
      empty_device = beyond refl (here empty_device);
      empty_identifier = beyond refl (here empty_identifier);
      second_identifier = beyond refl (second_identifier (omega arith));
    }
