-- The table of function codes: what an entry says (`entry_of`), the one number that each code has in it (`entry_for`), and that a table in which
-- a test, computed over all of it, finds no fault says of each byte what document 01's rule says (`table_reads`).
use Rattle.std.proofs.Common.{◌≡◌, ℕ, zero, suc, ◌+◌, ◌*◌, ◌/◌, ◌%◌, ◌<◌, ◌≤◌, Bool, eqb, List, [], get_or, sym, refl, ap, ◌∙◌, arith, eq-eqb, ne_eqb, eqb-true, None, Option, Some}
use Rattle.ground.specs.Bits.{bit}
use Rattle.ground.specs.Pick.{if}
use Rattle.codes.proofs.EachNumber.{NoFault, at_each, faults_from}
use Rattle.codes.proofs.NumberLaws.{frame_count_part_small, request_number_small, request_type_again, state_again, state_number_small, status_again, status_number_small}
use Rattle.codes.specs.FrameCountBits.{frame_count_bit_of}
use Rattle.codes.specs.FunctionCodes.{frame_count_part, function_code_of, request_of, response_of}
use Rattle.codes.specs.RequestTypes.{request_number, request_type_of}
use Rattle.codes.specs.Responses.{state_number, state_of, status_number, status_of}
use Rattle.codes.specs.declared.frame_count_bit.FrameCountBit.{FrameCountBit}
use Rattle.codes.specs.declared.frame_count_bit.FrameCountBit.TheVariants.{First, High, Low, Inactive}
use Rattle.codes.specs.declared.function_code.FunctionCode.TheVariants.{Request, Response}
use Rattle.codes.specs.declared.request_type.RequestType.{RequestType}
use Rattle.codes.specs.declared.response.ResponseState.{ResponseState}
use Rattle.codes.specs.declared.response.ResponseStatus.{ResponseStatus}
use Rattle.codes.specs.declared.function_code.FunctionCode.{FunctionCode}

-- What the digits of an entry say, as `entry_code` promises it.
abbrev pub entry_of : ℕ → Option FunctionCode
entry_of entry =
    if (eqb (entry / 4096) 0) None
    (if (eqb (entry / 4096) 1) (request_of (frame_count_bit_of (bit 8 entry) (bit 9 entry)) (request_type_of (entry % 256)))
    (response_of (state_of (entry / 256 % 4)) (status_of (entry % 256))))

-- ---- an entry, digit by digit

-- 1: it is the request of the type and the frame count bit that were found.
pub request_entry :
    (x : ℕ) (fcb : FrameCountBit) (found : Option RequestType)
    → x / 4096 ≡ 1 → fcb ≡ frame_count_bit_of (bit 8 x) (bit 9 x) → found ≡ request_type_of (x % 256)
    → request_of fcb found ≡ entry_of x
request_entry x fcb found kind bits type =
    let some : x / 4096 ≡ 0 → ⊥ = λ h. omega arith in
    rw (ne_eqb _ _ some, eq-eqb _ _ kind, bits, type)

-- Else it is the response of the state and the status that were found.
pub response_entry :
    (x : ℕ) (state : Option ResponseState) (status : Option ResponseStatus)
    → (x / 4096 ≡ 0 → ⊥) → (x / 4096 ≡ 1 → ⊥) → state ≡ state_of (x / 256 % 4) → status ≡ status_of (x % 256)
    → response_of state status ≡ entry_of x
response_entry x state status some other e f = rw (ne_eqb _ _ some, ne_eqb _ _ other, e, f)

-- ---- the one number of each code

-- What stands in the table for what a byte is read as: its digits 0xKABB.
unfoldable pub entry_for : Option FunctionCode → ℕ
entry_for (Some (Request fcb req)) = 0x1000 + frame_count_part fcb / 16 * 256 + request_number req
entry_for (Some (Response state status)) = 0x2000 + state_number state * 256 + status_number status
entry_for None = 0

-- FCV and FCB are bits 8 and 9 of it.
bits_again :
    (fcb : FrameCountBit) (n x : ℕ) → n < 256 → x ≡ 0x1000 + frame_count_part fcb / 16 * 256 + n
    → fcb ≡ frame_count_bit_of (bit 8 x) (bit 9 x)
bits_again First n x h e = rw (ne_eqb (x / 256 % 2) 1 (λ k. omega arith), eq-eqb (x / 512 % 2) 1 (omega arith))
bits_again High n x h e = rw (eq-eqb (x / 256 % 2) 1 (omega arith), eq-eqb (x / 512 % 2) 1 (omega arith))
bits_again Low n x h e = rw (eq-eqb (x / 256 % 2) 1 (omega arith), ne_eqb (x / 512 % 2) 1 (λ k. omega arith))
bits_again Inactive n x h e = rw (ne_eqb (x / 256 % 2) 1 (λ k. omega arith), ne_eqb (x / 512 % 2) 1 (λ k. omega arith))

request_again :
    (fcb : FrameCountBit) (req : RequestType) (x : ℕ) → x ≡ 0x1000 + frame_count_part fcb / 16 * 256 + request_number req
    → entry_of x ≡ Some (Request fcb req)
request_again fcb req x e =
    let part : frame_count_part fcb ≤ 48 = frame_count_part_small fcb in
    let small : request_number req ≤ 128 = request_number_small req in
    let number : x % 256 ≡ request_number req = omega arith in
    sym
    (request_entry x fcb (Some req) (omega arith) (bits_again fcb (request_number req) x (omega arith) e)
    (rw number (sym (request_type_again req))))

response_again :
    (state : ResponseState) (status : ResponseStatus) (x : ℕ) → x ≡ 0x2000 + state_number state * 256 + status_number status
    → entry_of x ≡ Some (Response state status)
response_again state status x e =
    let part : state_number state ≤ 3 = state_number_small state in
    let small : status_number status ≤ 13 = status_number_small status in
    let high : x / 256 % 4 ≡ state_number state = omega arith in
    let number : x % 256 ≡ status_number status = omega arith in
    sym
    (response_entry x (Some state) (Some status) (λ h. omega arith) (λ h. omega arith)
    (rw high (sym (state_again state))) (rw number (sym (status_again status))))

-- It says what it was made for.
entry_again : (found : Option FunctionCode) → entry_of (entry_for found) ≡ found
unfolding entry_for
entry_again (Some (Request fcb req)) = request_again fcb req _ refl
entry_again (Some (Response state status)) = response_again state status _ refl
entry_again None = refl

-- ---- the table

-- The entry of a byte: the row is the high digit, the column the low one.
abbrev pub entry_at : List (List ℕ) → ℕ → ℕ
entry_at table b = get_or (get_or table (b / 16) []) (b % 16) 0

-- What is found in a row is the entry of a byte that has the row for its high digit.
pub in_row :
    (table : List (List ℕ)) (b row entry : ℕ) → b / 16 ≡ row → entry ≡ get_or (get_or table row []) (b % 16) 0
    → entry ≡ entry_at table b
in_row table b row entry e f = rw e f

-- A number that is none of the k least is at least k: so the last row is found where all before it are not.
abbrev pub NotBelow : ℕ → ℕ → Type 0
NotBelow zero x = Unit
NotBelow (suc k) x = NotBelow k x × (x ≡ k → ⊥)

not_below : (k x : ℕ) → NotBelow k x → k ≤ x
not_below zero x n = omega arith
not_below (suc k) x n = omega (arith, not_below k x n.0, n.1)

pub last_row : (x : ℕ) → x < 16 → NotBelow 15 x → x ≡ 15
last_row x h n = omega (arith, not_below 15 x n)

-- Whether a table has for a byte the one number of what the rule says.
unfoldable pub agrees_at : List (List ℕ) → ℕ → Bool
agrees_at table b = eqb (entry_at table b) (entry_for (function_code_of b))

-- A table without a fault says of each byte what the rule says.
pub table_reads :
    (table : List (List ℕ)) → NoFault (faults_from (agrees_at table) 0 256) → (b entry : ℕ) → b < 256
    → entry ≡ entry_at table b → entry_of entry ≡ function_code_of b
unfolding agrees_at
table_reads table faultless b entry h is =
    ap entry_of (is ∙ eqb-true _ _ (at_each (agrees_at table) 256 faultless b h)) ∙ entry_again (function_code_of b)
