-- `FunctionCode::from_byte` meets its contract: in each row it finds the entry of the byte, `entry_code` says what the digits of an entry say,
-- and in the table of the code no entry is at fault. That is computed here, once over the whole table; where it fails, the bytes at fault
-- stand in the message.
use borrow.Author.Rules.{rules}
use Rattle.std.proofs.Common.{◌≡◌, ◌∙◌, rules}
use borrow.Table.Row as Row
use Rattle.codes.proofs.EachNumber.{fault_before, faults_from, no_fault}
use Rattle.codes.proofs.TableLaws.{agrees_at, entry_at, entry_for, in_row, last_row, table_reads}
use Rattle.codes.specs.FunctionCodes.{function_code_of}
use Rattle.codes.specs.RequestTypes.{request_type_of}
use Rattle.codes.specs.Responses.{state_of, status_of}
use Rattle.codes.proofs.function_code.FunctionCode.from_byte.Lts as lts
use Rattle.codes.proofs.function_code.FunctionCode.from_byte.Reads as reads
use Rattle.codes.proofs.function_code.at_column.Reads as at-column-reads
use Rattle.codes.proofs.function_code.entry_code.Reads as entry-code-reads
use Rattle.codes.proofs.function_code.FunctionCode.from_byte.Goals as goal
use Rattle.codes.proofs.function_code.FunctionCode.from_byte.Goals.{in-0, in-1, in-2, in-3, in-4, in-5, in-6, in-7, in-8, in-9, in-10, in-11, in-12, in-13, in-14, in_default}

-- The table is not said again: it is the code's own, the third local where the rows are told apart. Each row by its arm.
pub returns : goal.returns
unfolding faults_from fault_before agrees_at entry_for function_code_of request_type_of state_of status_of
returns c =
    let table =
    Row.get 3 (lts.T57).locals
    (lts.m56 (at-column-reads.Asked, at-column-reads.Learnt, entry-code-reads.Asked, entry-code-reads.Learnt) reads.Pre reads.Post c.args
    c.blocks) in
    let b = c.args.b in
    let found : c.match-b-div16.entry ≡ entry_at table b =
    elim c.match-b-div16.branch [
      | in-0 w ↦ in_row table b 0 _ w.in-0.is (w.entry-is ∙ w.at_column-entry.ensures)
      | in-1 w ↦ in_row table b 1 _ w.in-1.is (w.entry-is ∙ w.at_column-entry-in-1.ensures)
      | in-2 w ↦ in_row table b 2 _ w.in-2.is (w.entry-is ∙ w.at_column-entry-in-2.ensures)
      | in-3 w ↦ in_row table b 3 _ w.in-3.is (w.entry-is ∙ w.at_column-entry-in-3.ensures)
      | in-4 w ↦ in_row table b 4 _ w.in-4.is (w.entry-is ∙ w.at_column-entry-in-4.ensures)
      | in-5 w ↦ in_row table b 5 _ w.in-5.is (w.entry-is ∙ w.at_column-entry-in-5.ensures)
      | in-6 w ↦ in_row table b 6 _ w.in-6.is (w.entry-is ∙ w.at_column-entry-in-6.ensures)
      | in-7 w ↦ in_row table b 7 _ w.in-7.is (w.entry-is ∙ w.at_column-entry-in-7.ensures)
      | in-8 w ↦ in_row table b 8 _ w.in-8.is (w.entry-is ∙ w.at_column-entry-in-8.ensures)
      | in-9 w ↦ in_row table b 9 _ w.in-9.is (w.entry-is ∙ w.at_column-entry-in-9.ensures)
      | in-10 w ↦ in_row table b 10 _ w.in-10.is (w.entry-is ∙ w.at_column-entry-in-10.ensures)
      | in-11 w ↦ in_row table b 11 _ w.in-11.is (w.entry-is ∙ w.at_column-entry-in-11.ensures)
      | in-12 w ↦ in_row table b 12 _ w.in-12.is (w.entry-is ∙ w.at_column-entry-in-12.ensures)
      | in-13 w ↦ in_row table b 13 _ w.in-13.is (w.entry-is ∙ w.at_column-entry-in-13.ensures)
      | in-14 w ↦ in_row table b 14 _ w.in-14.is (w.entry-is ∙ w.at_column-entry-in-14.ensures)
      | in_default w ↦ in_row table b 15 _ (last_row _ (search rules) w.in_default.in_default-own.rest) (w.entry-is ∙ w.at_column-entry-in_default.ensures)
    ] in
    c.entry_code.ensures ∙ table_reads table no_fault b c.match-b-div16.entry (search rules) found
