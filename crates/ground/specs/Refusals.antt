-- Document 01, "Refusal numbers": the number of each refusal, and when it is given.
use Rattle.std.specs.Prelude.{ℕ, Err, Ok, Result}
use Rattle.ground.specs.declared.refusal.Refusal.{Refusal}
use Rattle.ground.specs.declared.refusal.Refusal.TheVariants.{UnknownStart, LengthsDiffer, LengthTooSmall, FunctionCode, SapMissing, Checksum, EndDelimiter, AddressTooLarge, TooLong, NoRoom, NotAStation, BlockCutOff, BlockReserved, BlockLengthZero, CycleInactive, OrderLength, OrderPending, LinkAddresses, Tries, SettingsForm, NoReplyOwed, InputTooLong}

abbrev pub number_of : Refusal → ℕ
-- reading: the first byte is no delimiter
number_of UnknownStart = 1
-- reading: the two length bytes of an SD2 telegram differ
number_of LengthsDiffer = 2
-- reading: the length byte of an SD2 telegram is below 3
number_of LengthTooSmall = 3
-- reading: the function code is none of the 120 that are read
number_of FunctionCode = 4
-- reading: no byte is left in the content for a SAP that an address announces
number_of SapMissing = 5
-- reading: the checksum is another
number_of Checksum = 6
-- reading: the last byte is not the end delimiter
number_of EndDelimiter = 7
-- writing data: an address above 127
number_of AddressTooLarge = 8
-- length byte above 249, or a link reply above 246 bytes
number_of TooLong = 9
-- buffer too short
number_of NoRoom = 10
-- own, set or removed address above 125
number_of NotAStation = 11
-- diagnostics: block cut off
number_of BlockCutOff = 12
-- diagnostics: reserved header
number_of BlockReserved = 13
-- diagnostics: length zero
number_of BlockLengthZero = 14
-- cycling Inactive
number_of CycleInactive = 15
-- order empty or above 246 bytes
number_of OrderLength = 16
-- order already pending
number_of OrderPending = 17
-- link addresses above 125 or equal
number_of LinkAddresses = 18
-- tries outside 1 to 8
number_of Tries = 19
-- settings form
number_of SettingsForm = 20
-- answer when none is owed
number_of NoReplyOwed = 21
-- lister input above 4,096 bytes
number_of InputTooLong = 22

-- an answer as its number: 0 where the call was done, else the number of its refusal
abbrev pub shown : Result Unit Refusal → ℕ
shown (Ok tt) = 0
shown (Err refusal) = number_of refusal

-- what a call gives, or the number of its refusal
pub data OrRefused (A : Type 0) : Type 0 where
  gives : A → OrRefused A
  refused : ℕ → OrRefused A
