-- The order link with a guard beside each record, whose stamps and numbers are those of `guards`. Read `InitiatorCalls` and `ResponderCalls`.
-- what a guarded call of either end is
pub mod Calls
-- the calls of each end, over those of `exports_link`
pub mod InitiatorCalls
pub mod ResponderCalls
