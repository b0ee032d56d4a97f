-- The thin calls that never refuse, `*ring = (*ring).METHOD(…)`, meet their contracts: `meets`. In the older Rattle this was a walk of such a
-- call's code, over how many addresses are passed on; today the borrow checker covers it, and each is the function's own theorem.
use Rattle.ring_driver.proofs.claim_token.Met as claim_token
use Rattle.ring_driver.proofs.claim_token.Statement as claim_token_stated
use Rattle.ring_driver.proofs.witness_token_pass.Met as witness_token_pass
use Rattle.ring_driver.proofs.witness_token_pass.Statement as witness_token_pass_stated

pub meets : {M : Type 1} → claim_token_stated.statement M × witness_token_pass_stated.statement M
meets = (claim_token.met, witness_token_pass.met)
