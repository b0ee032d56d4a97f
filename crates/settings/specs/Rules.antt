-- Document 01, "Orders: … Settings 20, 18, 19": what the rules of a link answer, `rule_of`.
use Rattle.std.specs.Prelude.{ℕ}
use Rattle.ground.specs.Pick.{if}
use Rattle.link_rules.specs.Rules.{wrong_addresses, wrong_tries, Linked, Permitted, link_of}

-- the number of the refusal, 18 before 19; 0 where there is none
unfoldable pub rule_of : ℕ → ℕ → ℕ → ℕ
rule_of own peer tries = if (wrong_addresses (link_of own peer)) 18 (if (wrong_tries tries) 19 0)

-- the same as a condition: settings that a link can have
pub record Allowed (own peer tries : ℕ) : Type 0 where
  pub addresses : Linked (link_of own peer)
  pub permitted : Permitted tries
