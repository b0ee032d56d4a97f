-- Laws of the maker, one for each case: 18 where the addresses are wrong, else a record that remembers nothing.
use mathlib.Core.Bool.{true, false}
use mathlib.Core.Path.{◌≡◌}
use Rattle.link_rules.proofs.RuleLaws.{linked_addresses}
use Rattle.link_rules.specs.Rules.{wrong_addresses, Linked, no_link}
use Rattle.link_rules.specs.declared.link.Link.{Link}
use Rattle.link_telegrams.specs.Turns.{Made}
use Rattle.responder.specs.declared.state.Responder.{Responder}
use Rattle.responder.specs.Records.{blank_of, made_of}

abbrev pub not_made : Made Responder
not_made = record { number = 18; end = blank_of no_link }

module _ (link : Link) where
  pub addresses_refused : wrong_addresses link ≡ true → made_of link ≡ not_made
  unfolding made_of
  addresses_refused e = rw e

  pub made : wrong_addresses link ≡ false → made_of link ≡ record { number = 0; end = blank_of link }
  unfolding made_of
  made e = rw e

  -- the last by the facts
  pub made_blank : Linked link → (made_of link).end ≡ blank_of link
  made_blank l = rw (made (linked_addresses _ l))
