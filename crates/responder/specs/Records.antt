-- Document 01, "Responder": its record, and how one is made. Read `made_of`.
use Rattle.ground.specs.Pick.{if}
use Rattle.ground.specs.Refusals.{shown}
use Rattle.ground.specs.declared.refusal.Refusal.{Refusal}
use Rattle.ground.specs.declared.returned.Returned.{Returned}
use Rattle.std.specs.Prelude.{Result}
use Rattle.link_rules.specs.Rules.{wrong_addresses, no_link}
use Rattle.link_rules.specs.declared.link.Link.{Link}
use Rattle.link_telegrams.specs.Turns.{Made}
use Rattle.responder_row.specs.Rows.{blank_row}
use Rattle.responder.specs.declared.state.Responder.{Responder}

-- a responder that remembers nothing
abbrev pub blank_of : Link → Responder
blank_of link = record { link = link; row = blank_row }

-- the answer's number, and the record
abbrev pub shown_made : Returned (Result Unit Refusal) Responder → Made Responder
shown_made m = record { number = shown m.answer; end = m.after }

unfoldable pub made_of : Link → Made Responder
made_of link =
    if (wrong_addresses link) (record { number = 18; end = blank_of no_link })
    (record { number = 0; end = blank_of link })
