-- Laws of the maker, one for each case: 18 where the addresses are wrong, 19 where the tries are, else a closed record. Read `made_closed`,
-- and `not_made_refuses` of the record beside a refusal.
use Prim.Native.Nat.{ℕ, ◌≤◌}
use lib.ListN.{length}
use mathlib.Core.Bool.{true, false}
use mathlib.Core.List.{List}
use mathlib.Core.Path.{◌≡◌, refl, ap}
use Rattle.initiator.proofs.CallLaws.{submit_opens}
use Rattle.initiator.specs.Calls.{submit_of, wrong_order}
use Rattle.initiator.specs.Records.{closed_of, made_of}
use Rattle.link_rules.proofs.RuleLaws.{linked_addresses, permitted_tries}
use Rattle.link_rules.specs.Rules.{wrong_addresses, wrong_tries, Linked, Permitted, no_link, room}
use Rattle.link_rules.specs.declared.link.Link.{Link}
use Rattle.link_telegrams.specs.Headers.{opening_header}
use Rattle.link_telegrams.specs.Turns.{Made, refusing}
use Rattle.telegram_tx.specs.Writing.{write_of}
use Rattle.initiator.specs.declared.state.Initiator.{Initiator}

abbrev pub not_made : ℕ → Made Initiator
not_made n = record { number = n; end = closed_of no_link 1 }

module _ (link : Link) (tries : ℕ) where
  pub addresses_refused : wrong_addresses link ≡ true → made_of link tries ≡ not_made 18
  unfolding made_of
  addresses_refused e = rw e

  module _ (a : wrong_addresses link ≡ false) where
    pub tries_refused : wrong_tries tries ≡ true → made_of link tries ≡ not_made 19
    unfolding made_of
    tries_refused e = rw (a, e)

    pub not_refused : wrong_tries tries ≡ false → made_of link tries ≡ record { number = 0; end = closed_of link tries }
    unfolding made_of
    not_refused e = rw (a, e)

-- the last by the facts: made where the addresses and the tries are permitted
module _ (link : Link) (tries : ℕ) (l : Linked link) (p : Permitted tries) where
  pub made : made_of link tries ≡ record { number = 0; end = closed_of link tries }
  unfolding made_of
  made = rw (linked_addresses link l, permitted_tries tries p)

  pub made_closed : (made_of link tries).end ≡ closed_of link tries
  made_closed = ap (λ (m : Made Initiator). m.end) made

-- An order submitted to the record beside a refusal: the writer refuses the addresses with 8, and all stays.
pub not_made_refuses :
    (n : ℕ) (q buf : List ℕ) → room ≤ length buf → wrong_order q ≡ false
    → submit_of (not_made n).end q buf ≡ refusing 8 (not_made n).end buf
unfolding opening_header write_of
not_made_refuses n q buf h w = submit_opens (not_made n).end q buf h refl w
