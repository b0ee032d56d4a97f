-- Document 01, "Orders: … Settings 20, 18, 19": what reading a settings text answers. Read `read_of`, from below.
use Rattle.std.specs.Prelude.{List, ℕ, eqb, length, Err, None, Ok, Option, Result, Some}
use Rattle.ground.specs.Pick.{if}
use Rattle.ground.specs.Refusals.{number_of}
use Rattle.settings.specs.declared.line.Line.{Line}
use Rattle.settings.specs.Lines.{own=, peer=, tries=, line_at}
use Rattle.settings.specs.Rules.{rule_of}
use Rattle.ground.specs.declared.refusal.Refusal.{Refusal}
use Rattle.settings.specs.declared.settings.Settings.{Settings}

-- own, peer and tries, or the number of a refusal
pub data ReadAnswer : Type 0 where
  settings : ℕ → ℕ → ℕ → ReadAnswer
  refused : ℕ → ReadAnswer

-- an answer as its values, or its number
abbrev pub shown_read : Result Settings Refusal → ReadAnswer
shown_read (Ok s) = settings s.own.0 s.peer.0 s.tries
shown_read (Err refusal) = refused (number_of refusal)

-- the three numbers of a text of the right form
abbrev pub numbers : ℕ → ℕ → ℕ → Option Settings
numbers own peer tries = Some (record { own = record { 0 = own }; peer = record { 0 = peer }; tries = tries })

-- behind the third line: nothing else
abbrev pub after_tries : List ℕ → ℕ → ℕ → Option Line → Option Settings
after_tries text own peer (Some tries) = if (eqb tries.next (length text)) (numbers own peer tries.value) None
after_tries text own peer None = None

-- behind the second line: `tries=`
abbrev pub after_peer : List ℕ → ℕ → Option Line → Option Settings
after_peer text own (Some peer) = after_tries text own peer.value (line_at tries= text peer.next)
after_peer text own None = None

-- behind the first line: `peer=`
abbrev pub after_own : List ℕ → Option Line → Option Settings
after_own text (Some own) = after_peer text own.value (line_at peer= text own.next)
after_own text None = None

-- the three lines, in this order, `own=` first
unfoldable pub form_of : List ℕ → Option Settings
form_of text = after_own text (line_at own= text 0)

-- then the rules of a link: 18, 19
unfoldable pub checked_of : ℕ → ℕ → ℕ → ReadAnswer
checked_of own peer tries = if (eqb (rule_of own peer tries) 0) (settings own peer tries) (refused (rule_of own peer tries))

-- where the form is not there: 20
abbrev pub of_form : Option Settings → ReadAnswer
of_form (Some s) = checked_of s.own.0 s.peer.0 s.tries
of_form None = refused 20

-- the whole form comes first
unfoldable pub read_of : List ℕ → ReadAnswer
read_of text = of_form (form_of text)
