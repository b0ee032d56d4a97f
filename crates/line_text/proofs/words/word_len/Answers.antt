use Rattle.std.proofs.Common.{rules, tests, eqb, ◌∙◌, ap, length}
use Rattle.std.specs.Prelude.{unwrap_or}
use Rattle.std.proofs.lemmas.Iterator.{YieldsList-from_slice}
use Rattle.std.proofs.lemmas.Iterator.Search.{position_from_yields_List}
use Rattle.line_text.proofs.WordsLaws.{word_len_found}
use Rattle.line_text.proofs.words.word_len.Goals as goal

pub returns-clause-len : goal.returns-clause-len
returns-clause-len c =
    let found = position_from_yields_List (λ b. eqb b 32) _ _ c.position.result c.position.ensures.ran (YieldsList-from_slice c.args.line.now cc) (λ x b q k. search (rules, tests)) in
    c.unwrap_or.ensures ∙ ap (λ r. unwrap_or r (length c.args.line.now)) found ∙ word_len_found c.args.line.now
