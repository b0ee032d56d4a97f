-- A number more is laid down behind a comma, but for the first.
use Rattle.std.proofs.Common.{◌≡◌, refl, sym, ◌∙◌, false, List, [], ◌∷◌, ◌++◌, ℕ}
use Rattle.line_text.specs.Out.{nothing}
use Rattle.line_text.proofs.OutLaws.{none_yet, first_number, next_number, empty_list}
use Rattle.line_text.proofs.answers.Out.list.Goals as goal
use Rattle.line_text.proofs.answers.Out.list.Goals.{then-not-is_first, else-not-is_first}

pub loop-item-init : goal.loop-item-init
loop-item-init g c = record { laid = nothing; first = refl }

some_yet : (xs : List ℕ) (n : ℕ) → false ≡ none_yet (xs ++ n ∷ [])
some_yet [] n = refl
some_yet (x ∷ xs) n = refl

pub loop-item-preserved : goal.loop-item-preserved
loop-item-preserved g c = record {
  laid =
      elim c.if-not-is_first.branch [
        | then-not-is_first w ↦
            next_number c.loop-item.yielded c.in-Some.item (sym c.loop-item.invariant.first ∙ w.if-not-is_first.true) c.loop-item.invariant.laid w.text.ensures
            (rw w.self-is at c.number.ensures)
        | else-not-is_first w ↦
            first_number c.loop-item.yielded c.in-Some.item (sym c.loop-item.invariant.first ∙ w.if-not-is_first.false) c.loop-item.invariant.laid
            (rw w.self-is at c.number.ensures)
      ];
  first = some_yet c.loop-item.yielded c.in-Some.item;
}

pub returns-then-is_first : goal.returns-then-is_first
returns-then-is_first g c = (
  c.loop-item.yielded,
  (c.next.new.self, (c.loop-item.item-iterator, rw (← c.into_iter-item-iterator.ensures.into_iter_gives) c.loop-item.yielded_by, c.in-None.ensures.steps)),
  empty_list c.loop-item.yielded (sym c.loop-item.invariant.first ∙ c.if-is_first.true) c.loop-item.invariant.laid c.text-then-is_first.ensures,
)
