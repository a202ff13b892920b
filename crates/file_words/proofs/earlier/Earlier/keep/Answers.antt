use Rattle.std.proofs.Common.{◌∙◌, sym}
use Rattle.file_words.proofs.CatalogLemmas.{keeps_driver, kept_before, kept_now}
use Rattle.file_words.proofs.earlier.Earlier.keep.Goals as goal
use Rattle.file_words.proofs.earlier.Earlier.keep.Goals.{then-self, else-self}

pub returns-in_ok-insert : goal.returns-in_ok-insert
returns-in_ok-insert c = λ earlier keeps.
    keeps_driver c.args.self.now _ earlier c.args.file.now c.args.word
    (elim c.if-self.branch [
      | then-self w ↦ kept_before _ _ _ w.if-self.true w.self-is
      | else-self w ↦ kept_now _ _ _ w.if-self.false (w.self-is ∙ w.is_policy-self.ensures)
    ])
    keeps (sym c.is_driver.ensures ∙ c.if-is_driver.true) c.in_ok-insert.ensures.updates.0
