use Rattle.std.proofs.Common.{ap, ◌∙◌, Vec}
use Rattle.std.specs.declared.alloc.Global.{Global}
use Rattle.dispatcher.specs.IndexInside.{items_of}
use Rattle.dispatcher.specs.declared.driver.Member.{Member}
use Rattle.dispatcher.proofs.name_index.NameIndex.add.Goals as goal
use Rattle.dispatcher.proofs.name_index.NameIndex.add.Goals.{in-Some, in-None}
use Rattle.dispatcher.proofs.IndexLemmas.{added}

pub returns : goal.returns
returns c =
    added c.args.self.now.lists c.remove.new.self c.insert.new.self c.args.name c.args.member c.match-remove.list c.push.new.self
    c.remove.ensures.updates.0 c.in_ok-insert.ensures.updates.0
    (elim c.match-remove.branch [
      | in-Some w ↦ ap (λ (list : Vec Member Global). list.items) w.list-is ∙ ap items_of w.in-Some.ensures.value
      | in-None w ↦ ap (λ (list : Vec Member Global). list.items) w.list-is ∙ (w.new-list.ensures.items ∙ ap items_of w.in-None.ensures.value)
    ])
    c.in_ok-push.ensures.items
