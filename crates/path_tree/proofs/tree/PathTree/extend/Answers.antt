use Rattle.std.proofs.Common.{◌∙◌, rules}
use Rattle.path_tree.specs.Many.{InsertsBeginning}
use Rattle.path_tree.specs.Tree.{entries_of}
use Rattle.path_tree.proofs.tree.PathTree.extend.Goals as goal

pub returns-in_err-insert-clause-err : goal.returns-in_err-insert-clause-err
returns-in_err-insert-clause-err g c =
    let begins : InsertsBeginning g.I.Iterator.next_gives c.args.items (entries_of c.args.self.now)
    (entries_of c.insert.new.self) = record {
      yielded = c.loop-path.yielded;
      next = (c.in-Some.path, c.in-Some.value);
      after = c.next.new.self;
      items_before = search rules;
      inserted = c.in_err-insert.ensures.err ∙ c.loop-path.invariant.inserted;
    } in search (rules, begins)
