use Rattle.std.proofs.Common.{◌∙◌, [], ap, length, refl, rules, subst, sym}
use Rattle.path_tree.specs.Tree.{entries_of}
use Rattle.path_tree.proofs.lemmas.entries.PutLemmas.{puts_end, puts_more, puts_own}
use Rattle.path_tree.proofs.lemmas.keys.OwnLemmas.{Own, items_of}
use Rattle.path_tree.proofs.tree.PathTree.put_all.Goals as goal

pub loop-key-init : goal.loop-key-init
loop-key-init g c =
    let gives = c.into_iter-key-iterator.ensures.into_iter_gives in (
      tt,
      tt,
      record {
        done = [];
        split = sym gives.0;
        len = gives.1 ∙ c.args.entries.ok.0 ∙ ap length (sym gives.0);
        own = subst (Own items_of) (sym gives.0) c.requires;
        inserted = refl;
      },
    )

pub put-requires : goal.put-requires
put-requires g c =
    puts_own c.args.entries.items (entries_of c.args.self.now) c.loop-key.key-iterator
    c.next.new.self c.in-Some.key c.in-Some.value (search rules) (entries_of c.loop-key.self)
    c.loop-key.invariant.2

pub returns-in_err-put-clause-err : goal.returns-in_err-put-clause-err
returns-in_err-put-clause-err g c =
    let end = puts_end c.args.entries.items (entries_of c.args.self.now) c.loop-key.key-iterator
    (entries_of c.loop-key.self) (entries_of c.put.new.self) c.loop-key.invariant.2
    c.in_err-put.ensures.err in
    search (rules, end)

pub loop-key-preserved-in_ok-put : goal.loop-key-preserved-in_ok-put
loop-key-preserved-in_ok-put g c = (
  tt,
  tt,
  puts_more c.args.entries.items (entries_of c.args.self.now) c.loop-key.key-iterator
      c.next.new.self c.in-Some.key c.in-Some.value (search rules) (entries_of c.loop-key.self)
      c.loop-key.invariant.2 (entries_of c.put.new.self) c.in_ok-put.ensures.entries,
)

pub loop-key-preserved : goal.loop-key-preserved
loop-key-preserved g c = (
  tt,
  tt,
  puts_more c.args.entries.items (entries_of c.args.self.now) c.loop-key.key-iterator
      c.next.new.self c.in-Some.key c.in-Some.value (search rules) (entries_of c.loop-key.self)
      c.loop-key.invariant.2 (entries_of c.put.new.self) c.in_ok-put.ensures.entries,
)
