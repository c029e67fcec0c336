use Rattle.std.proofs.Common.{arith}
use Rattle.path_within.specs.Layouts.{names_in}
use Rattle.path_within.proofs.lemmas.backward.JoinedLemmas.{joined, joined_fits}
use Rattle.path_within.proofs.lemmas.below.BelowLemmas.{unslashed_last}
use Rattle.path_within.proofs.write.Names.fill_join.Goals as goal

pub put_before-requires-clause-space : goal.put_before-requires-clause-space
put_before-requires-clause-space c = grind (arith, joined_fits, unslashed_last)

pub write_at-requires : goal.write_at-requires
write_at-requires c = grind (arith, joined_fits, unslashed_last)

pub returns : goal.returns
returns c =
    let root =
    c.args.root.now in grind (
      arith,
      joined root (names_in c.args.self.now)
          (unslashed_last c.args.self.now.count c.args.self.now.path.bytes.now) (record {
            size = c.put_before.ensures.size;
            bytes = c.put_before.ensures.bytes;
          }) c.put_before.auto.out c.requires,
    )
