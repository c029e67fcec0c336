use Rattle.std.proofs.Common.{length, ap, arith}
use Rattle.unix_path.proofs.lemmas.rests.RestLemmas.{length-values}
use Rattle.unix_path.proofs.lemmas.names.ParentLemmas.{values-whole}
use Rattle.unix_path.proofs.cursor.walk.Components.new.Goals as goal

pub returns-clause-values : goal.returns-clause-values
returns-clause-values c = values-whole c.args.path.now _ c.whole.ensures.rest

pub returns-clause-len : goal.returns-clause-len
returns-clause-len c =
    omega (
      arith,
      length-values c.args.path.now,
      ap length (returns-clause-values c),
    )
