use Rattle.std.proofs.Common.{[], refl, arith}
use Rattle.path_within.proofs.lemmas.backward.SharedLemmas.{share_prefix, SharePrefix}
use Rattle.path_within.proofs.relative.shared_end.Goals as goal

pub returns-then-name_starts_at-2-clause-shared : goal.returns-then-name_starts_at-2-clause-shared
returns-then-name_starts_at-2-clause-shared c =
    let share : SharePrefix c.args.from.bytes.now c.args.to.bytes.now c.common_dir-index.result =
    grind (arith, share_prefix) in
    (share.shared, share.first, share.second)

pub returns-clause-shared : goal.returns-clause-shared
returns-clause-shared c = ([], refl, refl)
