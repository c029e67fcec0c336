use Rattle.unix_path.proofs.lemmas.order.CommonDirLemmas.{common_dir_of-is}
use Rattle.unix_path.proofs.path.Path.common_dir.Goals as goal

pub returns-clause-value : goal.returns-clause-value
returns-clause-value c =
    let past = c.after_last.ensures in
    common_dir_of-is c.args.self.bytes.now c.args.other.bytes.now c.common_len-common.result
    c.after_last.result c.common_len-common.ensures.value past.in_range past.after past.none_after
