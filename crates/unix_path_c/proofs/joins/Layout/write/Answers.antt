use Rattle.std.proofs.Common.{◌-◌, length, arith}
use Rattle.std.specs.Option.{option_to_list}
use Rattle.unix_path_c.proofs.lemmas.buffers.LayoutLemmas.{buffer_after-three}
use Rattle.unix_path_c.proofs.joins.Layout.write.Goals as goal

pub returns-clause-out : goal.returns-clause-out
returns-clause-out c =
    let layout = c.args.self.now in
    let total = c.total_len-total in
    buffer_after-three c.args.out.now layout.beginning.now
    (option_to_list layout.separator) layout.end.now
    (total.result - length layout.end.now) (omega (arith, total.ensures.sum))
    (omega (arith, total.ensures.sum)) c.write_at.ensures c.write_separator.ensures
    c.write_at-2.ensures
