use Rattle.std.proofs.Common.{Some, ap, ◌∙◌}
use Rattle.unix_path_c.proofs.lemmas.spans.PlaceLemmas.{parent_inside}
use Rattle.unix_path_c.proofs.spans.unix_path_parent.Goals as goal

pub returns-clause-bytes : goal.returns-clause-bytes
returns-clause-bytes c =
    let is = c.in-Some.ensures.value in
    ap Some (parent_inside c.args.path.now c.in-Some.parent.bytes.now is).bytes ∙ is
