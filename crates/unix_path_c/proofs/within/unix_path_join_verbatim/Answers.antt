use Rattle.std.proofs.Common.{sym, ap, ◌∙◌}
use Rattle.unix_path.specs.Parts.{values}
use Rattle.path_runs.specs.JoinLaws.{values_added}
use Rattle.path_runs.proofs.lemmas.joins.LeadLemmas.{values-join_of_values_added}
use Rattle.path_within.specs.Escapes.{has_root_or_parent_dir}
use Rattle.path_within.proofs.lemmas.names_only.RequestLemmas.{request_rootless}
use Rattle.unix_path_c.proofs.within.unix_path_join_verbatim.Goals as goal

pub returns-clause-within : goal.returns-clause-within
returns-clause-within c = λ _.
    let root = c.args.root.now in
    let request = c.args.request.now in
    let names_only = request_rootless request
    (ap (λ s. has_root_or_parent_dir (values s)) (sym c.from_bytes.ensures.bytes)
    ∙ sym c.has_root_or_parent_dir.ensures ∙ c.if-has_root_or_parent_dir.false) in
    (values_added root request, sym (values-join_of_values_added root request names_only))
