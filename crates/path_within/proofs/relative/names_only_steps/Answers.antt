use Rattle.std.proofs.Common.{◌++◌, Some, ap, ap₂, sym, subst, ◌∙◌, length}
use Rattle.std.proofs.Math.ListN.{replicate}
use Rattle.unix_path.specs.Parts.{ParentDir, values}
use Rattle.path_within.specs.Below.{names_below}
use Rattle.path_within.specs.Resolved.{AllNames}
use Rattle.path_within.proofs.lemmas.backward.StepLemmas.{names_only_relative_path}
use Rattle.path_within.proofs.lemmas.names_only.NamesOnlyLemmas.{is_names_only-rootless}
use Rattle.path_within.proofs.lemmas.below.NamesBelowLemmas.{names_below-names}
use Rattle.path_within.proofs.lemmas.names_only.RequestLemmas.{names_down, request_rootless}
use Rattle.path_within.proofs.relative.names_only_steps.Goals as goal

pub names_of-requires : goal.names_of-requires
names_of-requires c is_true =
    let steps = names_only_relative_path c.args.from.bytes.now c.args.to.bytes.now c.requires.from
    c.requires.to
    c.requires.roots in
    let other_rest = c.after_shared.result.1.bytes.now in
    is_names_only-rootless other_rest (c.is_names_only.ensures is_true) (request_rootless other_rest
    (names_down (values other_rest)
    (subst AllNames (sym c.after_shared.ensures.second) steps.names)))

pub returns : goal.returns
returns c =
    let steps = names_only_relative_path c.args.from.bytes.now c.args.to.bytes.now c.requires.from
    c.requires.to
    c.requires.roots in
    ap Some (c.after_parent_dirs.ensures ∙ ap₂ (λ n vs. replicate n ParentDir ++ vs)
    (c.component_count.ensures ∙ ap length c.after_shared.ensures.first)
    (c.names_of.ensures ∙ ap names_below c.after_shared.ensures.second
    ∙ names_below-names _ steps.names))
    ∙ sym steps.is
