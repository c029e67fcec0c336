use Rattle.std.proofs.Common.{◌++◌, sym, ap, ◌∙◌, append-nil}
use Rattle.unix_path.proofs.lemmas.edits.JoinLemmas.{join_of_rooted, join_of_no_separator}
use Rattle.unix_path.proofs.lemmas.edits.JoinLemmas.{join_of_separator}
use Rattle.unix_path_c.proofs.joins.join_layout.Goals as goal

pub returns-then-has_root : goal.returns-then-has_root
returns-then-has_root c =
    sym (join_of_rooted c.args.base.bytes.now c.args.path.bytes.now
    (sym c.has_root.ensures.value ∙ c.if-has_root.true))

pub returns-then-needs_no_separator : goal.returns-then-needs_no_separator
returns-then-needs_no_separator c =
    let base = c.args.base.bytes.now in
    let path = c.args.path.bytes.now in
    ap (λ beginning. beginning ++ path) (append-nil base)
    ∙ sym (join_of_no_separator base path (sym c.has_root.ensures.value ∙ c.if-has_root.false)
    (sym c.needs_no_separator.ensures ∙ c.if-needs_no_separator.true))

pub returns : goal.returns
returns c =
    sym (join_of_separator c.args.base.bytes.now c.args.path.bytes.now
    (sym c.has_root.ensures.value ∙ c.if-has_root.false)
    (sym c.needs_no_separator.ensures ∙ c.if-needs_no_separator.false))
