use Rattle.std.proofs.Common.{sym, ap, ◌∙◌}
use Rattle.std.proofs.lemmas.List.{take_rest}
use Rattle.unix_path.specs.Parts.{counts}
use Rattle.path_archive.proofs.lemmas.refusals.NameLemmas.{last_piece}
use Rattle.path_archive.proofs.names.ends_in_name.Goals as goal

pub returns : goal.returns
returns c =
    let piece = last_piece c.args.path.now c.after_last.result c.after_last.ensures.in_range
    c.after_last.ensures.after c.after_last.ensures.none_after in
    c.counts.ensures ∙ ap counts (take_rest c.args.path.now c.after_last.result)
    ∙ ap counts (sym piece)
