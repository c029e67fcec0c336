use Rattle.std.proofs.Common.{sym, ◌∙◌, arith, ne_eqb}
use Rattle.std.proofs.lemmas.Bool.{true≢false, eqb-false}
use Rattle.std.proofs.lemmas.Grind.{common_steps}
use Rattle.unix_path.proofs.lemmas.names.NamedLemmas.{named-dot, named-other}
use Rattle.unix_path.proofs.lemmas.names.NamedLemmas.{nameless-parent, nameless-slash}
use Rattle.unix_path.proofs.path_end.ends_in_name.Goals as goal

pub returns-then-bytes-len-ne46 : goal.returns-then-bytes-len-ne46
returns-then-bytes-len-ne46 c = grind (arith, common_steps, nameless-slash, named-other)

pub returns : goal.returns
returns c =
    let s = c.args.bytes.now in
    let some = eqb-false _ 0 (sym c.is_empty.ensures ∙ c.if-is_empty.false) in
    grind (arith, common_steps, eqb-false, true≢false, nameless-parent, named-dot, ne_eqb)
