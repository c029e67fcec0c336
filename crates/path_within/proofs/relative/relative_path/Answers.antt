use Rattle.std.proofs.Common.{Some, ap, arith, sym, ◌∙◌}
use Rattle.std.proofs.lemmas.Slice.Eq.{bytes_eq-Decides}
use Rattle.path_runs.proofs.lemmas.spelling.SpellLemmas.{spelling_of-nil}
use Rattle.path_within.proofs.lemmas.backward.StepLemmas.{relative_path_to_itself}
use Rattle.path_within.proofs.relative.relative_path.Goals as goal

pub returns-then-eq-clause-bytes : goal.returns-then-eq-clause-bytes
returns-then-eq-clause-bytes c =
    let from = c.args.from.bytes.now in
    let to = c.args.to.bytes.now in
    ap Some c.new.ensures
    ∙ relative_path_to_itself from to ((bytes_eq-Decides from to).0 (sym c.if-eq.ensures))

pub returns-in_err-to_path_buf-clause-succeeds : goal.returns-in_err-to_path_buf-clause-succeeds
returns-in_err-to_path_buf-clause-succeeds c = grind (arith, spelling_of-nil)
