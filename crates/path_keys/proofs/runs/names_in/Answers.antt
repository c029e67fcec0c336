use Rattle.std.proofs.Common.{arith, refl}
use Rattle.path_keys.proofs.lemmas.spelling.KeyRunLemmas.{names_run}
use Rattle.path_keys.proofs.lemmas.spelling.KeyStopLemmas.{no_name_none, no_stop_none}
use Rattle.path_keys.proofs.runs.names_in.Goals as goal

pub returns-then-no_name_starts_at-clause-none : goal.returns-then-no_name_starts_at-clause-none
returns-then-no_name_starts_at-clause-none c = grind (arith, no_name_none)

pub returns-then-end-bytes-clause-none : goal.returns-then-end-bytes-clause-none
returns-then-end-bytes-clause-none c = grind (arith, no_stop_none)

pub returns-clause-some : goal.returns-clause-some
returns-clause-some c =
    names_run _ c.args.bytes.now c.name_run_end-end.result (grind arith) c.name_run_end-end.ensures
    (omega arith) refl
