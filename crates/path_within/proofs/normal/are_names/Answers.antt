use Rattle.std.proofs.Common.{arith, rules, tests}
use Rattle.std.proofs.lemmas.Iterator.Search.{all_from_yields_List}
use Rattle.unix_path.proofs.lemmas.walks.CursorLemmas.{Components-yields}
use Rattle.path_within.specs.Escapes.{is_name}
use Rattle.path_within.proofs.normal.are_names.Goals as goal
use Rattle.path_runs.proofs.lemmas.spelling.PieceValueLemmas.{is_rooted-slash, values-rooted}
use Rattle.path_within.proofs.lemmas.names_only.NamesOnlyLemmas.{names_only_has_names}
use Rattle.path_within.proofs.lemmas.stack.RelativePathLemmas.{list_all-names}

pub returns-then-is_names_only : goal.returns-then-is_names_only
returns-then-is_names_only c =
    grind (arith, is_rooted-slash, values-rooted, list_all-names, names_only_has_names)

pub returns : goal.returns
returns c = all_from_yields_List is_name _ _ c.all.result c.all.ensures.ran
    (Components-yields c.args.parts) (λ x r q k. search (rules, tests))
