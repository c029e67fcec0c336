use Rattle.upath_commands.proofs.lemmas.SortingLemmas.{sorted_paths-moved, sorted_paths-ordered}
use Rattle.upath_commands.proofs.lemmas.SortingLemmas.{sorted_paths-stable}
use Rattle.upath_commands.proofs.sort_laws.sort_orders.Goals as goal

pub returns : goal.returns
returns c = record {
  ordered = sorted_paths-ordered;
  same = sorted_paths-moved;
  stable = sorted_paths-stable;
}
