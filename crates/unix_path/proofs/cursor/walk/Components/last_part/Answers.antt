use Rattle.std.proofs.Common.{arith}
use Rattle.std.proofs.lemmas.Grind.{common_steps}
use Rattle.unix_bytes.proofs.lemmas.lists.ListLemmas.{length-range}
use Rattle.unix_path.specs.Steps.{IsWalk}
use Rattle.unix_path.specs.Cursor.{cursor_rest}
use Rattle.unix_path.proofs.lemmas.walks.OffsetLemmas.{has_last, range-zero}
use Rattle.unix_path.proofs.lemmas.names.ParentLemmas.{values-whole}
use Rattle.unix_path.proofs.cursor.walk.Components.last_part.Goals as goal

pub returns-in_default-clause-none : goal.returns-in_default-clause-none
returns-in_default-clause-none c none = grind (arith, common_steps, values-whole)

pub returns : goal.returns
unfolding cursor_rest IsWalk
returns c = grind (arith, common_steps, has_last, range-zero, length-range)
