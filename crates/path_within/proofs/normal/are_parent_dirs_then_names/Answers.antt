use Rattle.std.proofs.Common.{arith}
use Rattle.unix_path.specs.Cursor.{cursor_values}
use Rattle.unix_path.specs.Views.{value_of}
use Rattle.path_within.proofs.lemmas.names_only.NormalLemmas.{straight_iff}
use Rattle.path_within.proofs.normal.are_parent_dirs_then_names.Goals as goal

pub returns-then-is_name : goal.returns-then-is_name
returns-then-is_name c =
    let v = value_of c.in-Some.part in
    let vs = cursor_values c.next.new.self in
    grind (arith, straight_iff v vs)
