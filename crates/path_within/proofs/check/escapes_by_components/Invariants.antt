use Rattle.std.proofs.Common.{◌≡◌, ◌+◌, ◌^◌, ◌<◌, length}
use Rattle.unix_path.specs.Cursor.{cursor_values}
use Rattle.unix_path.specs.Parts.{values}
use Rattle.path_within.proofs.lemmas.stack.EscapeLemmas.{escapes_from}
use Rattle.path_within.proofs.check.escapes_by_components.Given as goal

abbrev pub invariant-loop-part : goal.invariant-loop-part
invariant-loop-part l =
    (goal.iterator-loop-part).can_next l.part-iterator
    × (goal.iterator-loop-part).is_finite l.part-iterator
    × (escapes_from l.depth (cursor_values l.part-iterator)
    ≡ escapes_from 0 (values l.fn.path.bytes.now))
    × (l.depth + length (cursor_values l.part-iterator) < 2 ^ 64)
