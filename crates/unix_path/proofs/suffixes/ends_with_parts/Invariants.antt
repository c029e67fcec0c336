use Rattle.std.proofs.Common.{length}
use Rattle.unix_path.specs.Cursor.{cursor_values}
use Rattle.unix_path.specs.Parts.{values}
use Rattle.unix_path.proofs.lemmas.lists.SuffixLemmas.{SharesSuffix}
use Rattle.unix_path.proofs.suffixes.ends_with_parts.Given as goal

abbrev pub invariant-loop-part : goal.invariant-loop-part
invariant-loop-part l = SharesSuffix (values l.path) (values l.child) (cursor_values l.walk)
    (cursor_values l.child_walk)

abbrev pub decreases-loop-part : goal.decreases-loop-part
decreases-loop-part l = length (cursor_values l.child_walk)
