use Rattle.std.proofs.Common.{◌↔◌, length}
use Rattle.unix_path.specs.Cursor.{cursor_values}
use Rattle.unix_path.specs.Parts.{values}
use Rattle.path_archive.proofs.lemmas.links.LinkLemmas.{StaysAbove}
use Rattle.path_archive.proofs.links.climbs_out.Given as goal

abbrev pub invariant-ups : goal.invariant-ups
invariant-ups l = StaysAbove l.above (cursor_values l.rest)
    ↔ StaysAbove l.fn.depth (values l.fn.path.bytes.now)

abbrev pub decreases-ups : goal.decreases-ups
decreases-ups l = length (cursor_values l.rest)
