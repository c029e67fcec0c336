use Rattle.std.proofs.Common.{◌≡◌, drop}
use Rattle.unix_path.specs.Cursor.{cursor_values}
use Rattle.unix_path.specs.Parts.{values}
use Rattle.path_within.proofs.lemmas.stack.BetweenLemmas.{shared_count}
use Rattle.path_within.proofs.relative.after_shared.Given as goal

abbrev pub invariant-loop-part : goal.invariant-loop-part
invariant-loop-part l =
    let rest = cursor_values l.rest in
    let other_rest = cursor_values l.other_rest in
    let n = shared_count (values l.fn.from.bytes.now) (values l.fn.to.bytes.now) in
    record {
      first : drop (shared_count rest other_rest) rest ≡ drop n (values l.fn.from.bytes.now);
      second : drop (shared_count rest other_rest) other_rest ≡ drop n (values l.fn.to.bytes.now);
    }
