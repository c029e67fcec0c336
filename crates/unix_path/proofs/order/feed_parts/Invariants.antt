use Rattle.std.proofs.Common.{◌≡◌, fold}
use Rattle.unix_path.specs.Cursor.{cursor_values}
use Rattle.unix_path.specs.Hashed.{hash_input_of}
use Rattle.unix_path.proofs.order.feed_parts.Given as goal

abbrev pub invariant-loop-part : goal.invariant-loop-part
invariant-loop-part g l = record {
  can : (goal.iterator-loop-part g).can_next l.part-iterator;
  finite : (goal.iterator-loop-part g).is_finite l.part-iterator;
  feeds : fold g.H.Hasher.write l.state (hash_input_of (cursor_values l.part-iterator))
      ≡ fold g.H.Hasher.write l.initial.state (hash_input_of (cursor_values l.parts));
}
