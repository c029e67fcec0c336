use Rattle.std.proofs.Common.{◌≡◌, ◌≤◌}
use Rattle.std.specs.Prelude.{fold}
use Rattle.unix_path.specs.Joins.{join_of}
use Rattle.unix_path.specs.Buffers.{path_bytes, capacity, bytes_of_each}
use Rattle.unix_path.proofs.buf.PathBuf.extend.Given as goal

abbrev pub invariant-loop-item : goal.invariant-loop-item
invariant-loop-item g l = record {
  bytes : path_bytes l.self ≡ fold join_of (path_bytes l.initial.self) (bytes_of_each l.yielded);
  capacity : capacity l.initial.self ≤ capacity l.self;
}
