use Rattle.std.proofs.Common.{◌≡◌, ◌≤◌, length, vec_len, vec_capacity}
use Rattle.unix_path.specs.Buffers.{capacity, path_bytes}
use Rattle.path_runs.specs.ScanCache.{IsCacheOf}
use Rattle.path_runs.proofs.lemmas.edits.EditListLemmas.{HasApplied}
use Rattle.path_runs.proofs.edits.apply.Given as goal

abbrev pub invariant-loop-done : goal.invariant-loop-done
invariant-loop-done l = record {
  so_far : HasApplied (path_bytes l.initial.path) l.edits l.done
      (path_bytes l.path) l.answers.items;
  cache : IsCacheOf (path_bytes l.path) l.cache;
  len : vec_len l.answers ≡ l.done;
  answers : length l.edits ≤ vec_capacity l.answers;
  capacity : capacity l.initial.path ≤ capacity l.path;
}
