use Rattle.std.proofs.Common.{◌≡◌, ◌≤◌}
use Rattle.path_runs.proofs.edits.stems.Stems.truncate.Given as goal

-- the list may have lost indices at its end, but no index in it has changed
abbrev pub invariant-loop-self : goal.invariant-loop-self
invariant-loop-self l = record {
  fewer : l.self.last ≤ l.initial.self.last;
  same : l.self.offsets ≡ l.initial.self.offsets;
}

abbrev pub decreases-loop-self : goal.decreases-loop-self
decreases-loop-self l = l.self.last
