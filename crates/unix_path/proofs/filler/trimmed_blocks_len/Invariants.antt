use Rattle.std.proofs.Common.{◌≡◌, ◌≤◌, take}
use Rattle.unix_path.specs.Parts.{parts}
use Rattle.unix_path.proofs.filler.trimmed_blocks_len.Given as goal

abbrev pub invariant-loop-end : goal.invariant-loop-end
invariant-loop-end l = record {
  forward : l.min ≤ l.end;
  in_range : l.end ≤ l.len;
  same : parts (take l.end l.path) ≡ parts (take l.len l.path);
}

abbrev pub decreases-loop-end : goal.decreases-loop-end
decreases-loop-end l = l.end
