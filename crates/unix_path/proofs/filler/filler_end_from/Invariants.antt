use Rattle.std.proofs.Common.{◌≡◌, ℕ, ◌+◌, ◌-◌, ◌≤◌, length, drop}
use Rattle.unix_path.specs.Parts.{inner_parts}
use Rattle.unix_path.proofs.filler.filler_end_from.Given as goal

abbrev pub invariant-loop-len : goal.invariant-loop-len
invariant-loop-len l = record {
  in_range : l.len ≤ length l.path;
  filler : (at : ℕ) → inner_parts (at + l.start) (drop l.start l.path)
      ≡ inner_parts (at + l.len) (drop l.len l.path);
}

abbrev pub decreases-loop-len : goal.decreases-loop-len
decreases-loop-len l = length l.path - l.len
