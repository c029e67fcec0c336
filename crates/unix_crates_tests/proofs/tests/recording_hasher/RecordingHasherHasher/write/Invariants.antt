use Rattle.std.proofs.Common.{◌≡◌, ◌+◌, cond, nat_lt, fold, slice_set, length, ℕ}
use Rattle.unix_crates_tests.specs.declared.tests.recording_hasher.RecordingHasher.{RecordingHasher}
use Rattle.unix_crates_tests.proofs.tests.recording_hasher.RecordingHasherHasher.write.Given as goal

abbrev pub push : RecordingHasher → ℕ → RecordingHasher
push state b =
    cond (nat_lt state.len 64)
    (record { bytes = slice_set state.bytes state.len b; len = state.len + 1 }) state

abbrev pub invariant-loop-byte : goal.invariant-loop-byte
invariant-loop-byte l = fold push l.self l.rest ≡ fold push l.initial.self l.bytes

abbrev pub decreases-loop-byte : goal.decreases-loop-byte
decreases-loop-byte l = length l.rest
