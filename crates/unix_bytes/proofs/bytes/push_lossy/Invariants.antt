use Rattle.std.proofs.Common.{◌≡◌, ◌++◌, length}
use Rattle.unix_bytes.specs.Lossy.{lossy_of}
use Rattle.unix_bytes.proofs.bytes.push_lossy.Given as goal

-- `bytes` and then the lossy form of `unread` are the bytes that `bytes` had before the call and
-- then the lossy form of `source`
abbrev pub invariant-loop-unread : goal.invariant-loop-unread
invariant-loop-unread l =
    l.bytes.items ++ lossy_of l.unread ≡ l.initial.bytes.items ++ lossy_of l.source

abbrev pub decreases-loop-unread : goal.decreases-loop-unread
decreases-loop-unread l = length l.unread
