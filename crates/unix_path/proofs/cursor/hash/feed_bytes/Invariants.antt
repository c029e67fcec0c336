use Rattle.std.proofs.Common.{◌≡◌, ◌++◌, length, fold}
use Rattle.unix_path.specs.Hashed.{terminator, in_eights}
use Rattle.unix_path.proofs.cursor.hash.feed_bytes.Given as goal

abbrev pub invariant-loop-rest : goal.invariant-loop-rest
invariant-loop-rest g l =
    fold g.H.Hasher.write l.state (in_eights (l.rest ++ terminator))
    ≡ fold g.H.Hasher.write l.initial.state (in_eights (l.bytes ++ terminator))

abbrev pub decreases-loop-rest : goal.decreases-loop-rest
decreases-loop-rest g l = length l.rest
