use Rattle.std.proofs.Common.{◌≡◌, ℕ, List, ◌++◌, length}
use Rattle.std.specs.Fmt.{HasWritten, IsPlainFormatter, HasWrittenStyled, IsFlush}
use Rattle.unix_bytes.specs.Lossy.{lossy_of}
use Rattle.unix_bytes.proofs.lossy.write_lossy.Given as goal

-- the bytes written so far, and then the lossy form of `pending`, are the lossy form of `source`
abbrev pub invariant-loop-pending : goal.invariant-loop-pending
invariant-loop-pending g l =
    let is_whole : List ℕ → Type 0 = λ bs. bs ++ lossy_of l.pending ≡ lossy_of l.fn.source in
    let took = g.W.Write.write_str_gives in
    record {
      plain : IsPlainFormatter l.fn.f → (bs : List ℕ)
          × HasWritten {W = g.row.W.Denot} took l.fn.f bs l.f × is_whole bs;
      styled : IsFlush l.fn.f → (bs : List ℕ)
          × HasWrittenStyled {W = g.row.W.Denot} took l.fn.f bs l.f × is_whole bs;
    }

abbrev pub decreases-loop-pending : goal.decreases-loop-pending
decreases-loop-pending g l = length l.pending
