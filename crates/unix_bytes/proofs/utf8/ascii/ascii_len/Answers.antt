use Rattle.std.proofs.lemmas.Grind.{common_steps}
use Rattle.std.proofs.Common.{◌≡◌, ◌+◌, ◌-◌, length, arith}
use Rattle.unix_bytes.proofs.lemmas.vectors.LaneLemmas.{fewer_ascii, ascii_window, ascii_prefix}
use Rattle.unix_bytes.proofs.utf8.ascii.ascii_len.Goals as goal

pub returns-then-non_ascii-ne0 : goal.returns-then-non_ascii-ne0
returns-then-non_ascii-ne0 c = grind (arith, common_steps, ascii_prefix)

pub loop-at-preserved : goal.loop-at-preserved
loop-at-preserved c = grind (arith, common_steps, ascii_window)

pub returns-then-non_ascii-eq0-clause-ascii : goal.returns-then-non_ascii-eq0-clause-ascii
returns-then-non_ascii-eq0-clause-ascii c =
    let s = c.args.source.now in
    let before = fewer_ascii s (length s - 16) _ (omega arith) c.loop-at.invariant in
    let end : length s - 16 + 16 ≡ length s = omega arith in
    grind (arith, common_steps, fewer_ascii, ascii_window)

pub returns : goal.returns
returns c =
    let s = c.args.source.now in
    let before = fewer_ascii s (length s - 16) _ (omega arith) c.loop-at.invariant in
    let prefix = ascii_prefix s _ _ (omega arith) before c.non_ascii_bits-non_ascii-2.ensures
    c.if-non_ascii-eq0.false in
    record { bound = prefix.0; ascii = prefix.1; some = prefix.2 }
