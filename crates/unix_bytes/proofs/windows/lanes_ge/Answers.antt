use Rattle.std.proofs.Common.{◌<◌, sym, subst, arith}
use Rattle.unix_bytes.proofs.lemmas.vectors.MaskLemmas.{min_mask, mask_bound}
use Rattle.unix_bytes.proofs.windows.lanes_ge.Goals as goal

pub returns-clause-bits : goal.returns-clause-bits
returns-clause-bits c = min_mask c.args.min 16 c.args.bytes c.fits-bytes.0 (omega arith)

pub returns-clause-bound : goal.returns-clause-bound
returns-clause-bound c =
    subst (λ n. n < 0x10000)
    (sym (min_mask c.args.min 16 c.args.bytes c.fits-bytes.0 (omega arith)))
    (mask_bound c.args.min c.args.bytes c.fits-bytes.0)
