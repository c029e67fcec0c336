use Rattle.std.proofs.Common.{refl}
use Rattle.unix_bytes.proofs.lemmas.vectors.LaneLemmas.{eight_and_eight}
use Rattle.unix_bytes.proofs.utf8.ascii.is_short_ascii.Goals as goal

pub returns-then-is_ascii_simd8 : goal.returns-then-is_ascii_simd8
returns-then-is_ascii_simd8 c = λ h.
    eight_and_eight c.args.source.now _ refl c.requires.min c.requires.max
    (c.is_ascii_simd8.ensures c.if-is_ascii_simd8.true)
    (c.is_ascii_simd8-then-is_ascii_simd8.ensures h)
