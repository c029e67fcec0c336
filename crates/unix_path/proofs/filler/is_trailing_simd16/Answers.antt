use Rattle.std.proofs.Common.{eqb-true}
use Rattle.unix_path.proofs.lemmas.filler.TrailingBlockLemmas.{trailing_block}
use Rattle.unix_path.proofs.filler.is_trailing_simd16.Goals as goal

pub returns : goal.returns
returns c = λ e.
    trailing_block c.args.path.now c.args.at c.requires.after c.requires.in_range (eqb-true _ 0 e)
