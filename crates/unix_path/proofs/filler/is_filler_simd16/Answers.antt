use Rattle.std.proofs.Common.{eqb-true}
use Rattle.unix_path.proofs.lemmas.filler.FillerBlockLemmas.{filler_block}
use Rattle.unix_path.proofs.filler.is_filler_simd16.Goals as goal

pub returns : goal.returns
returns c = λ e. filler_block c.args.path.now c.args.at c.requires (eqb-true _ 0 e)
