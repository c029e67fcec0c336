use Rattle.unix_bytes.proofs.lemmas.vectors.SelectLemmas.{sel_l-lanes_ge}
use Rattle.unix_bytes.proofs.windows.select_ge.Goals as goal

pub returns : goal.returns
returns c = sel_l-lanes_ge c.args.min 16 c.args.bytes c.args.other c.fits-bytes.0
