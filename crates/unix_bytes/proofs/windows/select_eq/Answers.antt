use Rattle.unix_bytes.proofs.lemmas.vectors.SelectLemmas.{sel_l-equal}
use Rattle.unix_bytes.proofs.windows.select_eq.Goals as goal

pub returns : goal.returns
returns c = sel_l-equal c.args.value c.args.bound 16 c.args.bytes c.args.other c.fits-bytes.0
