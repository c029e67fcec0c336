use Rattle.std.proofs.Common.{arith}
use Rattle.std.proofs.lemmas.List.{take_rest}
use Rattle.unix_path.proofs.lemmas.steps.LeadLemmas.{is_first}
use Rattle.unix_path.proofs.cursor.steps.split_lead.Goals as goal

pub returns : goal.returns
returns c =
    let path = c.args.path.now in
    let filler = simp take_rest at c.filler_len.ensures in
    let first = is_first path 1 c.filler_len.result _ (omega arith)
    c.lead.ensures filler.in_range (filler.filler 1) filler.not_filler in
    record {
      in_range = first.in_range;
      parts = (1, first.parts_are);
      not_filler = first.not_filler;
    }
