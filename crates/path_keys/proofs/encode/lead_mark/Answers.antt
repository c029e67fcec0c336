use Rattle.std.proofs.Common.{sym, ◌∙◌, arith}
use Rattle.path_keys.proofs.lemmas.writing.LeadLemmas.{lead-none, lead-not_filler, lead-root}
use Rattle.path_keys.proofs.lemmas.writing.LeadLemmas.{lead-dot}
use Rattle.path_keys.proofs.encode.lead_mark.Goals as goal

pub returns-then-is_empty : goal.returns-then-is_empty
returns-then-is_empty c = grind (arith, lead-none)

pub returns-then-not-is_filler : goal.returns-then-not-is_filler
returns-then-not-is_filler c =
    lead-not_filler c.args.path.now (sym c.is_filler.ensures ∙ c.if-not-is_filler.true)

pub returns-then-path-eq47 : goal.returns-then-path-eq47
returns-then-path-eq47 c = grind (arith, lead-root)

pub returns : goal.returns
returns c = grind (arith, lead-dot)
