use Rattle.std.proofs.Common.{refl}
use Rattle.std.proofs.lemmas.Grind.{common_steps}
use Rattle.std.proofs.Common.{arith}
use Rattle.unix_path.proofs.lemmas.order.AfterCutLemmas.{after_filler-is, past-nil, shares-past}
use Rattle.unix_path.proofs.lemmas.rests.SourceLemmas.{IsTail-trans}
use Rattle.unix_path.proofs.lemmas.order.StripLemmas.{Trims, stripped-end}
use Rattle.unix_path.proofs.lemmas.order.StripLemmas.{stripped-is}
use Rattle.unix_path.proofs.path.Path.strip_prefix.Goals.{After-trimmed_len}
use Rattle.unix_path.proofs.path.Path.strip_prefix.Goals as goal

trims : (c : After-trimmed_len) → Trims c.args.self.now.bytes.now c.trimmed_len.result
trims c = grind (arith, common_steps)

pub returns-in-Some-clause-value : goal.returns-in-Some-clause-value
returns-in-Some-clause-value c =
    stripped-is c.args.self.now.bytes.now c.args.base.bytes.now c.trimmed_len.result
    c.after_filler.result _ (trims (goal.at.returns-in-Some-clause-value c).After-trimmed_len) refl
    (IsTail-trans _ _ _ c.after_filler.ensures.tail c.in-Some.ensures.tail)
    (shares-past c.in-Some.ensures.rest_bytes (after_filler-is _ _ c.after_filler.ensures.tail
    c.after_filler.ensures.filler c.after_filler.ensures.not_filler) past-nil)
    c.after_filler.ensures.not_filler

pub returns-in-Some-clause-end : goal.returns-in-Some-clause-end
returns-in-Some-clause-end c =
    stripped-end c.args.self.now.bytes c.after_filler.result _ c.trimmed_len.result
    (trims (goal.at.returns-in-Some-clause-end c).After-trimmed_len) refl refl
    (IsTail-trans _ _ _ c.after_filler.ensures.tail c.in-Some.ensures.tail)
