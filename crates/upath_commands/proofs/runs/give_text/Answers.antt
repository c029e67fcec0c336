use Rattle.std.proofs.Common.{rules, refl, ◌∙◌}
use Rattle.upath_commands.proofs.lemmas.GiveLemmas.{gave_no_text, gave_text}
use Rattle.upath_commands.proofs.runs.give_text.Goals as goal

pub returns-in_err-add-clause-gave : goal.returns-in_err-add-clause-gave
returns-in_err-add-clause-gave g c =
    let k = c.in_err-add.ensures.emitted in
    gave_no_text g.W.Sink g.E.Sink _ c.from_residual.result _ _ _ (search rules)
    (k.wrote.failed ∙ search rules) k refl

pub returns-clause-gave : goal.returns-clause-gave
returns-clause-gave g c = gave_text g.W.Sink g.E.Sink _ _ _ c.in_ok-add.ensures.emitted refl
