use Rattle.std.proofs.Common.{◌≡◌, rules, true, refl, ◌∙◌}
use Rattle.upath_commands.specs.Selections.{is_taken}
use Rattle.upath_commands.proofs.lemmas.CallLemmas.{replied_failed, replied_no, replied_none}
use Rattle.upath_commands.proofs.lemmas.CallLemmas.{replied_nothing, replied_yes}
use Rattle.upath_commands.proofs.engine.answer_next.Goals as goal

pub returns-in_err-take-clause-replied : goal.returns-in_err-take-clause-replied
returns-in_err-take-clause-replied g c =
    replied_nothing g.W.Sink g.E.Sink _ c.from_residual.result _ _ (search rules) (search rules)
    (search rules) c.requires

pub returns-then-not-branch-clause-replied : goal.returns-then-not-branch-clause-replied
returns-then-not-branch-clause-replied g c =
    replied_none g.W.Sink g.E.Sink _ _ _ _ (search rules) c.requires

pub returns-in_err-is_answered-clause-replied : goal.returns-in_err-is_answered-clause-replied
returns-in_err-is_answered-clause-replied g c =
    let k = c.in_err-is_answered.ensures.emitted in
    let is : is_taken c.args.selection.now c.args.path.bytes.now ≡ true = search rules in
    rw is
    (replied_failed g.W.Sink g.E.Sink _ _ c.from_residual-in_err-is_answered.result _ _ _
    (search rules) (search rules) (k.wrote.failed ∙ search rules) k refl)

pub returns-then-is_answered-clause-replied : goal.returns-then-is_answered-clause-replied
returns-then-is_answered-clause-replied g c =
    let is : is_taken c.args.selection.now c.args.path.bytes.now ≡ true = search rules in
    rw is
    (replied_yes g.W.Sink g.E.Sink _ _ c.in_ok-is_answered.is_answered _ _
    c.in_ok-is_answered.ensures.emitted c.in_ok-is_answered.ensures.answered (search rules)
    (search rules) (search rules) refl)

pub returns-clause-replied : goal.returns-clause-replied
returns-clause-replied g c =
    let is : is_taken c.args.selection.now c.args.path.bytes.now ≡ true = search rules in
    rw is
    (replied_no g.W.Sink g.E.Sink _ _ c.in_ok-is_answered.is_answered _ _
    c.in_ok-is_answered.ensures.emitted c.in_ok-is_answered.ensures.answered (search rules)
    (search rules) c.report.result (search rules) c.report.ensures.told c.report.ensures.err
    c.report.ensures.only_memory)
