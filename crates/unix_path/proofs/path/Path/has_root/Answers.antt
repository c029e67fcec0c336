use Rattle.std.proofs.Common.{ap, ◌∙◌, sym, eqb-true, not}
use Rattle.std.proofs.lemmas.List.{nil_from_length}
use Rattle.unix_path.specs.Parts.{is_rooted}
use Rattle.unix_path.proofs.lemmas.parts.PartLemmas.{is_rooted-at}
use Rattle.unix_path.proofs.lemmas.rests.RootLemmas.{rooted-IsPrefixOf}
use Rattle.unix_path.proofs.path.Path.has_root.Goals as goal

pub returns-then-not-is_empty-clause-root : goal.returns-then-not-is_empty-clause-root
returns-then-not-is_empty-clause-root c =
    let s = c.args.self.now.bytes.now in
    rooted-IsPrefixOf s _ (sym (is_rooted-at s))

pub returns-else-not-is_empty-clause-root : goal.returns-else-not-is_empty-clause-root
returns-else-not-is_empty-clause-root c =
    let none = nil_from_length _
    (eqb-true _ 0 (sym c.is_empty.ensures ∙ c.if-not-is_empty.false)) in
    rooted-IsPrefixOf _ _ (ap not c.if-not-is_empty.false ∙ sym (ap is_rooted none))
