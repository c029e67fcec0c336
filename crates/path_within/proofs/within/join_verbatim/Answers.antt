use Rattle.std.proofs.Common.{arith, subst, sym, ◌∙◌}
use Rattle.path_runs.proofs.lemmas.joins.AssociativeLemmas.{join_of-nil}
use Rattle.unix_path.proofs.lemmas.parts.PartLemmas.{values-nil}
use Rattle.unix_path.specs.Parts.{values}
use Rattle.unix_path.specs.Prefixes.{IsPrefixOf}
use Rattle.path_within.proofs.lemmas.names_only.RequestLemmas.{begins_join}
use Rattle.path_within.proofs.within.join_verbatim.Goals as goal

pub returns-then-has_root_or_parent_dir-clause-succeeds :
    goal.returns-then-has_root_or_parent_dir-clause-succeeds
returns-then-has_root_or_parent_dir-clause-succeeds c = grind (arith, values-nil)

pub returns-in_err-join-clause-succeeds : goal.returns-in_err-join-clause-succeeds
returns-in_err-join-clause-succeeds c = grind (arith, join_of-nil)

pub returns-clause-within : goal.returns-clause-within
returns-clause-within c =
    subst (λ s. IsPrefixOf (values c.args.root.bytes.now) (values s))
    (sym c.in_ok-join.ensures.bytes)
    (begins_join c.args.root.bytes.now c.args.request.bytes.now
    (sym c.has_root_or_parent_dir.ensures ∙ c.if-has_root_or_parent_dir.false))
