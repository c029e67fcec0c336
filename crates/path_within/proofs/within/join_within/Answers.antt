use Rattle.std.proofs.Common.{arith}
use Rattle.unix_path.specs.Parts.{values}
use Rattle.path_within.specs.Escapes.{Escapes}
use Rattle.path_within.proofs.lemmas.below.BelowLawLemmas.{resolved-names_only_join}
use Rattle.path_within.proofs.lemmas.names_only.NamesOnlyLemmas.{is_names_only-rootless}
use Rattle.path_within.proofs.lemmas.below.NamesBelowLemmas.{names_below-resolved}
use Rattle.path_within.proofs.lemmas.stack.EscapeLemmas.{rootless-stays}
use Rattle.path_within.proofs.lemmas.below.WithinLemmas.{begins-within, resolved_of-within}
use Rattle.path_within.proofs.within.join_within.Goals as goal
use Rattle.path_within.proofs.within.join_within.Goals.{Else-is_refused}

-- if the check does not refuse the request, the request does not escape
stays : (c : Else-is_refused) → Escapes (values c.args.request.bytes.now) → ⊥
stays c escapes = grind arith

pub returns-then-is_names_only-clause-bytes : goal.returns-then-is_names_only-clause-bytes
returns-then-is_names_only-clause-bytes c =
    let a = c.args.root.bytes.now in
    let b = c.args.request.bytes.now in
    let stay = stays (goal.at.returns-then-is_names_only-clause-bytes c).Else-is_refused in
    grind (arith, resolved-names_only_join, rootless-stays)

pub returns-then-is_names_only-clause-within : goal.returns-then-is_names_only-clause-within
returns-then-is_names_only-clause-within c =
    begins-within c.args.root.bytes.now c.args.request.bytes.now _
    (stays (goal.at.returns-then-is_names_only-clause-within c).Else-is_refused)
    (returns-then-is_names_only-clause-bytes c)

pub returns-in_err-join-clause-succeeds : goal.returns-in_err-join-clause-succeeds
returns-in_err-join-clause-succeeds c =
    let a = c.args.root.bytes.now in
    let b = c.args.request.bytes.now in
    let stay = stays (goal.at.returns-in_err-join-clause-succeeds c).Else-is_refused in
    grind (arith, resolved-names_only_join, rootless-stays)

pub names_of-names-requires : goal.names_of-names-requires
names_of-names-requires c h =
    let stay = stays (goal.at.names_of-names-requires c).Else-is_refused in
    is_names_only-rootless c.args.request.bytes.now
    (c.check_escape-check.ensures.names_only (c.is_names_only-is_request_names_only.ensures.0 h))
    (rootless-stays c.args.request.bytes.now stay)

pub returns-clause-bytes : goal.returns-clause-bytes
returns-clause-bytes c =
    let a = c.args.root.bytes.now in
    let b = c.args.request.bytes.now in
    let stay = stays (goal.at.returns-clause-bytes c).Else-is_refused in
    grind (arith, names_below-resolved, resolved_of-within)

pub returns-in_err-to_path_buf-clause-succeeds : goal.returns-in_err-to_path_buf-clause-succeeds
returns-in_err-to_path_buf-clause-succeeds c =
    let a = c.args.root.bytes.now in
    let b = c.args.request.bytes.now in
    let stay = stays (goal.at.returns-in_err-to_path_buf-clause-succeeds c).Else-is_refused in
    grind (arith, names_below-resolved, resolved_of-within)

pub returns-clause-within : goal.returns-clause-within
returns-clause-within c =
    begins-within c.args.root.bytes.now c.args.request.bytes.now _
    (stays (goal.at.returns-clause-within c).Else-is_refused) (returns-clause-bytes c)
