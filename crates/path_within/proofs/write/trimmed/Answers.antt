use Rattle.std.proofs.Common.{ap, sym, ◌∙◌, arith}
use Rattle.unix_path.specs.CommonDir.{inner_values}
use Rattle.unix_path.specs.Scan.{is_filler}
use Rattle.path_within.proofs.lemmas.backward.PieceLemmas.{after_filler-resolved}
use Rattle.path_within.proofs.lemmas.backward.PieceLemmas.{after_filler-represents_names}
use Rattle.path_within.proofs.lemmas.below.NamesBelowLemmas.{RepresentsNames}
use Rattle.path_within.proofs.write.trimmed.Goals as goal
use Rattle.path_within.proofs.write.trimmed.Goals.{After-from_bytes}

-- the result represents the names of the path
represents : (c : After-from_bytes)
    → RepresentsNames c.from_bytes.result.bytes.now c.args.path.bytes.now
represents c =
    after_filler-represents_names c.without_filler.result.bytes.now c.from_bytes.result.bytes.now
    c.args.path.bytes.now c.without_filler.ensures
    (c.after_filler.ensures.same ∙ ap inner_values (sym c.from_bytes.ensures.bytes))
    (ap (λ s. is_filler s 0) c.from_bytes.ensures.bytes ∙ c.after_filler.ensures.not_filler)

pub returns-clause-rootless : goal.returns-clause-rootless
returns-clause-rootless c =
    (represents (goal.at.returns-clause-rootless c).After-from_bytes).rootless

pub returns-clause-names : goal.returns-clause-names
returns-clause-names c = (represents (goal.at.returns-clause-names c).After-from_bytes).names

pub returns-clause-resolved : goal.returns-clause-resolved
returns-clause-resolved c = grind (arith, after_filler-resolved)
