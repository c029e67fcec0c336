use Rattle.std.proofs.Common.{◌≡◌, ◌≤◌, length}
use Rattle.path_archive.specs.Entries.{all_uses}
use Rattle.path_archive.specs.Records.{entries_in}
use Rattle.path_archive.specs.declared.decide.Verdict.TheVariants.{Accepted, Refused}
use Rattle.path_archive.proofs.lemmas.refusals.DecideLemmas.{first_refused}
use Rattle.path_archive.proofs.decide.check.Goals as goal

pub returns-in-Some-first_refusal_of-clause-accepted :
    goal.returns-in-Some-first_refusal_of-clause-accepted
returns-in-Some-first_refusal_of-clause-accepted c = (
  λ is. absurd
      (let e : Refused c.in-Some-first_refusal_of.refusal ≡ Accepted = is in cc),
  λ ok. absurd (first_refused c.args.level (entries_in c.args.records.now)
      c.in-Some-first_refusal_of.refusal
      (λ entries. length (all_uses entries) ≤ length c.args.slots.now)
      c.in-Some-first_refusal_of.ensures.some ok),
)
