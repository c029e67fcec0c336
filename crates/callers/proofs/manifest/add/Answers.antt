use Rattle.std.proofs.Common.{◌∙◌, sym, ap}
use Rattle.std.proofs.lemmas.Map.Views.{All-insert_key}
use Rattle.unix_path.specs.Parts.{values}
use Rattle.path_runs.specs.Spelling.{spelling_of}
use Rattle.callers.specs.Manifest.{paths_cmp, IsCanonical}
use Rattle.callers.proofs.manifest.add.Goals as goal

pub returns-clause-canonical : goal.returns-clause-canonical
returns-clause-canonical c =
    let spelled = c.in_ok-canonical.ensures.bytes in
    let same = ap values spelled ∙ c.canonical_form.ensures.reads_back _ in
    let short = spelled ∙ sym (ap spelling_of same) in
    λ all. rw c.in_ok-insert.ensures.keys (All-insert_key paths_cmp _ IsCanonical _ all short)
