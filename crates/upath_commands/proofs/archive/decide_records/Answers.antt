use Rattle.std.proofs.Common.{◌≡◌, Some, ap₂, map, sym, ◌∙◌}
use Rattle.path_archive.specs.EntryViews.{entry_value}
use Rattle.path_archive.specs.Records.{entries_in}
use Rattle.upath_commands.specs.Archives.{none_refused}
use Rattle.upath_commands.proofs.lemmas.DecisionLemmas.{records_safe}
use Rattle.upath_commands.proofs.lemmas.ReplyLemmas.{if_ok}
use Rattle.upath_commands.proofs.archive.decide_records.Goals as goal

pub returns-clause-safe : goal.returns-clause-safe
returns-clause-safe c =
    let read : entries_in c.args.records.now ≡ Some (map entry_value c.in-Some.entries.items) =
    sym (rw c.in-Some.is at c.in_ok-entries.ensures) in
    let accepted = rw c.in-Some-2.is at c.in_ok-refusals.ensures.accepted in
    if_ok c.decide_entries.result
    (λ d e. records_safe c.args.options d.is_safe c.args.records.now
    (map entry_value c.in-Some.entries.items) c.in-Some-2.refusals.items read
    (rw c.level_of.ensures at (rw read at accepted))
    (e ∙ ap₂ (λ es rs. none_refused (map entry_value es) rs) c.as_slice.ensures.value
    c.as_slice-2.ensures.value)) c.decide_entries.ensures.safe
