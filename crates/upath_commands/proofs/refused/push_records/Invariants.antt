use Rattle.std.proofs.Common.{◌≡◌, ◌++◌, map, take}
use Rattle.std.specs.List.{flat_map}
use Rattle.path_archive.specs.EntryViews.{entry_value}
use Rattle.upath_commands.specs.Archives.{refusal_record}
use Rattle.upath_commands.proofs.refused.push_records.Given as goal

abbrev pub invariant-loop-refusal : goal.invariant-loop-refusal
invariant-loop-refusal l =
    l.out.items ≡ l.initial.out.items ++ flat_map (refusal_record l.options
    (map entry_value l.entries)) (take l.refusal-index l.refusals)
