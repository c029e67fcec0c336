use Rattle.std.proofs.Common.{◌≡◌, ◌++◌, map, take}
use Rattle.std.specs.List.{flat_map}
use Rattle.path_archive.specs.EntryViews.{entry_value}
use Rattle.upath_commands.specs.Archives.{refusal_message}
use Rattle.upath_commands.proofs.refused.push_messages.Given as goal

abbrev pub invariant-loop-refusal : goal.invariant-loop-refusal
invariant-loop-refusal l =
    l.out.items ≡ l.initial.out.items
    ++ flat_map (refusal_message (map entry_value l.entries)) (take l.refusal-index l.refusals)
