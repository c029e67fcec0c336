use Rattle.std.proofs.Common.{◌≡◌, drop}
use Rattle.std.specs.List.{find}
use Rattle.std.specs.Str.{bytes_eq}
use Rattle.upath_commands.proofs.runs.help_text.Given as goal

abbrev pub invariant-loop-help : goal.invariant-loop-help
invariant-loop-help l =
    find (λ help. bytes_eq help.name.now l.name) (drop l.help-index l.texts.commands.now)
    ≡ find (λ help. bytes_eq help.name.now l.name) l.texts.commands.now
