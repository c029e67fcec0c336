use Rattle.std.proofs.Common.{◌++◌, sym, ap, ◌∙◌, append-nil}
use Rattle.std.specs.List.{flat_map}
use Rattle.upath_commands.specs.Shown.{shown, shown_chunk}
use Rattle.upath_commands.proofs.shown.push_shown.Goals as goal

pub returns : goal.returns
unfolding shown
returns c =
    sym (append-nil c.loop-chunk.out.items)
    ∙ ap (λ chunks. c.loop-chunk.out.items ++ flat_map shown_chunk chunks)
    (sym c.in-None.ensures.steps.0) ∙ c.loop-chunk.invariant
