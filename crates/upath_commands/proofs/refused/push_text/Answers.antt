use Rattle.std.proofs.Common.{◌++◌, codes, ap₂, ◌∙◌, append_assoc}
use Rattle.upath_commands.specs.Shown.{shown}
use Rattle.upath_commands.proofs.refused.push_text.Goals as goal

pub returns-in_ok-push_shown-in-TargetIsLink : goal.returns-in_ok-push_shown-in-TargetIsLink
returns-in_ok-push_shown-in-TargetIsLink c =
    rw c.in-TargetIsLink.is
    (c.in_ok-push_shown-in-TargetIsLink.ensures
    ∙ ap₂ (λ out path. out ++ shown path) c.in_ok-extend_from_slice-in-TargetIsLink.ensures.items
    c.path.ensures
    ∙ append_assoc c.args.out.now.items (codes "hard link to the link ") _)
