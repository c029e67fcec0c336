use Rattle.std.proofs.Common.{◌++◌, ◌∷◌, [], codes, ap, ◌∙◌, append_assoc}
use Rattle.std.specs.Str.{byte}
use Rattle.upath_commands.specs.Shown.{shown}
use Rattle.upath_commands.proofs.refused.push_or_target.Goals as goal

pub returns-in_ok-push : goal.returns-in_ok-push
returns-in_ok-push c =
    let old = c.args.out.now.items in
    let target = shown c.in-HardLink.target.bytes.now in
    rw c.in-HardLink.is
    (c.in_ok-push.ensures.items
    ∙ ap (λ out. out ++ byte " " ∷ []) (c.in_ok-push_shown.ensures
    ∙ ap (λ out. out ++ target) c.in_ok-extend_from_slice.ensures.items)
    ∙ append_assoc (old ++ codes "this path or the target ") target (byte " " ∷ [])
    ∙ append_assoc old (codes "this path or the target ") _)
