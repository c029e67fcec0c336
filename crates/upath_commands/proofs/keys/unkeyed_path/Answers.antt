use Rattle.std.proofs.Common.{rules, sym, ap, ◌∙◌}
use Rattle.std.specs.Option.{option_and_then}
use Rattle.upath_commands.specs.KeyTexts.{key_path}
use Rattle.upath_commands.proofs.lemmas.KeyTextLemmas.{key_path-none, key_path-some}
use Rattle.upath_commands.proofs.keys.unkeyed_path.Goals as goal

pub returns-in-Ok : goal.returns-in-Ok
returns-in-Ok c =
    key_path-some _ _ c.in-Ok.ensures.values c.in-Ok.ensures.read_back
    ∙ ap key_path c.as_slice.ensures.value
    ∙ ap (option_and_then key_path) (rw c.in-Some.is at c.in_ok-key.ensures)

pub returns-in-Err-NotAKey : goal.returns-in-Err-NotAKey
returns-in-Err-NotAKey c =
    sym (key_path-none _ (c.in-Err-NotAKey.ensures.not_a_key.0 (search rules)))
    ∙ ap key_path c.as_slice.ensures.value
    ∙ ap (option_and_then key_path) (rw c.in-Some.is at c.in_ok-key.ensures)
