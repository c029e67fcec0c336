use Rattle.std.proofs.Common.{refl, sym, ◌∙◌}
use Rattle.std.proofs.lemmas.Bool.{true≢false}
use Rattle.path_keys.specs.Codes.{code_bytes}
use Rattle.path_keys.proofs.lemmas.reading.LastCodeLemmas.{no_parent, root_parent, front_parent}
use Rattle.path_keys.proofs.parent.key_parent.Goals as goal

pub returns-in_default-clause-value : goal.returns-in_default-clause-value
returns-in_default-clause-value c = λ s e. no_parent s (c.in_default.ensures.none refl s e)

pub returns-then-is_root-clause-value : goal.returns-then-is_root-clause-value
returns-then-is_root-clause-value c = λ s e.
    let last = c.in-Some.last in
    root_parent c.args.key.now s last.start (code_bytes last.code) (c.in-Some.ensures.some s e)
    (c.is_root.ensures.0 c.if-is_root.true)

pub returns-clause-value : goal.returns-clause-value
returns-clause-value c = λ s e.
    let last = c.in-Some.last in
    front_parent c.args.key.now s last.start (code_bytes last.code)
    (λ root. true≢false (sym (c.is_root.ensures.1 root) ∙ c.if-is_root.false))
    (c.in-Some.ensures.some s e)
