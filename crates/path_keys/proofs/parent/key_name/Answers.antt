use Rattle.std.proofs.Common.{refl}
use Rattle.path_keys.specs.Codes.{code_bytes}
use Rattle.path_keys.proofs.lemmas.reading.LastCodeLemmas.{no_name, last_name}
use Rattle.path_keys.proofs.parent.key_name.Goals as goal

pub returns-in_default-clause-value : goal.returns-in_default-clause-value
returns-in_default-clause-value c = λ s e. no_name s (c.in_default.ensures.none refl s e)

pub returns-clause-value : goal.returns-clause-value
returns-clause-value c = λ s e.
    let last = c.in-Some.last in
    last_name c.args.key.now s last.start (code_bytes last.code) _ (c.in-Some.ensures.some s e)
    c.name.ensures.value
