use Rattle.std.proofs.Common.{◌≡◌, sym, ◌∙◌, rules, tests}
use Rattle.path_within.proofs.lemmas.backward.StepLemmas.{no_relative_path-roots}
use Rattle.path_within.proofs.relative.steps.Goals as goal

pub returns-then-has_root : goal.returns-then-has_root
returns-then-has_root c = sym (no_relative_path-roots c.args.from.bytes.now c.args.to.bytes.now
    (λ e. let same : c.has_root.result ≡ c.has_root-2.result =
    c.has_root.ensures.value ∙ e ∙ sym c.has_root-2.ensures.value in search (rules, tests)))
