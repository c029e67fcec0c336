use Rattle.std.proofs.Common.{ap, length, ◌∙◌}
use Rattle.unix_path.specs.Rest.{rest}
use Rattle.unix_path_c.proofs.lemmas.walks.RemainingLemmas.{is_rest_span}
use Rattle.unix_path_c.proofs.walks.unix_path_as_path.Goals as goal

pub returns : goal.returns
returns c =
    let h = is_rest_span c.args.path.now c.args.walk.now _ c.min.ensures
    (ap length (c.as_path.ensures.bytes ∙ c.components.ensures.rest
    ∙ ap (λ s. rest s 0 0) c.rest_of.ensures)) in
    record { bytes = h.bytes; values = h.same; start = c.min.ensures; in_range = h.in_range }
