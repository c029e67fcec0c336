use Rattle.std.proofs.Common.{refl, ap, length, ◌∙◌}
use Rattle.unix_path.specs.Rest.{rest}
use Rattle.unix_path_c.proofs.lemmas.walks.RemainingLemmas.{is_fresh}
use Rattle.unix_path_c.proofs.walks.unix_path_components.Goals as goal

pub returns : goal.returns
returns c =
    let b = is_fresh c.args.path.now _ refl
    (ap length (c.as_path.ensures.bytes ∙ c.components-parts.ensures.rest
    ∙ ap (λ s. rest s 0 0) c.from_bytes.ensures.bytes)) in
    record {
      parts = b.parts_are;
      values = b.values_are;
      remaining_bytes = b.remaining_is;
      in_order = (b.in_order, (b.in_range, tt));
    }
