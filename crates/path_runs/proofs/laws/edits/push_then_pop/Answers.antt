use Rattle.std.proofs.Common.{[], ◌∷◌, sym, ap, ◌∙◌}
use Rattle.unix_path.specs.Parts.{Normal, values}
use Rattle.std.specs.List.{last_or}
use Rattle.unix_path.specs.Edits.{with_name_of}
use Rattle.unix_path.specs.Rest.{rest}
use Rattle.unix_bytes.proofs.lemmas.lists.ListLemmas.{last_or-push}
use Rattle.path_runs.specs.declared.edits.Answer.TheVariants.{Plain, Flag}
use Rattle.unix_path.proofs.lemmas.names.NameCutLemmas.{name_cut}
use Rattle.path_runs.proofs.lemmas.joins.SiblingLemmas.{pop-answer, values-popped_of}
use Rattle.path_runs.proofs.lemmas.joins.SiblingLemmas.{parent_of-name}
use Rattle.path_runs.proofs.lemmas.joins.SiblingLemmas.{values-with_name_of, rest-with_name_of}
use Rattle.std.proofs.Common.{Some, None}
use Rattle.path_runs.proofs.laws.edits.push_then_pop.Goals as goal

pub returns : goal.returns
returns c = record {
  answers = λ s n name e. ap (λ b. Plain ∷ Flag b ∷ []) (pop-answer s n name e);
  values = values-popped_of;
  parent = λ s old n name f e.
      let t = with_name_of s n in
      let cut = name_cut s old f in
      parent_of-name t name (values (rest s 0 1)) (values-with_name_of s old n name f e)
      ∙ ap Some (rest-with_name_of s old n name f e)
      ∙ sym (parent_of-name s old (values cut.prefix) cut.before);
  last = λ s old n name f e.
      ap (last_or None) (values-with_name_of s old n name f e)
      ∙ last_or-push None (values (rest s 0 1)) (Normal name);
}
