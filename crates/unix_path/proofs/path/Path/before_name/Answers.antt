use Rattle.std.proofs.lemmas.Grind.{common_steps}
use Rattle.std.proofs.Common.{◌≡◌, Some, length, take, sym, ◌∙◌, arith, length-take-le}
use Rattle.std.proofs.Common.{take-take}
use Rattle.std.specs.Str.{bytes_eq}
use Rattle.unix_path.specs.Edits.{before_name_of}
use Rattle.unix_path.specs.Extensions.{name_end_of}
use Rattle.unix_path.specs.Parts.{cur_dir}
use Rattle.unix_path.specs.Scan.{ends_with_parent_dir}
use Rattle.unix_bytes.proofs.lemmas.lists.ListLemmas.{by_test}
use Rattle.unix_path.proofs.lemmas.names.NamedLemmas.{ends_in_name, ends_part, name_end_of-take}
use Rattle.unix_path.proofs.lemmas.names.NamedLemmas.{nameless-dot, nameless-parent, take-name_end}
use Rattle.unix_path.proofs.lemmas.names.NameEndLemmas.{file_name_of-name_end}
use Rattle.unix_path.proofs.lemmas.names.NameEndLemmas.{file_name_of-no_name_end}
use Rattle.unix_path.proofs.lemmas.names.ParentLemmas.{rest-whole_last}
use Rattle.unix_path.proofs.path.Path.before_name.Goals as goal

pub returns-in_default-clause-value : goal.returns-in_default-clause-value
unfolding before_name_of
returns-in_default-clause-value c = grind (arith, common_steps, file_name_of-no_name_end)

pub split_last_root_or_name-len-requires : goal.split_last_root_or_name-len-requires
split_last_root_or_name-len-requires c =
    let s = c.args.self.now.bytes.now in
    let t = take c.in-Some.end s in
    let named : name_end_of t ≡ Some (length t) =
    name_end_of-take s c.in-Some.end (sym c.in-Some.ensures.value) c.in-Some.ensures.in_range in
    let ends = ends_in_name t named in
    let some = ends.some in
    record {
      some = omega arith;
      no_dot = by_test (bytes_eq t cur_dir) (λ e. absurd (nameless-dot t e named)) (λ e. e);
      no_parent = by_test (ends_with_parent_dir t) (λ e. absurd (nameless-parent t e named))
          (λ e. e);
      ends = ends_part t ends.end;
    }

pub returns-clause-value : goal.returns-clause-value
unfolding before_name_of
returns-clause-value c =
    let s = c.args.self.now.bytes.now in
    let end = c.in-Some.end in
    let is = c.in-Some.ensures.value in
    let len = c.split_last_root_or_name-len in
    let size = length-take-le end s c.in-Some.ensures.in_range in
    rw (file_name_of-name_end s end is)
    (rest-whole_last s (take-name_end s end (sym is))
    (sym (take-take len.result.0 end s (omega arith)) ∙ sym len.ensures.rest))
