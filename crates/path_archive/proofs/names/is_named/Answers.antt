use Rattle.std.proofs.Common.{rules, ◌≡◌, true, false, sym, ◌∙◌, true≢false}
use Rattle.unix_path.specs.Parts.{values}
use Rattle.path_within.specs.Below.{has_nul}
use Rattle.path_within.specs.Escapes.{has_root_or_parent_dir}
use Rattle.path_archive.specs.Rule.{is_directory}
use Rattle.path_archive.specs.Slots.{used_as_of}
use Rattle.path_archive.proofs.lemmas.refusals.NameLemmas.{goes_down_if, named_goes_down, named_if}
use Rattle.path_archive.proofs.names.is_named.Goals as goal

pub returns-then-not-goes_down : goal.returns-then-not-goes_down
returns-then-not-goes_down c =
    let test : c.goes_down.result ≡ false = search rules in (
      λ h. absurd (true≢false (sym h)),
      λ h. absurd (true≢false (sym (named_goes_down c.args.path.now (used_as_of c.args.rank) h)
          ∙ sym c.goes_down.ensures ∙ test)),
    )

pub returns-then-is_directory : goal.returns-then-is_directory
returns-then-is_directory c =
    let test : c.goes_down.result ≡ true = search rules in
    let down = goes_down_if (has_root_or_parent_dir (values c.args.path.now))
    (has_nul c.args.path.now) (sym c.goes_down.ensures ∙ test) in
    let directory : is_directory (used_as_of c.args.rank) ≡ true = search rules in (
      λ h. named_if c.args.path.now (used_as_of c.args.rank) down.0 down.1
          (λ leaf. absurd (true≢false (sym directory ∙ leaf))),
      λ h. c.is_directory.ensures
          ∙ directory,
    )

pub returns-else-is_directory : goal.returns-else-is_directory
returns-else-is_directory c =
    let test : c.goes_down.result ≡ true = search rules in
    let down = goes_down_if (has_root_or_parent_dir (values c.args.path.now))
    (has_nul c.args.path.now) (sym c.goes_down.ensures ∙ test) in
    let leaf : is_directory (used_as_of c.args.rank) ≡ false = search rules in (
      λ h. named_if c.args.path.now (used_as_of c.args.rank) down.0 down.1
          (λ _. sym c.ends_in_name.ensures ∙ h),
      λ h. c.ends_in_name.ensures ∙ h.ends leaf,
    )
