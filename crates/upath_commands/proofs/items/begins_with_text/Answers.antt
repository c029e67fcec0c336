use Rattle.std.proofs.Common.{◌≡◌, sym, ap, subst, ◌∙◌, take, List, ℕ}
use Rattle.std.proofs.lemmas.Bool.Decides.{same_from_decides}
use Rattle.std.proofs.lemmas.List.{take_min}
use Rattle.unix_bytes.specs.Lossy.{is_text}
use Rattle.unix_bytes.specs.Utf8.{IsText}
use Rattle.upath_commands.proofs.items.begins_with_text.Goals as goal

pub returns : goal.returns
returns c =
    let bytes : List ℕ = c.args.bytes.now in
    let s : List ℕ = take c.args.len bytes in
    let (to, from) = c.tests_are_right.ensures.text s in
    let is : c.from_bytes.result.bytes.now ≡ s = c.from_bytes.ensures.bytes
    ∙ ap (λ n. take n bytes) c.min-len.ensures ∙ take_min c.args.len bytes in
    same_from_decides c.is_some.result (is_text s) (
      λ e. subst IsText is (c.to_str.ensures.value.0 (sym c.is_some.ensures ∙ e)),
      λ h. c.is_some.ensures ∙ c.to_str.ensures.value.1 (subst IsText (sym is) h),
    ) (to, from)
