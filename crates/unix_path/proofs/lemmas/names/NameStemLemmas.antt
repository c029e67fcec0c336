-- A file name as a path of its own, and what follows its stem.
use Rattle.std.proofs.Common.{◌≡◌, ℕ, ◌+◌, ◌-◌, ◌<◌, List, ◌++◌, length, take, drop}
use Rattle.std.proofs.Common.{Option, Some, None, ltb, refl, sym, ap, ap₂, ◌∙◌, arith}
use Rattle.std.proofs.Common.{ltb-true, ltb-false, length-append, length-take-le}
use Rattle.std.proofs.Math.Seq.{take-append_seam, drop-append_seam}
use Rattle.std.proofs.lemmas.List.{drop-drop}
use Rattle.std.proofs.lemmas.Option.{same_Some}
use Rattle.unix_path.specs.Parts.{parts, values}
use Rattle.unix_path.specs.Names.{extension_of, file_name_of, after_last, split_name}
use Rattle.unix_path.specs.Edits.{last_start_of, stem_end_of}
use Rattle.unix_path.specs.Extensions.{name_end_of}
use Rattle.unix_bytes.proofs.lemmas.lists.ListLemmas.{by_test}
use Rattle.unix_path.proofs.lemmas.names.NameCutLemmas.{name_cut, values-name}
use Rattle.unix_path.proofs.lemmas.names.NameEndLemmas.{name_end_of-some}
use Rattle.unix_path.proofs.lemmas.names.NameLemmas.{is_dot, split_name-cut, split_name-stem}
use Rattle.unix_path.proofs.lemmas.names.NameLemmas.{split_name-whole}
use Rattle.unix_path.proofs.lemmas.names.NamedLemmas.{name_end}
use Rattle.unix_path.proofs.lemmas.names.StemCutLemmas.{stem_end_of-take}
use Rattle.unix_path.proofs.lemmas.names.StemLemmas.{last_start_of-name}
use Rattle.unix_path.proofs.lemmas.names.StemLemmas.{stem_end_of-some}
use Rattle.unix_path.proofs.lemmas.names.NamedLemmas.{name_end_of-take}
use Rattle.std.proofs.lemmas.List.{take_rest}

-- y, taken as a path, has the file name y, which starts at index 0
record IsOwnName (y : List ℕ) : Type 0 where
  name : file_name_of (values y) ≡ Some y
  start : last_start_of (parts y) ≡ 0

own_name : (s y : List ℕ) → Some y ≡ file_name_of (values s) → IsOwnName y
unfolding file_name_of
own_name s y e =
    let name : file_name_of (values y) ≡ Some y =
    ap file_name_of (values-name y (name_cut s y (sym e)).is_name) in
    let cut = name_cut y y name in
    grind (arith, length-append)

-- if `name` is the file name of s, then `name`, taken as a path, has a file name that ends where
-- `name` ends
pub name_end_of-name : (s name : List ℕ) → Some name ≡ file_name_of (values s)
    → name_end_of name ≡ Some (length name)
unfolding name_end_of
name_end_of-name s name e = grind (arith, own_name)

-- if `name` is the file name of s, and the stem of `name`, taken as a path, ends at `end`, then the
-- first `end` bytes of `name` are its stem
pub take-stem_end : (s name : List ℕ) (end : ℕ) → Some name ≡ file_name_of (values s)
    → stem_end_of name ≡ Some end → take end name ≡ (split_name name).0
unfolding stem_end_of
take-stem_end s name end e at = grind (arith, own_name s name e, split_name-stem name)

-- if the stem of `name` is as long as `name`, `name` has no extension
extension-none : (name : List ℕ) → length (split_name name).0 ≡ length name
    → (split_name name).1 ≡ None
extension-none name e =
    let n = after_last is_dot name in
    by_test (ltb 1 n)
    (λ t.
    let cut = split_name-cut name n refl (ltb-true _ _ t) in
    absurd (omega (
      arith,
      e,
      ltb-true _ _ t,
      ap (λ r. length r.0) cut,
      length-take-le (n - 1) name (omega arith),
    )))
    (λ f. ap (λ r. r.1) (split_name-whole name n refl (omega (arith, ltb-false _ _ f))))

-- if the stem of `name` is shorter than `name`, the extension is the bytes of `name` after the stem
-- and one more byte, which is the dot
extension-some : (name : List ℕ) → length (split_name name).0 < length name
    → (split_name name).1 ≡ Some (drop (length (split_name name).0 + 1) name)
extension-some name l =
    let n = after_last is_dot name in
    by_test (ltb 1 n)
    (λ t.
    let cut = split_name-cut name n refl (ltb-true _ _ t) in
    let at : n ≡ length (split_name name).0 + 1 = omega (
      arith,
      ltb-true _ _ t,
      ap (λ r. length r.0) cut,
      length-take-le (n - 1) name (omega arith),
    ) in
    ap (λ r. r.1) cut ∙ ap (λ k. Some (drop k name)) at)
    (λ f. absurd (omega (
      arith,
      l,
      ap (λ r. length r.0) (split_name-whole name n refl (omega (arith, ltb-false _ _ f))),
    )))

-- s has a file name that ends at `end` and whose stem ends at `stem`
record EndsAt (s : List ℕ) (end stem : ℕ) : Type 0 where
  name : List ℕ
  is : Some name ≡ file_name_of (values s)
  end_is : end ≡ last_start_of (parts s) + length name
  stem_is : stem ≡ last_start_of (parts s) + length (split_name name).0

ends_at : (s : List ℕ) (end stem : ℕ) → Some end ≡ name_end_of s
    → stem_end_of (take end s) ≡ Some stem → EndsAt s end stem
ends_at s end stem e at =
    let h = name_end s end (sym e) in
    let to : end - length h.bytes + length (split_name h.bytes).0 ≡ stem = same_Some _ _
    (stem_end_of-some s h.bytes end h.name h.is refl ∙ sym (stem_end_of-take s end (sym e)) ∙ at) in
    grind (arith, last_start_of-name)

-- if there is no index where the file name of s ends, s has no extension
pub extension_of-nameless : (s : List ℕ) → None ≡ name_end_of s → None ≡ extension_of (values s)
extension_of-nameless s e = grind (arith, name_end_of-some)

-- if the file name of s ends at `end`, and the stem of the first `end` bytes of s ends at `stem`,
-- which is `end`, then s has no extension
pub extension_of-none : (s : List ℕ) (end stem : ℕ) → Some end ≡ name_end_of s
    → stem_end_of (take end s) ≡ Some stem → stem ≡ end → None ≡ extension_of (values s)
extension_of-none s end stem e at same = grind (arith, ends_at s end stem e at, extension-none)

-- if the file name of s ends at `end`, and the stem of the first `end` bytes of s ends at `stem`,
-- which is less than `end`, then the extension of s is the bytes of s from `stem + 1` up to `end`,
-- exclusive
pub extension_of-some : (s : List ℕ) (end stem : ℕ) → Some end ≡ name_end_of s
    → stem_end_of (take end s) ≡ Some stem → stem < end
    → Some (drop (stem + 1) (take end s)) ≡ extension_of (values s)
extension_of-some s end stem e at less =
    let h = ends_at s end stem e at in
    let k = length (split_name h.name).0 + 1 in
    let cut = name_cut s h.name (sym h.is) in
    let named : take end s ≡ cut.prefix ++ h.name =
    ap₂ take (omega (arith, h.end_is, cut.start, length-append cut.prefix h.name)) cut.whole
    ∙ take-append_seam (cut.prefix ++ h.name) cut.back in
    let there : drop (stem + 1) (take end s) ≡ drop k h.name =
    ap₂ drop {x = stem + 1} {y = length cut.prefix + k} (omega (arith, h.stem_is, cut.start)) named
    ∙ sym (drop-drop k (length cut.prefix) (cut.prefix ++ h.name))
    ∙ ap (drop k) (drop-append_seam cut.prefix h.name) in
    grind (arith, extension-some)

-- the extension of a string that ends in a name, and of others
pub ruleset extensions = (
  extension_of-nameless,
  extension_of-none,
  extension_of-some,
  name_end_of-take,
  length-take-le,
  take_rest,
)

-- the stem of a string that ends in a name
pub ruleset stems = (name_end_of-name, take-stem_end)
