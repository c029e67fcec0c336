-- Setting a simple extension: one that isn't empty and has neither a dot nor a slash.
use Rattle.std.proofs.Common.{◌≡◌, ◌≢◌, ℕ, ◌<◌, true, List, [], ◌∷◌, ◌++◌, length, Some}
use Rattle.std.proofs.Common.{refl, sym, ap, subst, ◌∙◌, arith}
use Rattle.std.proofs.Common.{append_assoc, length-append}
use Rattle.unix_path.specs.Parts.{Normal, values}
use Rattle.unix_path.specs.Rest.{rest}
use Rattle.unix_path.specs.Parents.{parent_of}
use Rattle.unix_path.specs.Names.{file_name_of, split_name, stem_of, extension_of}
use Rattle.unix_path.specs.Edits.{with_extension_of}
use Rattle.unix_path.specs.Joins.{needs_no_separator}
use Rattle.unix_path.proofs.lemmas.edits.EditLemmas.{dot_before-some}
use Rattle.path_runs.specs.EditLaws.{HasNoByte, IsSimpleExtension, SetsExtension}
use Rattle.path_runs.proofs.lemmas.joins.AppendedLemmas.{rest-appended}
use Rattle.path_runs.proofs.lemmas.names.ExtensionCutLemmas.{with_extension_of-cut}
use Rattle.path_runs.proofs.lemmas.names.DotLemmas.{split_case}
use Rattle.path_runs.proofs.lemmas.names.DotLemmas.{split_name-dot}
use Rattle.path_runs.proofs.lemmas.joins.LeadLemmas.{append_values, append_values-inner}
use Rattle.path_runs.proofs.lemmas.joins.LeadLemmas.{values-append_open}
use Rattle.unix_path.proofs.lemmas.names.NameCutLemmas.{IsName, NameCut, name_cut, values-name}
use Rattle.path_runs.proofs.lemmas.names.PieceNameLemmas.{no_slash_byte, long-name}
use Rattle.std.proofs.lemmas.List.Elements.{All-append, All-cons, All-take}
use Rattle.unix_path.proofs.lemmas.names.NameLemmas.{split_name-stem}
use Rattle.path_runs.proofs.lemmas.joins.SiblingLemmas.{parent_of-name, file_name_of-name}

-- if `name` has at least one byte, its stem does too
some_stem : (name : List ℕ) → 0 < length name → 0 < length (split_name name).0
some_stem name l = grind (arith, split_case)

-- t has a file name with the stem `stem` and the extension x, and the same parent as s
record NewExtension (s t stem x : List ℕ) : Type 0 where
  pub name : List ℕ
  pub file_name : file_name_of (values t) ≡ Some name
  pub split : split_name name ≡ (stem, Some x)
  pub parent : parent_of t ≡ parent_of s

-- the stem of a name, followed by a dot and an extension that isn't empty and has no slash, is a
-- name
new_name : (name : List ℕ) (b : ℕ) (x : List ℕ) → IsName name → HasNoByte 47 (b ∷ x)
    → IsName ((split_name name).0 ++ 46 ∷ b ∷ x)
new_name name b x h k =
    let stem = (split_name name).0 in
    let some = some_stem name h.some in
    let stem_bytes = subst (HasNoByte 47) (split_name-stem name)
    (All-take (λ c. c ≢ 47) (length stem) name (no_slash_byte name h.no_slash)) in
    long-name (stem ++ 46 ∷ b ∷ x) (omega (arith, length-append stem (46 ∷ b ∷ x)))
    (All-append (λ c. c ≢ 47) stem (46 ∷ b ∷ x) stem_bytes
    (All-cons (λ c. c ≢ 47) 46 (b ∷ x) (λ e. absurd (omega arith)) k))

-- if s is u and then b, u is empty or ends in a slash, and s has the components of u and then the
-- name `name`, then the parent of s is u without trailing filler
parent_of-open : (s u b name : List ℕ) → s ≡ u ++ b → needs_no_separator u ≡ true
    → values s ≡ values u ++ Normal name ∷ [] → parent_of s ≡ Some (rest u 0 0)
parent_of-open s u b name is o e = grind (arith, parent_of-name, rest-appended)

-- if s has the file name `name` and is cut at that name (`NameCut`), and b ∷ x has neither a dot
-- nor a slash, then s with b ∷ x set as its extension has the same stem and parent as s, and the
-- extension b ∷ x
new_extension-cut : (s name : List ℕ) (b : ℕ) (x : List ℕ) → file_name_of (values s) ≡ Some name
    → NameCut s name → HasNoByte 46 (b ∷ x) → HasNoByte 47 (b ∷ x)
    → NewExtension s (with_extension_of s (b ∷ x)) (split_name name).0 (b ∷ x)
new_extension-cut s name b x e c dot slash =
    let stem = (split_name name).0 in
    let new = stem ++ 46 ∷ b ∷ x in
    let t = with_extension_of s (b ∷ x) in
    let is : t ≡ c.prefix ++ new = with_extension_of-cut s name (b ∷ x) e c
    ∙ ap (λ gap. c.prefix ++ (stem ++ (gap ++ b ∷ x))) (dot_before-some b x) in
    let all : values t ≡ values c.prefix ++ Normal new ∷ [] =
    ap values is ∙ values-append_open c.prefix new c.ends
    ∙ ap (append_values (values c.prefix)) (values-name new (new_name name b x c.is_name slash))
    ∙ append_values-inner (values c.prefix) (Normal new ∷ []) (tt, tt) in
    record {
      name = new;
      file_name = file_name_of-name t new (values c.prefix) all;
      split = split_name-dot stem (b ∷ x) (some_stem name c.is_name.some) dot;
      parent = parent_of-open t c.prefix new new is c.ends all
          ∙ sym (parent_of-open s c.prefix (name ++ c.back) name
          (c.whole ∙ append_assoc c.prefix name c.back) c.ends c.before);
    }

-- if s has the file name `name`, and the extension x is simple, then s with x set as its extension
-- has the same stem and parent as s, and the extension x
set_extension : (s name x : List ℕ) → file_name_of (values s) ≡ Some name
    → IsSimpleExtension x
    → NewExtension s (with_extension_of s x) (split_name name).0 x
set_extension s name [] e h = absurd (h.some refl)
set_extension s name (b ∷ x) e h = grind (arith, new_extension-cut, name_cut)

-- if x is simple, and setting it as the extension turns s into t, with the answer true, then s has
-- a file name, and t has the stem and the parent of s, and the extension x
new_extension : (s x t : List ℕ) → SetsExtension s x t
    → (name : List ℕ) × (file_name_of (values s) ≡ Some name)
    × NewExtension s t (split_name name).0 x
new_extension s x t h = grind (arith, set_extension)

-- if x is simple, and setting it as the extension turns s into t, with the answer true, then t has
-- the stem of s
pub stem_of-new_extension : (s x t : List ℕ) → SetsExtension s x t
    → stem_of (values t) ≡ stem_of (values s)
stem_of-new_extension s x t h = grind (arith, new_extension s x t h)

-- if x is simple, and setting it as the extension turns s into t, with the answer true, then t has
-- the extension x
pub extension_of-new_extension : (s x t : List ℕ) → SetsExtension s x t
    → extension_of (values t) ≡ Some x
extension_of-new_extension s x t h = grind (arith, new_extension s x t h)

-- if x is simple, and setting it as the extension turns s into t, with the answer true, then t has
-- the parent of s
pub parent_of-new_extension : (s x t : List ℕ) → SetsExtension s x t → parent_of t ≡ parent_of s
parent_of-new_extension s x t h = (new_extension s x t h).2.parent

pub ruleset extension_set_cases = (
  stem_of-new_extension,
  extension_of-new_extension,
  parent_of-new_extension,
)
