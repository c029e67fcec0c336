-- The bytes and the components of a path with an extension set or added.
use Rattle.std.proofs.Common.{◌≡◌, ℕ, ◌+◌, false, eqb, List, [], ◌∷◌, ◌++◌, length, take, Option}
use Rattle.std.proofs.Common.{Some, None, refl, sym, ap, ◌∙◌, append_assoc, append-nil}
use Rattle.std.proofs.Common.{length-append, arith}
use Rattle.std.specs.Option.{option_map_or}
use Rattle.std.proofs.lemmas.Bool.{cond-false}
use Rattle.std.proofs.lemmas.List.{take_at}
use Rattle.unix_path.specs.Parts.{Value, Normal, parts, values}
use Rattle.unix_path.specs.Names.{file_name_of, split_name}
use Rattle.unix_path.specs.Edits.{last_start_of, stem_end_of, dot_before, with_extension_of}
use Rattle.unix_path.specs.Extensions.{name_end_of, added_extension_of}
use Rattle.unix_path.proofs.lemmas.edits.EditLemmas.{with_extension_at}
use Rattle.unix_path.proofs.lemmas.names.NameEndLemmas.{name_end_by, name_end_of-none}
use Rattle.unix_path.proofs.lemmas.names.NameEndLemmas.{added_extension_at, added_extension_of-none}
use Rattle.unix_path.proofs.lemmas.rests.MiddleLemmas.{middle, middle-push}
use Rattle.unix_path.proofs.lemmas.names.StemLemmas.{stem_end_by}
use Rattle.path_runs.proofs.lemmas.names.DotLemmas.{stem_prefix}
use Rattle.unix_path.proofs.lemmas.names.NameCutLemmas.{NameCut, name_cut}
use Rattle.path_runs.proofs.lemmas.joins.LeadLemmas.{append_values, values-append_open}

regroup : (f a b c : List ℕ) → ((f ++ a) ++ b) ++ c ≡ f ++ (a ++ (b ++ c))
regroup f a b c = simp append_assoc

-- if s is cut at its file name `name` (`NameCut`), and `name` is a and then r, the bytes of s up to
-- the end of a are the bytes before `name` and then a
take-name : (s name a r : List ℕ) (c : NameCut s name) → name ≡ a ++ r
    → take (last_start_of (parts s) + length a) s ≡ c.prefix ++ a
take-name s name a r c e = grind (arith, length-append, append_assoc, take_at)

-- if s has the file name `name`, s with the extension x set is the bytes before `name`, the stem of
-- `name`, a dot unless x is empty, and x
pub with_extension_of-cut : (s name x : List ℕ) → file_name_of (values s) ≡ Some name
    → (c : NameCut s name)
    → with_extension_of s x ≡ c.prefix ++ ((split_name name).0 ++ (dot_before x ++ x))
unfolding with_extension_of stem_end_of
with_extension_of-cut s name x e c =
    let stem = stem_prefix name in
    ap (λ o. with_extension_at s x (stem_end_by s o)) e
    ∙ ap (λ z. (z ++ dot_before x) ++ x) (take-name s name (split_name name).0 stem.0 c stem.1)
    ∙ regroup c.prefix (split_name name).0 (dot_before x) x

-- if s has the file name `name`, and x isn't empty, s with the extension x added is the bytes
-- before `name`, then `name`, a dot and x
added_extension_of-cut : (s name x : List ℕ) → eqb (length x) 0 ≡ false
    → file_name_of (values s) ≡ Some name → (c : NameCut s name)
    → added_extension_of s x ≡ c.prefix ++ (name ++ 46 ∷ x)
unfolding added_extension_of name_end_of
added_extension_of-cut s name x some e c =
    ap (λ o. added_extension_at s x (name_end_by s o)) e
    ∙ cond-false _ _ _ some
    ∙ ap (λ z. (z ++ 46 ∷ []) ++ x) (take-name s name name [] c (sym (append-nil name)))
    ∙ regroup c.prefix name (46 ∷ []) x

-- vs if these components have no file name; otherwise vs without the file name `name`, followed by
-- the components of the string `n name` (`append_values`)
abbrev pub renamed : (List ℕ → List ℕ) → List Value → List Value
renamed n vs =
    option_map_or (λ name. append_values (middle 0 1 vs) (values (n name))) (file_name_of vs) vs

-- if `f s` is s when s has no file name, and otherwise the bytes before the file name `name` and
-- then `n name`, then the components of `f s` are those of s with the file name replaced
-- (`renamed`)
values-renamed : (f n : List ℕ → List ℕ) (s : List ℕ)
    → (file_name_of (values s) ≡ None → f s ≡ s)
    → ((name : List ℕ) → file_name_of (values s) ≡ Some name → (c : NameCut s name)
    → f s ≡ c.prefix ++ n name)
    → values (f s) ≡ renamed n (values s)
values-renamed f n s none some = by (file_name_of (values s)) refl
  where
    by : (o : Option (List ℕ)) → file_name_of (values s) ≡ o
        → values (f s)
        ≡ option_map_or (λ name. append_values (middle 0 1 (values s)) (values (n name))) o
        (values s)
    by None e = ap values (none e)
    by (Some name) e =
        let c = name_cut s name e in
        ap values (some name e c) ∙ values-append_open c.prefix (n name) c.ends
        ∙ ap (λ vs. append_values vs (values (n name)))
        (sym (ap (middle 0 1) c.before ∙ middle-push (values c.prefix) (Normal name)))

-- `name` after x is set as its extension: its stem, then a dot unless x is empty, and then x
abbrev pub name_with : List ℕ → List ℕ → List ℕ
name_with x name = (split_name name).0 ++ (dot_before x ++ x)

-- s with the extension x set has the components of s, except that the file name `name`, if s has
-- one, is replaced by the components of `name_with x name`
pub values-with_extension_of : (s x : List ℕ)
    → values (with_extension_of s x) ≡ renamed (name_with x) (values s)
unfolding with_extension_of stem_end_of
values-with_extension_of s x =
    grind (arith, values-renamed, with_extension_of-cut)

-- if x isn't empty, s with the extension x added has the components of s, except that the file name
-- `name`, if s has one, is replaced by the components of `name`, a dot and x
pub values-added_extension_of : (s x : List ℕ) → eqb (length x) 0 ≡ false
    → values (added_extension_of s x) ≡ renamed (λ name. name ++ 46 ∷ x) (values s)
values-added_extension_of s x some =
    values-renamed (λ s. added_extension_of s x) (λ name. name ++ 46 ∷ x) s
    (λ none. added_extension_of-none s x (name_end_of-none s (sym none)))
    (λ name e c. added_extension_of-cut s name x some e c)
