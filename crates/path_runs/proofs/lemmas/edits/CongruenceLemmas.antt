-- The components that an edit leaves, and its answer, depend only on the path's components.
use Rattle.std.proofs.Common.{◌≡◌, ℕ, List, [], ◌∷◌, refl}
use Rattle.std.proofs.Common.{sym, ap, ap₂, subst, ◌∙◌, eqb-true, arith}
use Rattle.std.specs.List.{AllZip}
use Rattle.unix_path.specs.Parts.{SameValues}
use Rattle.unix_path.specs.Rest.{rest}
use Rattle.unix_path.specs.Parents.{parent_of}
use Rattle.unix_path.specs.Edits.{popped_of, before_name_of, with_name_of, with_extension_of}
use Rattle.unix_path.specs.Extensions.{added_extension_of}
use Rattle.unix_path.proofs.lemmas.rests.MiddleLemmas.{middle}
use Rattle.unix_path.proofs.lemmas.rests.RestLemmas.{values-rest}
use Rattle.unix_path.proofs.lemmas.names.NameEndLemmas.{added_extension_of-nil}
use Rattle.path_runs.specs.declared.edits.Answer.{Answer}
use Rattle.path_runs.specs.EditLists.{EditValue, Push, Pop, SetFileName, SetExtension, AddExtension}
use Rattle.path_runs.specs.EditLists.{Clear, edit_of, edits_of}
use Rattle.path_runs.specs.EditLaws.{SameEdit}
use Rattle.path_runs.proofs.lemmas.names.ExtensionCutLemmas.{values-with_extension_of}
use Rattle.path_runs.proofs.lemmas.names.ExtensionCutLemmas.{values-added_extension_of}
use Rattle.path_runs.proofs.lemmas.joins.LeadLemmas.{joins_same, roots_same}

-- equal paths without their first k and last m components are equal
pub rests_same : (s t : List ℕ) (k m : ℕ) → SameValues s t → SameValues (rest s k m) (rest t k m)
rests_same s t k m e = values-rest s k m ∙ ap (middle k m) e ∙ sym (values-rest t k m)

-- two outcomes of edits, each a path and an answer, have equal paths and the same answer
abbrev SameOutcome : List ℕ × Answer → List ℕ × Answer → Type 0
SameOutcome p q = SameValues p.0 q.0 × (p.1 ≡ q.1)

-- if equal paths get the same file name, they are still equal
pub with_name_same : (s t n : List ℕ) → SameValues s t
    → SameValues (with_name_of s n) (with_name_of t n)
unfolding before_name_of
with_name_same s t n e = grind (arith, joins_same, rests_same)

-- if the same extension is set, equal paths are still equal
pub with_extension_same : (s t x : List ℕ) → SameValues s t
    → SameValues (with_extension_of s x) (with_extension_of t x)
with_extension_same s t x e = grind (arith, values-with_extension_of)

-- if the same extension is added, equal paths are still equal
pub added_extension_same : (s t x : List ℕ) → SameValues s t
    → SameValues (added_extension_of s x) (added_extension_of t x)
added_extension_same s t x e =
    grind (arith, eqb-true, added_extension_of-nil, values-added_extension_of)

-- one edit of equal paths leaves equal paths and returns the same answer
one_same : (s t : List ℕ) (e : EditValue) → SameValues s t → SameOutcome (edit_of s e) (edit_of t e)
unfolding popped_of parent_of
one_same s t (Push b) k = (joins_same s t b b k refl, refl)
one_same s t Pop k = grind (arith, rests_same, roots_same)
one_same s t (SetFileName n) k = (with_name_same s t n k, refl)
one_same s t (SetExtension x) k = grind (arith, with_extension_same)
one_same s t (AddExtension x) k = grind (arith, added_extension_same)
one_same s t Clear k = (refl, refl)

-- if s and t are equal paths, and d and e are the same edit or push equal paths (`SameEdit`), then
-- d of s and e of t leave equal paths and return the same answer
edit_same : (s t : List ℕ) (d e : EditValue) → SameValues s t → SameEdit d e
    → SameOutcome (edit_of s d) (edit_of t e)
edit_same s t (Push b) (Push c) k h = (joins_same s t b c k h, refl)
edit_same s t d e k h = subst (λ e. SameOutcome (edit_of s d) (edit_of t e)) h (one_same s t d k)

-- if s and t are equal paths, and the lists ds and es have the same edits one by one (`SameEdit`),
-- applying ds to s and es to t leaves equal paths and returns the same answers
pub edits_same : (s t : List ℕ) (ds es : List EditValue) → SameValues s t → AllZip SameEdit ds es
    → SameValues (edits_of s ds).0 (edits_of t es).0 × ((edits_of s ds).1 ≡ (edits_of t es).1)
edits_same s t [] [] k h = (k, refl)
edits_same s t (d ∷ ds) (e ∷ es) k h =
    let one = edit_same s t d e k h.0 in
    let more = edits_same (edit_of s d).0 (edit_of t e).0 ds es one.0 h.1 in
    (more.0, ap₂ (λ x y. x ∷ y) one.1 more.1)
edits_same s t ds es k h = absurd h
