-- The key of a join.
use Rattle.std.proofs.Common.{◌≡◌, ℕ, false, List, [], ◌∷◌, ◌++◌, map, refl, sym, ap, ◌∙◌}
use Rattle.std.proofs.Common.{arith}
use Rattle.unix_path.specs.Joins.{join_of}
use Rattle.unix_path.specs.Parts.{Part, leading_part, inner_parts, parts, is_rooted, values}
use Rattle.unix_path.specs.CommonDir.{inner_values}
use Rattle.unix_bytes.proofs.lemmas.lists.ListLemmas.{by_test}
use Rattle.unix_path.proofs.lemmas.edits.JoinLemmas.{join_of_no_separator}
use Rattle.unix_path.proofs.lemmas.parts.PartLemmas.{values-nil}
use Rattle.path_runs.proofs.lemmas.joins.ValueLemmas.{values-join_of}
use Rattle.path_keys.specs.Keys.{key_of}
use Rattle.path_keys.proofs.lemmas.values.KeyLemmas.{key_of-nil, key_of-append}

-- if b has no root and no leading `.`, b is not rooted
leadless-rootless : (b : List ℕ) → leading_part b ≡ [] → is_rooted b ≡ false
unfolding leading_part
leadless-rootless b e = by_test (is_rooted b) (λ r. absurd (let d = rw r at e in cc)) (λ r. r)

-- if b has no root and no leading `.`, all components of b are inner components
leadless-values : (b : List ℕ) → leading_part b ≡ [] → values b ≡ inner_values b
unfolding values parts
leadless-values b e = ap (λ ps. map (λ (p : Part). p.value) (ps ++ inner_parts 0 b)) e

-- if b has no root and no leading `.`, the key of a joined with b is the key of a followed by the
-- key of b
pub key_of-join_of : (a b : List ℕ) → leading_part b ≡ []
    → key_of (values (join_of a b)) ≡ key_of (values a) ++ key_of (values b)
key_of-join_of [] b e =
    ap (λ s. key_of (values s)) (join_of_no_separator [] b (leadless-rootless b e) refl)
    ∙ sym (ap (λ k. k ++ key_of (values b)) (ap key_of values-nil ∙ key_of-nil))
key_of-join_of (x ∷ a) b e =
    ap key_of (values-join_of (x ∷ a) b (omega arith) (leadless-rootless b e)
    ∙ ap (λ vs. values (x ∷ a) ++ vs) (sym (leadless-values b e)))
    ∙ key_of-append (values (x ∷ a)) (values b)
