-- What the last component determines: the parent, the file name, and the path before the file name.
use Rattle.std.proofs.Common.{◌≡◌, ℕ, suc, cond, eqb, List, [], ◌∷◌}
use Rattle.std.proofs.Common.{◌++◌, Some, None, is_some, refl, sym, ap, ◌∙◌}
use Rattle.std.proofs.Common.{arith, take_all}
use Rattle.std.proofs.Math.Dec.{eqb-suc-zero}
use Rattle.std.specs.Option.{option_and_then}
use Rattle.unix_path.specs.Parts.{Value, RootDir, values}
use Rattle.unix_path.specs.Rest.{rest}
use Rattle.unix_path.specs.Parents.{depth_of, parent_of}
use Rattle.unix_path.specs.Names.{name_of, file_name_of}
use Rattle.unix_path.specs.Edits.{before_name_of}
use Rattle.unix_path.proofs.lemmas.rests.RestLemmas.{values-rest, rest-rest}
use Rattle.unix_bytes.proofs.lemmas.lists.ListLemmas.{last_or-push}
use Rattle.unix_path.proofs.lemmas.names.DepthLemmas.{depth_of-none, depth_of-root, depth_of-push}

-- s without its trailing filler, `rest s 0 0`, has the same components as s
pub values-whole : (s u : List ℕ) → u ≡ rest s 0 0 → values u ≡ values s
values-whole s u e = grind (arith, values-rest, take_all)

-- if u is s without trailing filler, the rest of u before its last component is the rest of s
-- before its last component
pub rest-whole_last : {u w : List ℕ} (s : List ℕ) → u ≡ rest s 0 0 → w ≡ rest u 0 1 → w ≡ rest s 0 1
rest-whole_last s e r = r ∙ ap (λ u. rest u 0 1) e ∙ rest-rest s 0 0 0 1

pub parent_of-alone : (s : List ℕ) → depth_of s ≡ 0 → parent_of s ≡ None
unfolding parent_of
parent_of-alone s e = ap (λ n. cond (eqb n 0) None (Some (rest s 0 1))) e

pub parent_of-deep : (s : List ℕ) (n : ℕ) → depth_of s ≡ suc n → parent_of s ≡ Some (rest s 0 1)
unfolding parent_of
parent_of-deep s n e = rw (e, eqb-suc-zero n) refl

-- if s has a parent, the parent is the rest of s before its last component
pub parent_of-some : (s parent : List ℕ) → parent_of s ≡ Some parent → parent ≡ rest s 0 1
unfolding parent_of
parent_of-some s parent e = grind arith

pub parent_of-none : (s : List ℕ) → values s ≡ [] → None ≡ parent_of s
parent_of-none s is = sym (parent_of-alone s (depth_of-none s is))

pub parent_of-root : (s : List ℕ) (vs : List Value) → values s ≡ vs ++ RootDir ∷ []
    → None ≡ parent_of s
parent_of-root s vs is = sym (parent_of-alone s (depth_of-root s vs is))

-- if the last component v of s isn't the root, the parent of s is the rest of s before v
pub parent_of-push : {w : List ℕ} (s : List ℕ) (vs : List Value) (v : Value)
    → values s ≡ vs ++ v ∷ [] → w ≡ rest s 0 1 → (v ≡ RootDir → ⊥) → Some w ≡ parent_of s
parent_of-push s vs v is left differs =
    ap Some left ∙ sym (parent_of-deep s _ (depth_of-push s vs v is differs))

pub file_name_of-none : (s : List ℕ) → values s ≡ [] → None ≡ file_name_of (values s)
unfolding file_name_of
file_name_of-none s is = sym (ap file_name_of is)

-- the file name of components that end with v is v if v is a name, and otherwise None
pub file_name_of-last : (vs : List Value) (v : Value) → file_name_of (vs ++ v ∷ []) ≡ name_of v
unfolding file_name_of
file_name_of-last vs v = ap (option_and_then name_of) (last_or-push None vs v)

-- if the components of s are those of w and then v, the file name of s is v if v is a name, and
-- otherwise None
pub file_name_of-push : (s w : List ℕ) (v : Value) → values s ≡ values w ++ v ∷ []
    → name_of v ≡ file_name_of (values s)
file_name_of-push s w v is = sym (ap file_name_of is ∙ file_name_of-last (values w) v)

-- if s has a file name, s without its file name is the rest of s before its last component
pub before_name_of-some : (s name : List ℕ) → Some name ≡ file_name_of (values s)
    → rest s 0 1 ≡ before_name_of s
unfolding before_name_of
before_name_of-some s name e = ap (λ o. cond (is_some o) (rest s 0 1) s) e
