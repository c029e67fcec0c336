-- Normal components, and paths that are resolved already.
use Rattle.std.proofs.Common.{◌≡◌, ◌↔◌, ℕ, true, false, ◌&&◌, IsTrue, List, ◌∷◌, sym, ap, subst}
use Rattle.std.proofs.Common.{◌∙◌}
use Rattle.std.specs.List.{list_all}
use Rattle.unix_path.specs.Parts.{Value, ParentDir, Normal, values}
use Rattle.path_runs.specs.Spelling.{spelling_of}
use Rattle.path_within.specs.Escapes.{is_name, is_parent_dir}
use Rattle.path_within.specs.Resolved.{resolved_of, resolved_bytes_of, AllNames}
use Rattle.path_within.specs.Resolved.{ParentDirsThenNames}
use Rattle.path_within.specs.Resolved.{IsNormal}
use Rattle.path_within.proofs.lemmas.stack.StackLemmas.{resolved_normal}
use Rattle.path_within.proofs.lemmas.stack.ResolveLemmas.{values-resolved}
use Rattle.path_within.proofs.lemmas.stack.RelativePathLemmas.{list_all-names, names_all}
use Rattle.path_within.proofs.lemmas.stack.RelativePathLemmas.{resolved_of-normal}

-- the test `is_name` is true of each component of vs if and only if vs has only names (`AllNames`)
pub names_iff : (vs : List Value) → IsTrue (list_all is_name vs) ↔ AllNames vs
names_iff vs = (names_all vs, list_all-names vs)

-- a path in canonical form whose components are normal is resolved already
pub resolved_if_normal : (s : List ℕ) → IsNormal (values s) → s ≡ spelling_of (values s)
    → resolved_bytes_of s ≡ s
resolved_if_normal s h own = ap spelling_of (resolved_of-normal (values s) h) ∙ sym own

-- if s is resolved already, the resolved components of s are the components of s
pub resolved_values : (s : List ℕ) → resolved_bytes_of s ≡ s → resolved_of (values s) ≡ values s
resolved_values s e = sym (values-resolved s) ∙ ap values e

-- the components of a path that is resolved already are normal
pub normal_if_resolved : (s : List ℕ) → resolved_bytes_of s ≡ s → IsNormal (values s)
normal_if_resolved s e = subst IsNormal (resolved_values s e) (resolved_normal (values s))

-- a path that is resolved already is in canonical form
pub canonical_if_resolved : (s : List ℕ) → resolved_bytes_of s ≡ s → s ≡ spelling_of (values s)
canonical_if_resolved s e = sym e ∙ ap spelling_of (resolved_values s e)

-- if v is not `..`, the components v and vs are zero or more `..` and then names if and only if all
-- of them are names
pub straight_iff : (v : Value) (vs : List Value) → is_parent_dir v ≡ false
    → IsTrue (is_name v && list_all is_name vs) ↔ ParentDirsThenNames (v ∷ vs)
straight_iff (Normal name) vs h = names_iff vs
straight_iff ParentDir vs h = absurd (let no : true ≡ false = h in cc)
straight_iff v vs h = (λ e. let no : false ≡ true = e in cc, λ k. absurd k)

pub ruleset is_resolved_cases = (resolved_if_normal, normal_if_resolved, canonical_if_resolved)
