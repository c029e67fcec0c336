-- Components that escape, which is tested by counting the depth from the first component on, and
-- the stack of components that do not escape.
use Rattle.std.proofs.Common.{◌≡◌, ℕ, suc, zero, ◌+◌, ◌-◌, ◌<◌, Bool, true, false, cond, List, []}
use Rattle.std.proofs.Common.{◌∷◌, ◌++◌, length, take, refl, sym, ap, ◌∙◌, arith}
use Rattle.std.proofs.Common.{◌↔◌}
use Rattle.std.specs.List.{AllByRecursion, count_by}
use Rattle.std.proofs.lemmas.Bool.{false_from_ne_true}
use Rattle.std.proofs.lemmas.List.Sums.{sum_by-cons}
use Rattle.unix_path.specs.Parts.{Value, RootDir, CurDir, ParentDir, Normal, is_rooted, values}
use Rattle.unix_path.proofs.lemmas.parts.PartLemmas.{root_first, root_first-values}
use Rattle.unix_path.proofs.lemmas.rests.RootLemmas.{NoRoot, rooted-IsPrefixOf}
use Rattle.path_runs.proofs.lemmas.joins.LeadLemmas.{IsInner, inner-behind}
use Rattle.path_within.specs.Resolved.{AllNames}
use Rattle.path_within.proofs.lemmas.stack.Stacks.{resolve_onto}
use Rattle.path_within.specs.Escapes.{Escapes, is_name, is_parent_dir}

-- the components vs escape from depth n, which means after n names: vs has a root, or some `..` of
-- vs finds no name to drop
abbrev pub escapes_from : ℕ → List Value → Bool
escapes_from n [] = false
escapes_from n (RootDir ∷ vs) = true
escapes_from n (CurDir ∷ vs) = escapes_from n vs
escapes_from zero (ParentDir ∷ vs) = true
escapes_from (suc n) (ParentDir ∷ vs) = escapes_from n vs
escapes_from n (Normal name ∷ vs) = escapes_from (suc n) vs

-- some prefix of the components vs has more `..` than n plus the number of names in this prefix
abbrev pub GoesAboveFrom : ℕ → List Value → Type 0
GoesAboveFrom n vs =
    (k : ℕ) × (n + count_by is_name (take k vs) < count_by is_parent_dir (take k vs))

-- a first component that passes p adds one to the count of components that pass p
count_by-cons : (p : Value → Bool) (v : Value) (vs : List Value)
    → count_by p (v ∷ vs) ≡ cond (p v) 1 0 + count_by p vs
count_by-cons p v vs = sum_by-cons (λ v. cond (p v) 1 0) v vs

-- if v changes the depth from n to m, and vs goes above the start from depth m, then v and vs
-- together go above the start from depth n
one_more : (n m : ℕ) (v : Value) (vs : List Value)
    → n + cond (is_name v) 1 0 ≡ m + cond (is_parent_dir v) 1 0
    → GoesAboveFrom m vs → GoesAboveFrom n (v ∷ vs)
one_more n m v vs e (k, h) =
    let names = count_by-cons is_name v (take k vs) in
    let parent_dirs = count_by-cons is_parent_dir v (take k vs) in (suc k, omega arith)

-- if vs has no root and escapes from depth n, some prefix of vs has more `..` than n plus the
-- number of names in this prefix
escapes_from-goes : (n : ℕ) (vs : List Value) → NoRoot vs → escapes_from n vs ≡ true
    → GoesAboveFrom n vs
escapes_from-goes n [] r e = absurd (let d : false ≡ true = e in cc)
escapes_from-goes n (RootDir ∷ vs) r e = absurd r
escapes_from-goes n (CurDir ∷ vs) r e =
    one_more n n CurDir vs refl (escapes_from-goes n vs r e)
escapes_from-goes n (Normal name ∷ vs) r e =
    one_more n (suc n) (Normal name) vs (omega arith) (escapes_from-goes (suc n) vs r e)
escapes_from-goes zero (ParentDir ∷ vs) r e =
    (1, omega (arith, count_by-cons is_name ParentDir [], count_by-cons is_parent_dir ParentDir []))
escapes_from-goes (suc n) (ParentDir ∷ vs) r e =
    one_more (suc n) n ParentDir vs (omega arith) (escapes_from-goes n vs r e)

-- if the first k components of vs have more `..` than n plus the number of names among them, vs
-- escapes from depth n
goes-escapes_from : (n k : ℕ) (vs : List Value)
    → n + count_by is_name (take k vs) < count_by is_parent_dir (take k vs) → escapes_from n vs
    ≡ true
goes-escapes_from n zero vs h = absurd (omega arith)
goes-escapes_from n (suc k) [] h = absurd (omega arith)
goes-escapes_from n (suc k) (v ∷ vs) h = grind (
  arith,
  count_by-cons is_name v (take k vs),
  count_by-cons is_parent_dir v (take k vs),
  goes-escapes_from n k vs,
  goes-escapes_from (suc n) k vs,
  goes-escapes_from (n - 1) k vs,
)

-- no inner component is the root
pub inner-no_roots : (vs : List Value) → AllByRecursion IsInner vs → NoRoot vs
inner-no_roots [] h = tt
inner-no_roots (RootDir ∷ vs) h = absurd h.0
inner-no_roots (v ∷ vs) h = inner-no_roots vs h.1

-- no component of a rootless path is the root
pub rootless-no_roots : (s : List ℕ) → is_rooted s ≡ false → NoRoot (values s)
rootless-no_roots s r = by (values s) refl
  where
    by : (vs : List Value) → values s ≡ vs → NoRoot vs
    by [] e = tt
    by (RootDir ∷ vs) e =
        absurd (let no : true ≡ false = sym (ap root_first e) ∙ root_first-values s ∙ r in cc)
    by (v ∷ vs) e = inner-no_roots vs (inner-behind s v vs e)

-- a path escapes if and only if its components escape from depth 0
pub escapes_by_depth : (s : List ℕ) → Escapes (values s) ↔ (escapes_from 0 (values s) ≡ true)
escapes_by_depth s =
    grind (arith, rooted-IsPrefixOf, goes-escapes_from, escapes_from-goes, rootless-no_roots)

-- a path that does not escape has no root
pub rootless-stays : (b : List ℕ) → (Escapes (values b) → ⊥) → is_rooted b ≡ false
rootless-stays b h = grind (arith, false_from_ne_true, rooted-IsPrefixOf)

-- the stack `all` is the stack ks with `names` on top, which are only names
pub record Stays (ks all names : List Value) : Type 0 where
  pub stack : all ≡ names ++ ks
  pub are_names : AllNames names

-- if ns has only names, and vs does not escape from that depth, resolving vs onto a stack with ns
-- on top of ks leaves ks unchanged, and on top of it the names that resolving vs onto ns leaves
stays : (ks ns vs : List Value) → AllNames ns → escapes_from (length ns) vs ≡ false
    → Stays ks (resolve_onto (ns ++ ks) vs) (resolve_onto ns vs)
stays ks ns [] h e = record { stack = refl; are_names = h }
stays ks ns (CurDir ∷ vs) h e = stays ks ns vs h e
stays ks ns (Normal name ∷ vs) h e = stays ks (Normal name ∷ ns) vs h e
stays ks (Normal name ∷ ns) (ParentDir ∷ vs) h e = stays ks ns vs h e
stays ks (n ∷ ns) (ParentDir ∷ vs) h e = absurd h
stays ks ns (v ∷ vs) h e = absurd (let no : true ≡ false = e in cc)

-- if b does not escape, resolving b onto a stack ks leaves ks unchanged, and on top of it the stack
-- of b, which has only names
pub keeps_stack : (ks : List Value) (b : List ℕ) → (Escapes (values b) → ⊥)
    → Stays ks (resolve_onto ks (values b)) (resolve_onto [] (values b))
keeps_stack ks b h = stays ks [] (values b) tt
    (false_from_ne_true (escapes_from 0 (values b)) (λ e. h ((escapes_by_depth b).1 e)))

pub ruleset escapes_by_components_cases = (escapes_by_depth, escapes_from)
