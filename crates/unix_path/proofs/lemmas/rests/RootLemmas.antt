-- The root can only be the first component.
use Rattle.std.proofs.Common.{◌≡◌, ◌↔◌, ℕ, ◌+◌, ◌<◌, Bool, true, false, eqb, ltb, List, [], ◌∷◌}
use Rattle.std.proofs.Common.{◌++◌, length, get_or, drop, map, cond, refl, sym, ap, subst, ◌∙◌}
use Rattle.std.proofs.Common.{arith, eqb-true, length-append, ltb-true, ltb-false}
use Rattle.std.specs.List.{position_or_len, slice_split}
use Rattle.std.proofs.lemmas.List.{nil_from_length}
use Rattle.unix_path.specs.Parts.{Value, RootDir, CurDir, ParentDir, Normal, is_slash}
use Rattle.unix_path.specs.Parts.{parts_of_pieces}
use Rattle.unix_path.specs.Parts.{inner_parts, values, is_rooted}
use Rattle.unix_path.specs.Prefixes.{IsPrefixOf}
use Rattle.unix_path.proofs.lemmas.parts.ValueLemmas.{first_value}
use Rattle.unix_bytes.proofs.lemmas.lists.ListLemmas.{by_test}
use Rattle.unix_path.proofs.lemmas.parts.PieceLemmas.{first_piece}
use Rattle.unix_path.proofs.lemmas.parts.PartLemmas.{values-nil, parts-root, parts-name, root_first}
use Rattle.unix_path.proofs.lemmas.parts.PartLemmas.{root_first-values}

-- none of the components is the root
abbrev pub NoRoot : List Value → Type 0
NoRoot [] = Unit {0}
NoRoot (RootDir ∷ vs) = ⊥
NoRoot (CurDir ∷ vs) = NoRoot vs
NoRoot (ParentDir ∷ vs) = NoRoot vs
NoRoot (Normal name ∷ vs) = NoRoot vs

-- none of the components of the pieces ps is the root
no_root_pieces : (at : ℕ) (ps : List (List ℕ)) → NoRoot (map (λ p. p.value) (parts_of_pieces at ps))
no_root_pieces at [] = tt
no_root_pieces at (p ∷ ps) = grind (arith, no_root_pieces (at + length p + 1) ps)

-- none of the inner components of s is the root
no_root_inner : (at : ℕ) (s : List ℕ) → NoRoot (map (λ p. p.value) (inner_parts at s))
unfolding inner_parts
no_root_inner at s = no_root_pieces at (slice_split is_slash s)

-- the first component of s is v, and no other component of s is the root
pub record BeginsBy (s : List ℕ) (v : Value) : Type 0 where
  pub more : List Value
  pub is : values s ≡ v ∷ more
  pub no_root : NoRoot more

-- if s begins with a slash, its first component is the root, and no other component is the root
begins_by_root : (s : List ℕ) → eqb (get_or s 0 0) 47 ≡ true → BeginsBy s RootDir
unfolding values
begins_by_root s e = record {
  more = map (λ p. p.value) (inner_parts 1 (drop 1 s));
  is = ap (map (λ p. p.value)) (parts-root s (eqb-true _ 47 e));
  no_root = no_root_inner 1 (drop 1 s);
}

-- if s begins with a byte other than a slash, its first component is that of its first piece, and
-- no other component is the root
begins_by_name : (s : List ℕ) → 0 < length s → eqb (get_or s 0 0) 47 ≡ false
    → BeginsBy s (first_value (first_piece s))
unfolding values
begins_by_name s l e =
    let n = position_or_len is_slash s in
    record {
      more = map (λ p. p.value) (inner_parts n (drop n s));
      is = ap (map (λ p. p.value)) (parts-name s l e);
      no_root = no_root_inner n (drop n s);
    }

-- s is rooted if and only if the components of s begin with the root
pub rooted-IsPrefixOf : (s : List ℕ) (r : Bool) → r ≡ is_rooted s
    → r ≡ true ↔ IsPrefixOf (RootDir ∷ []) (values s)
rooted-IsPrefixOf s r e = grind (arith, root_first-values s)

-- 1 if the first component is the root, and otherwise 0
abbrev pub root_count : List Value → ℕ
root_count vs = cond (root_first vs) 1 0

-- `root_count` of the components of s is 1 if s is rooted, and otherwise 0
pub root_count-values : (s : List ℕ) → cond (is_rooted s) 1 0 ≡ root_count (values s)
root_count-values s = ap (λ c. cond c 1 0) (sym (root_first-values s))

-- if none of the components is the root, the last one, v, is not the root
no_root_last : (vs : List Value) (v : Value) → NoRoot (vs ++ v ∷ []) → v ≡ RootDir → ⊥
no_root_last [] v h r = subst (λ v. NoRoot (v ∷ [])) r h
no_root_last (RootDir ∷ vs) v h r = h
no_root_last (CurDir ∷ vs) v h r = no_root_last vs v h r
no_root_last (ParentDir ∷ vs) v h r = no_root_last vs v h r
no_root_last (Normal name ∷ vs) v h r = no_root_last vs v h r

-- if no component after v is the root, but the last component w is, w is the only component
before_last_root : (v w : Value) (more vs : List Value) → NoRoot more → v ∷ more ≡ vs ++ w ∷ []
    → w ≡ RootDir → length vs ≡ 0
before_last_root v w more [] h e r = refl
before_last_root v w more (x ∷ vs) h e r = grind (arith, no_root_last)

-- if the last component of s is the root, it is the only component
pub root_last : (s : List ℕ) (vs : List Value) → values s ≡ vs ++ RootDir ∷ [] → length vs ≡ 0
root_last s vs e = by_test (ltb 0 (length s))
    (λ some. by_test (eqb (get_or s 0 0) 47)
    (λ slash.
    let h = begins_by_root s slash in
    before_last_root RootDir RootDir h.more vs h.no_root (sym h.is ∙ e) refl)
    (λ other.
    let h = begins_by_name s (ltb-true _ _ some) other in
    before_last_root (first_value (first_piece s)) RootDir h.more vs h.no_root (sym h.is ∙ e) refl))
    (λ none.
    let nil : values s ≡ [] =
    ap values (nil_from_length s (omega (arith, ltb-false _ _ none))) ∙ values-nil in
    let size = ap length (sym nil ∙ e) in
    absurd (omega (arith, length-append vs (RootDir ∷ []))))
