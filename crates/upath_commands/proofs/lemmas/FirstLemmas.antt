-- The first of equal paths.
use Rattle.std.proofs.Common.{◌≡◌, ℕ, Bool, true, false, not, List, [], ◌∷◌, ◌++◌, AllPairs}
use Rattle.std.proofs.Common.{refl, sym, ap, ◌∙◌, append-nil, arith, if◌then◌else◌, true≢false}
use Rattle.std.specs.List.{filter, list_any}
use Rattle.std.proofs.lemmas.List.Elements.{filter_passes}
use Rattle.std.proofs.lemmas.List.Kept.{AllPairs-cons, AllPairs-filter}
use Rattle.upath_commands.specs.Sorting.{firsts_of, same_path}
use Rattle.upath_commands.proofs.lemmas.RecordLemmas.{by_test}
use Rattle.upath_commands.proofs.lemmas.SelectionLemmas.{filter-append}

module _ (x p : List ℕ) (firsts : List (List ℕ)) where
  abbrev differs : List ℕ → Bool
  differs q = not (same_path x q)

  -- a path that equals x is dropped
  dropped : (is_there : Bool) → same_path x p ≡ true
      → filter differs (if is_there then firsts else firsts ++ p ∷ []) ≡ filter differs firsts
  dropped true e = refl
  dropped false e =
      filter-append differs firsts (p ∷ []) ∙ rw e (append-nil (filter differs firsts))

  -- another one stays
  kept : (is_there : Bool) → same_path x p ≡ false
      → x ∷ filter differs (if is_there then firsts else firsts ++ p ∷ [])
      ≡ (if is_there then x ∷ filter differs firsts else x ∷ filter differs firsts ++ p ∷ [])
  kept true e = refl
  kept false e = ap (λ l. x ∷ l) (filter-append differs firsts (p ∷ []) ∙ rw e refl)

-- a path that comes after others is one of the firsts if it equals none of them
pub firsts-next : (paths : List (List ℕ)) (p : List ℕ) → firsts_of (paths ++ p ∷ [])
    ≡ (if list_any (λ other. same_path other p) paths then firsts_of paths
    else firsts_of paths ++ p ∷ [])
unfolding firsts_of
firsts-next [] p = refl
firsts-next (x ∷ xs) p =
    let is_there = list_any (λ other. same_path other p) xs in
    ap (λ firsts. x ∷ filter (differs x p []) firsts) (firsts-next xs p)
    ∙ by_test (same_path x p)
    (λ e. ap (λ l. x ∷ l) (dropped x p (firsts_of xs) is_there e) ∙ rw e refl)
    (λ e. kept x p (firsts_of xs) is_there e ∙ rw e refl)

not_false : (b : Bool) → not b ≡ true → b ≡ false
not_false true e = absurd (true≢false (sym e))
not_false false e = refl

-- no two of the firsts are equal
pub firsts-once : (paths : List (List ℕ))
    → AllPairs (λ p q. same_path p q ≡ false) (firsts_of paths)
unfolding firsts_of
firsts-once [] = λ i j d low high. absurd (omega arith)
firsts-once (p ∷ paths) =
    let firsts = firsts_of paths in
    let differs : List ℕ → Bool = λ q. not (same_path p q) in
    AllPairs-cons (λ p q. same_path p q ≡ false) p (filter differs firsts)
    (λ k d l. not_false _ (filter_passes differs firsts k d l))
    (AllPairs-filter (λ p q. same_path p q ≡ false) differs firsts (firsts-once paths))
