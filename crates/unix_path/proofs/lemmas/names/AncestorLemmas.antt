-- The ancestors of a path, which are the path and then its parent's ancestors, and how many there
-- are.
use Rattle.std.proofs.Common.{◌≡◌, ℕ, zero, suc, ◌+◌, ◌-◌, ◌≤◌, List, [], ◌∷◌, ◌++◌, length, map}
use Rattle.std.proofs.Common.{Option, Some, None, option_map, IfSome}
use Rattle.std.proofs.Common.{refl, sym, ap, ap₂, ◌∙◌, arith}
use Rattle.std.specs.List.{range_with_len}
use Rattle.std.specs.Option.{option_map_or}
use Rattle.std.proofs.lemmas.List.FromFn.{length-map-range_with_len}
use Rattle.unix_path.specs.Parts.{Value, RootDir, CurDir, ParentDir, Normal, values}
use Rattle.unix_path.specs.Rest.{rest}
use Rattle.unix_path.specs.Parents.{parent_of, depth_of, ancestors_of}
use Rattle.unix_path.specs.Slices.{LiesIn, memory_offset}
use Rattle.unix_path.specs.declared.path.Path.{Path}
use Rattle.unix_path.proofs.lemmas.rests.RestLemmas.{length-values, values-rest, rest-rest}
use Rattle.unix_path.proofs.lemmas.rests.MiddleLemmas.{middle, middle-push}
use Rattle.unix_path.proofs.lemmas.rests.RootLemmas.{root_count}
use Rattle.unix_path.proofs.lemmas.names.DepthLemmas.{depth_of-values, depth_of-none, depth_of-root}
use Rattle.unix_path.proofs.lemmas.names.DepthLemmas.{depth_of-push}
use Rattle.unix_path.proofs.lemmas.names.ParentLemmas.{parent_of-alone, parent_of-deep}
use Rattle.unix_bytes.proofs.lemmas.lists.ListLemmas.{Snoc, Empty, Push, snoc}

-- the ancestors of the parent, or none if there is no parent
abbrev pub ancestors_by : Option (List ℕ) → List (List ℕ)
ancestors_by parent = option_map_or ancestors_of parent []

-- for each of the n numbers m from a on, removing m + 1 trailing components of s is the same as
-- removing the last component of s and then m more
shift : (s : List ℕ) (a n : ℕ) → map (λ m. rest s 0 m) (range_with_len (a + 1) n)
    ≡ map (λ m. rest (rest s 0 1) 0 m) (range_with_len a n)
shift s a zero = refl
shift s a (suc n) = grind (arith, rest-rest, shift s (a + 1) n)

-- if s has depth 0, its ancestors are s and then its parent's ancestors, if it has a parent
ancestors_of-no_depth : (s : List ℕ) → depth_of s ≡ 0
    → ancestors_of s ≡ s ∷ ancestors_by (parent_of s)
unfolding ancestors_of
ancestors_of-no_depth s e = grind (arith, parent_of-alone)

-- if the last component v of s is not the root, the ancestors of s are s and then its parent's
-- ancestors, if it has a parent
ancestors_of-deep : (s : List ℕ) (vs : List Value) (v : Value) → values s ≡ vs ++ v ∷ []
    → (v ≡ RootDir → ⊥) → ancestors_of s ≡ s ∷ ancestors_by (parent_of s)
unfolding ancestors_of
ancestors_of-deep s vs v e differs =
    let q = rest s 0 1 in
    let before : values q ≡ vs =
    values-rest s 0 1 ∙ ap (middle 0 1) e ∙ middle-push vs v in
    let more : depth_of s ≡ suc (depth_of q) =
    depth_of-push s vs v e differs
    ∙ ap suc (sym (depth_of-values q ∙ ap (λ vs. length vs - root_count vs) before)) in
    ap (λ n. s ∷ map (λ m. rest s 0 m) (range_with_len 1 n)) more
    ∙ ap (λ ps. s ∷ q ∷ ps) (shift s 1 (depth_of q))
    ∙ sym (ap (λ o. s ∷ ancestors_by o) (parent_of-deep s (depth_of q) more))

-- if the last component of s is v, the ancestors of s are s and then its parent's ancestors, if it
-- has a parent
by_last : (s : List ℕ) (vs : List Value) (v : Value) → values s ≡ vs ++ v ∷ []
    → ancestors_of s ≡ s ∷ ancestors_by (parent_of s)
by_last s vs RootDir e = ancestors_of-no_depth s (depth_of-root s vs e)
by_last s vs CurDir e = ancestors_of-deep s vs CurDir e (λ h. cc)
by_last s vs ParentDir e = ancestors_of-deep s vs ParentDir e (λ h. cc)
by_last s vs (Normal name) e = ancestors_of-deep s vs (Normal name) e (λ h. cc)

by_snoc : (s : List ℕ) → Snoc (values s) → ancestors_of s ≡ s ∷ ancestors_by (parent_of s)
by_snoc s (Empty e) = ancestors_of-no_depth s (depth_of-none s e)
by_snoc s (Push vs v e) = by_last s vs v e

-- the ancestors of s are s and then its parent's ancestors, if it has a parent
pub ancestors_of-parent : (s : List ℕ) → ancestors_of s ≡ s ∷ ancestors_by (parent_of s)
ancestors_of-parent s = by_snoc s (snoc (values s))

-- if s has no parent, s is the only ancestor of s
pub ancestors_of-alone : (s : List ℕ) → parent_of s ≡ None → ancestors_of s ≡ s ∷ []
ancestors_of-alone s e = ancestors_of-parent s ∙ ap (λ o. s ∷ ancestors_by o) e

-- if s has a parent, the ancestors of s are s and then the parent's ancestors
pub ancestors_of-above : (s parent : List ℕ) → parent_of s ≡ Some parent
    → ancestors_of s ≡ s ∷ ancestors_of parent
ancestors_of-above s parent e = ancestors_of-parent s ∙ ap (λ o. s ∷ ancestors_by o) e

-- s has at most one ancestor more than it has bytes, counting s itself as an ancestor
pub length-ancestors_of : (s : List ℕ) → length (ancestors_of s) ≤ length s + 1
unfolding ancestors_of
length-ancestors_of s = grind (arith, length-values, length-map-range_with_len)

-- the bytes of each path that a walk over ancestors yields if its next path is `next`
abbrev ancestors_from : Option Path → List (List ℕ)
ancestors_from next = option_map_or (λ path. ancestors_of path.bytes.now) next []

-- if o is `path`, and `parent` has the bytes of the parent of `path`, a walk over ancestors whose
-- next path is o yields `path` and then what a walk whose next path is `parent` yields
pub remaining_ancestors-step : (o : Option Path) (path : Path) (parent : Option Path)
    → o ≡ Some path → option_map (λ path. path.bytes.now) parent ≡ parent_of path.bytes.now
    → ancestors_from o ≡ path.bytes.now ∷ ancestors_from parent
remaining_ancestors-step o path parent is e = grind (arith, ancestors_of-parent)

-- if `parent` lies in `path` and begins where `path` does, both have the same address
pub begins_at : (parent : Option Path) (path : Path)
    → IfSome parent (λ p. LiesIn p.bytes path.bytes)
    → IfSome parent (λ p. memory_offset p.bytes ≡ memory_offset path.bytes)
    → IfSome parent (λ p. p.bytes.ref_ptr ≡ path.bytes.ref_ptr)
begins_at None path inside start = tt
begins_at (Some p) path inside start = ap₂ (λ block index. (block, index)) inside.block start
