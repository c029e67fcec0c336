-- If there is no relative path from one path to another, no path without a root leads there.
use Rattle.std.proofs.Common.{◌≡◌, ◌⊎◌, ℕ, true, false, List, [], ◌∷◌, ◌++◌, reverse, None, refl}
use Rattle.std.proofs.Common.{sym, ap, subst, ◌∙◌, ⊎_elim, arith}
use Rattle.std.specs.List.{list_any}
use Rattle.std.proofs.lemmas.List.{reverse-append}
use Rattle.unix_path.specs.Joins.{join_of}
use Rattle.unix_path.specs.Parts.{Value, RootDir, CurDir, ParentDir, Normal, is_rooted, values}
use Rattle.unix_path.proofs.lemmas.rests.RootLemmas.{NoRoot}
use Rattle.path_within.specs.Resolved.{AllNames, resolved_of}
use Rattle.path_within.proofs.lemmas.stack.Stacks.{resolve_onto, push_parent_dir}
use Rattle.path_within.specs.Resolved.{resolved_bytes_of}
use Rattle.path_within.proofs.lemmas.stack.Stacks.{IsStack}
use Rattle.path_within.specs.Escapes.{is_root}
use Rattle.path_within.specs.RelativePaths.{relative_path_of}
use Rattle.path_within.proofs.lemmas.stack.BetweenLemmas.{list_any-reverse, some_steps, steps_from}
use Rattle.path_within.proofs.lemmas.stack.EscapeLemmas.{rootless-no_roots}
use Rattle.path_within.proofs.lemmas.stack.StackLemmas.{IsStack-resolve_onto, names_reverse}
use Rattle.path_within.proofs.lemmas.stack.StackLemmas.{names_straight}
use Rattle.path_within.proofs.lemmas.stack.ResolveLemmas.{resolve_onto-join, values-resolved}
use Rattle.path_within.proofs.lemmas.stack.RelativePathLemmas.{list_all-names, straight_rootless}

-- these components are a pop limit, the part of a stack that no `..` drops: one more `..` is
-- dropped itself or becomes the top
abbrev IsPopLimit : List Value → Type 0
IsPopLimit ks = (push_parent_dir ks ≡ ks) ⊎ (push_parent_dir ks ≡ ParentDir ∷ ks)

-- the stack ks is names on top of a pop limit
record OnPopLimit (ks : List Value) : Type 0 where
  pub top : List Value
  pub pop_limit : List Value
  pub names : AllNames top
  pub is_pop_limit : IsPopLimit pop_limit
  pub is : ks ≡ top ++ pop_limit

-- each stack is names on top of a pop limit
on_pop_limit : (ks : List Value) → IsStack ks → OnPopLimit ks
on_pop_limit (RootDir ∷ ks) h = grind arith
on_pop_limit (Normal name ∷ ks) h = let more = on_pop_limit ks h in record {
  top = Normal name ∷ more.top;
  pop_limit = more.pop_limit;
  names = more.names;
  is_pop_limit = more.is_pop_limit;
  is = ap (λ zs. Normal name ∷ zs) more.is;
}
on_pop_limit ks h = grind arith

-- the stack ks is components without a root (`top`) on top of the pop limit
record KeepsPopLimit (ks pop_limit : List Value) : Type 0 where
  pub top : List Value
  pub no_root : list_any is_root top ≡ false
  pub is : ks ≡ top ++ pop_limit

-- pushing a `..` onto components on top of a pop limit leaves the pop limit unchanged
push_keeps_pop_limit : (top pop_limit : List Value) → IsPopLimit pop_limit → list_any is_root top
    ≡ false
    → KeepsPopLimit (push_parent_dir (top ++ pop_limit)) pop_limit
push_keeps_pop_limit [] pop_limit h k = ⊎_elim
    (λ e. record { top = []; no_root = refl; is = e })
    (λ e. record { top = ParentDir ∷ []; no_root = refl; is = e }) h
push_keeps_pop_limit (RootDir ∷ top) pop_limit h k = absurd (let no : true ≡ false = k in cc)
push_keeps_pop_limit (Normal name ∷ top) pop_limit h k = grind arith
push_keeps_pop_limit top pop_limit h k = record { top = ParentDir ∷ top; no_root = k; is = refl }

-- resolving components without a root leaves the pop limit unchanged
keeps_pop_limit : (top pop_limit vs : List Value) → IsPopLimit pop_limit → list_any is_root top
    ≡ false
    → NoRoot vs → KeepsPopLimit (resolve_onto (top ++ pop_limit) vs) pop_limit
keeps_pop_limit top pop_limit [] h k r = record { top = top; no_root = k; is = refl }
keeps_pop_limit top pop_limit (RootDir ∷ vs) h k r = absurd r
keeps_pop_limit top pop_limit (CurDir ∷ vs) h k r = keeps_pop_limit top pop_limit vs h k r
keeps_pop_limit top pop_limit (Normal name ∷ vs) h k r =
    keeps_pop_limit (Normal name ∷ top) pop_limit vs h k r
keeps_pop_limit top pop_limit (ParentDir ∷ vs) h k r =
    let pushed = push_keeps_pop_limit top pop_limit h k in
    subst (λ ks. KeepsPopLimit (resolve_onto ks vs) pop_limit) (sym pushed.is)
    (keeps_pop_limit pushed.top pop_limit vs h pushed.no_root r)

-- if vs has no root, there is a relative path from the components of the stack ks to the components
-- of the stack that resolving vs onto ks leaves
some_relative_path : (ks vs : List Value) → IsStack ks → NoRoot vs
    → steps_from (reverse ks) (reverse (resolve_onto ks vs)) ≡ None → ⊥
some_relative_path ks vs h r none =
    let on = on_pop_limit ks h in
    let no_root = straight_rootless on.top (names_straight on.top on.names) in
    let keeps = keeps_pop_limit on.top on.pop_limit vs on.is_pop_limit no_root r in
    let v = ap reverse on.is ∙ reverse-append on.top on.pop_limit in
    let w =
    ap (λ zs. reverse (resolve_onto zs vs)) on.is ∙ ap reverse keeps.is
    ∙ reverse-append keeps.top on.pop_limit in
    grind (arith, some_steps, list_all-names, names_reverse, list_any-reverse)

-- if there is no relative path from `from` to `to`, and b has no root, the join of `from` and b
-- does not resolve to the same bytes as `to`
pub no_relative_path : (from to b : List ℕ) → relative_path_of (values from) (values to) ≡ None
    → is_rooted b ≡ false → resolved_bytes_of (join_of from b) ≡ resolved_bytes_of to → ⊥
unfolding relative_path_of resolved_of
no_relative_path from to b none r e =
    let ks = resolve_onto [] (values from) in
    let joined : reverse (resolve_onto ks (values b)) ≡ resolved_of (values to) =
    ap reverse (sym (resolve_onto-join from b)) ∙ sym (values-resolved (join_of from b))
    ∙ ap values e ∙ values-resolved to in
    grind (arith, some_relative_path, IsStack-resolve_onto, rootless-no_roots)
