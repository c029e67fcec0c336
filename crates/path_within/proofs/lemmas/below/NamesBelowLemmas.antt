-- The names that remain of components that are resolved after a root.
use Rattle.std.proofs.Common.{◌≡◌, ℕ, Bool, false, ltb, List, [], ◌∷◌, ◌++◌, length}
use Rattle.std.proofs.Common.{reverse, refl, sym, ap, ◌∙◌, arith}
use Rattle.std.specs.List.{list_any, position_or_len}
use Rattle.std.proofs.lemmas.Bool.Decides.{nat_tests}
use Rattle.std.proofs.lemmas.Grind.{reverse_onto}
use Rattle.std.proofs.lemmas.List.{reverse-append, reverse-reverse, take_rest}
use Rattle.unix_path.specs.CommonDir.{inner_values}
use Rattle.unix_path.specs.Parts.{Value, RootDir, CurDir, ParentDir, Normal, is_rooted, slash}
use Rattle.unix_path.specs.Parts.{values}
use Rattle.unix_bytes.proofs.lemmas.lists.ListLemmas.{drop-suc_cons}
use Rattle.path_runs.specs.JoinLaws.{drop_dot, drop_leading}
use Rattle.path_runs.proofs.lemmas.joins.LeadLemmas.{drop_leading-values}
use Rattle.path_runs.proofs.lemmas.spelling.PieceValueLemmas.{inner_values-pieces, values-rooted}
use Rattle.path_within.specs.Resolved.{AllNames, resolved_of}
use Rattle.path_within.proofs.lemmas.stack.Stacks.{resolve_onto}
use Rattle.path_within.specs.Below.{names_below, has_nul, after_leading_slashes}
use Rattle.path_within.specs.Escapes.{Escapes}
use Rattle.path_within.proofs.lemmas.stack.EscapeLemmas.{keeps_stack}
use Rattle.path_within.proofs.lemmas.stack.StackLemmas.{names_reverse}
use Rattle.path_within.proofs.lemmas.stack.RelativePathLemmas.{resolve_onto-names}

-- the stack of these names above the root; the first name is the top
abbrev pub on_root : List Value → List Value
on_root ns = ns ++ RootDir ∷ []

-- resolving more components onto a stack of names above the root leaves only names above the root
stack_keeps_root : (ks vs : List Value) → AllNames ks
    → (ns : List Value) × AllNames ns × (resolve_onto (on_root ks) vs ≡ on_root ns)
stack_keeps_root ks [] h = (ks, h, refl)
stack_keeps_root ks (RootDir ∷ vs) h = stack_keeps_root [] vs tt
stack_keeps_root ks (CurDir ∷ vs) h = stack_keeps_root ks vs h
stack_keeps_root ks (Normal name ∷ vs) h = stack_keeps_root (Normal name ∷ ks) vs h
stack_keeps_root [] (ParentDir ∷ vs) h = stack_keeps_root [] vs tt
stack_keeps_root (Normal name ∷ ks) (ParentDir ∷ vs) h = stack_keeps_root ks vs h
stack_keeps_root (k ∷ ks) (ParentDir ∷ vs) h = absurd h

pub names_on_stack : (vs : List Value)
    → (ns : List Value) × AllNames ns × (resolve_onto (RootDir ∷ []) vs ≡ on_root ns)
names_on_stack vs = stack_keeps_root [] vs tt

-- if resolving vs onto the root leaves the names ns on top of the root, `names_below vs` are the
-- names ns in reverse order, from the lowest to the top
pub names_below-stack : (vs ns : List Value) → resolve_onto (RootDir ∷ []) vs ≡ on_root ns
    → names_below vs ≡ reverse ns
unfolding names_below resolved_of
names_below-stack vs ns e = grind (arith, reverse-append)

-- a root and then vs resolve to the root and then `names_below vs`
resolved_of-below : (vs : List Value) → resolved_of (RootDir ∷ vs) ≡ RootDir ∷ names_below vs
unfolding resolved_of
resolved_of-below vs = grind (arith, names_on_stack vs, reverse-append, names_below-stack)

-- all components of `names_below vs` are names
pub AllNames-names_below : (vs : List Value) → AllNames (names_below vs)
AllNames-names_below vs = grind (arith, names_on_stack vs, names_below-stack, names_reverse)

-- if all components of vs are names, `names_below vs` is vs
pub names_below-names : (vs : List Value) → AllNames vs → names_below vs ≡ vs
names_below-names vs h = names_below-stack vs (reverse vs)
    (resolve_onto-names (RootDir ∷ []) vs h ∙ reverse_onto vs RootDir []) ∙ reverse-reverse vs

-- if a path does not escape, it resolves to its `names_below`
pub names_below-resolved : (b : List ℕ) → (Escapes (values b) → ⊥)
    → names_below (values b) ≡ resolved_of (values b)
unfolding resolved_of
names_below-resolved b h = grind (arith, names_below-stack, keeps_stack)

-- dropping a leading root or `.` of vs does not change its `names_below`
names_below-drop_leading : (vs : List Value) → names_below (drop_leading vs) ≡ names_below vs
unfolding names_below resolved_of
names_below-drop_leading (RootDir ∷ vs) = refl
names_below-drop_leading vs = refl

-- dropping a leading `.` of vs does not change its `names_below`
pub names_below-drop_dot : (vs : List Value) → names_below (drop_dot vs) ≡ names_below vs
unfolding names_below resolved_of
names_below-drop_dot (CurDir ∷ vs) = refl
names_below-drop_dot vs = refl

-- the inner components of a path, which are all except its root or leading `.`, have the same
-- `names_below` as the path
pub names_below-inner : (s : List ℕ) → names_below (inner_values s) ≡ names_below (values s)
names_below-inner s = cc (drop_leading-values s, names_below-drop_leading (values s))

pub values-slash : (t : List ℕ) → values (slash ∷ t) ≡ RootDir ∷ inner_values t
values-slash t = values-rooted t ∙ ap (λ vs. RootDir ∷ vs) (sym (inner_values-pieces t))

-- adding a leading slash to a path does not change its `names_below`
pub names_below-slash : (t : List ℕ) → names_below (values (slash ∷ t)) ≡ names_below (values t)
unfolding names_below resolved_of
names_below-slash t = ap names_below (values-slash t) ∙ names_below-inner t

-- a slash and then the path t resolve to the root and the `names_below` of t
pub resolved_of-slash : (t : List ℕ)
    → resolved_of (values (slash ∷ t)) ≡ RootDir ∷ names_below (values t)
resolved_of-slash t = simp (values-slash, resolved_of-below, names_below-inner)

-- t has no root, and the same names remain of t and s after resolving
pub record RepresentsNames (t s : List ℕ) : Type 0 where
  pub rootless : is_rooted t ≡ false
  pub names : names_below (values t) ≡ names_below (values s)

-- the bytes after the leading slashes represent the path's names, and have no NUL if the path has
-- none
pub after_leading_slashes-represents_names : (s : List ℕ)
    → RepresentsNames (after_leading_slashes s) s
    × (has_nul s ≡ false → has_nul (after_leading_slashes s) ≡ false)
after_leading_slashes-represents_names [] = (record { rootless = refl; names = refl }, λ h. h)
after_leading_slashes-represents_names (x ∷ s) =
    grind (arith, after_leading_slashes-represents_names s, names_below-slash, drop-suc_cons)

-- some byte passes p if and only if the index of the first byte that passes is less than the length
pub list_any-index : (p : ℕ → Bool) (s : List ℕ)
    → ltb (position_or_len p s) (length s) ≡ list_any p s
list_any-index p [] = refl
list_any-index p (x ∷ s) = grind (arith, nat_tests, list_any-index p s)

pub ruleset has_nul_cases = list_any-index

pub ruleset requests_are_names_cases = (
  AllNames-names_below,
  names_below-resolved,
  names_below-slash,
  names_below-names,
)

pub ruleset request_beneath_cases = names_below-resolved

pub ruleset request_in_root_cases = (take_rest, after_leading_slashes-represents_names)
