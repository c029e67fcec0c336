-- The rules by which components are resolved, and that they determine what a path resolves to.
use Rattle.std.proofs.Common.{◌≡◌, ℕ, List, [], ◌∷◌, ◌++◌, reverse, refl, sym, ap, ◌∙◌}
use Rattle.std.proofs.Common.{append_assoc, arith}
use Rattle.std.specs.Prelude.{⊤}
use mathlib.Core.List.{reverse_aux}
use Rattle.std.specs.List.{AllByRecursion}
use Rattle.unix_path.specs.Parts.{Value, RootDir, CurDir, ParentDir, Normal, is_rooted, values}
use Rattle.unix_bytes.proofs.lemmas.lists.ListLemmas.{by_test}
use Rattle.path_runs.proofs.lemmas.spelling.PieceValueLemmas.{HoldsOfPieces}
use Rattle.path_runs.proofs.lemmas.spelling.PieceValueLemmas.{values-hold_rooted}
use Rattle.path_runs.proofs.lemmas.spelling.PieceValueLemmas.{values-hold_rootless}
use Rattle.path_within.specs.Resolved.{resolved_of}
use Rattle.path_within.proofs.lemmas.stack.Stacks.{resolve_onto}
use Rattle.path_within.specs.ResolvedLaws.{Resolves}
use Rattle.path_within.proofs.lemmas.stack.Stacks.{IsStack}
use Rattle.path_within.proofs.lemmas.stack.RelativePathLemmas.{resolved_of-normal}
use Rattle.path_within.proofs.lemmas.stack.StackLemmas.{resolve_onto-append, stack_normal}

-- `resolved_of` follows the rules
pub resolves : Resolves resolved_of
unfolding resolved_of
resolves = record {
  name_cancels = λ v w name. ap reverse
      (resolve_onto-append [] v (Normal name ∷ ParentDir ∷ w) ∙ sym (resolve_onto-append [] v w));
  dot_drops = λ v w. ap reverse
      (resolve_onto-append [] v (CurDir ∷ w) ∙ sym (resolve_onto-append [] v w));
  root_stays = λ w. refl;
  normal_stays = resolved_of-normal;
}

-- a list in reverse order before another one
reverse_aux-append : (xs ys : List Value) → reverse_aux xs ys ≡ reverse xs ++ ys
reverse_aux-append [] ys = refl
reverse_aux-append (x ∷ xs) ys =
    reverse_aux-append xs (x ∷ ys) ∙ sym (append_assoc (reverse xs) (x ∷ []) ys)
    ∙ ap (λ l. l ++ ys) (sym (reverse_aux-append xs (x ∷ [])))

-- the component is not the root
abbrev IsRootless : Value → Type 0
IsRootless RootDir = ⊥
IsRootless v = ⊤

-- after the components of a stack and before vs, f drops a `.`
drops_dot : (f : List Value → List Value) → Resolves f → (ks vs : List Value)
    → f (reverse_aux ks (CurDir ∷ vs)) ≡ f (reverse_aux ks vs)
drops_dot f h ks vs =
    ap f (reverse_aux-append ks (CurDir ∷ vs)) ∙ h.dot_drops (reverse ks) vs
    ∙ ap f (sym (reverse_aux-append ks vs))

-- after the components of a stack and before vs, f drops a name with the `..` after it
drops_name : (f : List Value → List Value) → Resolves f → (ks vs : List Value) (name : List ℕ)
    → f (reverse_aux ks (Normal name ∷ ParentDir ∷ vs)) ≡ f (reverse_aux ks vs)
drops_name f h ks vs name =
    ap f (reverse_aux-append ks (Normal name ∷ ParentDir ∷ vs))
    ∙ h.name_cancels (reverse ks) vs name ∙ ap f (sym (reverse_aux-append ks vs))

-- if f follows the rules, it resolves a stack's components, the lowest one first, and then vs as
-- the stack after vs
resolves_onto : (f : List Value → List Value) → Resolves f → (ks vs : List Value) → IsStack ks
    → AllByRecursion IsRootless vs → f (reverse_aux ks vs) ≡ reverse (resolve_onto ks vs)
resolves_onto f h ks [] k all = h.normal_stays (reverse ks) (stack_normal ks [] k tt)
resolves_onto f h ks (RootDir ∷ vs) k all = absurd all.0
resolves_onto f h ks (CurDir ∷ vs) k all = drops_dot f h ks vs ∙ resolves_onto f h ks vs k all.1
resolves_onto f h ks (Normal name ∷ vs) k all = resolves_onto f h (Normal name ∷ ks) vs k all.1
resolves_onto f h [] (ParentDir ∷ vs) k all = resolves_onto f h (ParentDir ∷ []) vs tt all.1
resolves_onto f h (Normal name ∷ ks) (ParentDir ∷ vs) k all =
    drops_name f h ks vs name ∙ resolves_onto f h ks vs k all.1
resolves_onto f h (RootDir ∷ ks) (ParentDir ∷ vs) k all =
    ap (λ ks. f (reverse_aux ks (RootDir ∷ ParentDir ∷ vs))) k ∙ h.root_stays vs
    ∙ ap (λ ks. f (reverse_aux ks (RootDir ∷ vs))) (sym k)
    ∙ resolves_onto f h (RootDir ∷ ks) vs k all.1
resolves_onto f h (CurDir ∷ ks) (ParentDir ∷ vs) k all = absurd k
resolves_onto f h (ParentDir ∷ ks) (ParentDir ∷ vs) k all =
    resolves_onto f h (ParentDir ∷ ParentDir ∷ ks) vs k all.1

-- the component of a piece is not the root
pieces_rootless : HoldsOfPieces IsRootless
pieces_rootless p no_slash some no_dot = grind arith

-- a function that follows the rules resolves each path as `resolved_of` does
pub only_one_resolves : (f : List Value → List Value) → Resolves f → (s : List ℕ)
    → f (values s) ≡ resolved_of (values s)
unfolding resolved_of
only_one_resolves f h s = by_test (is_rooted s)
    (λ r. let behind = values-hold_rooted IsRootless pieces_rootless s r in
    rw behind.1 (resolves_onto f h (RootDir ∷ []) behind.0 refl behind.2))
    (λ r. resolves_onto f h [] (values s) tt
    (values-hold_rootless IsRootless tt pieces_rootless s r))

pub ruleset rules_of_resolving = (resolves, only_one_resolves)
