-- Stacks: their components, and that resolving these components again leaves the same stack.
use Rattle.std.proofs.Common.{◌≡◌, List, [], ◌∷◌, ◌++◌, reverse, refl, sym, ap, ◌∙◌, arith}
use mathlib.Core.List.{reverse_aux}
use Rattle.unix_path.specs.Parts.{Value, RootDir, CurDir, ParentDir, Normal}
use Rattle.path_within.specs.Resolved.{push_component, resolved_of}
use Rattle.path_within.proofs.lemmas.stack.Stacks.{push_parent_dir, resolve_onto}
use Rattle.path_within.specs.Resolved.{AllNames}
use Rattle.path_within.specs.Resolved.{ParentDirsThenNames, IsNormal}
use Rattle.path_within.proofs.lemmas.stack.Stacks.{AllParentDirs, IsStack}

-- components that are all `..` are a stack
pub IsStack-parent_dir_run : (ks : List Value) → AllParentDirs ks → IsStack ks
IsStack-parent_dir_run (RootDir ∷ ks) h = absurd h
IsStack-parent_dir_run (Normal name ∷ ks) h = absurd h
IsStack-parent_dir_run ks h = h

-- a stack is still a stack after one more component
pub IsStack-push_component : (ks : List Value) (v : Value) → IsStack ks
    → IsStack (push_component ks v)
IsStack-push_component ks RootDir h = refl
IsStack-push_component (CurDir ∷ ks) ParentDir h = absurd h
IsStack-push_component ks v h = h

-- a stack is still a stack after more components
pub IsStack-resolve_onto : (ks vs : List Value) → IsStack ks → IsStack (resolve_onto ks vs)
IsStack-resolve_onto ks [] h = h
IsStack-resolve_onto ks (v ∷ vs) h =
    IsStack-resolve_onto (push_component ks v) vs (IsStack-push_component ks v h)

-- resolving vs and ws together onto a stack leaves the same stack as resolving vs and then ws onto
-- it
pub resolve_onto-append : (ks vs ws : List Value) → resolve_onto ks (vs ++ ws)
    ≡ resolve_onto (resolve_onto ks vs) ws
resolve_onto-append ks [] ws = refl
resolve_onto-append ks (v ∷ vs) ws = resolve_onto-append (push_component ks v) vs ws

-- pushing a `..` onto a stack of only `..` puts it on top
pub push_parent_dir_grows : (ks : List Value) → AllParentDirs ks → push_parent_dir ks ≡ ParentDir
    ∷ ks
push_parent_dir_grows (RootDir ∷ ks) h = absurd h
push_parent_dir_grows (Normal name ∷ ks) h = absurd h
push_parent_dir_grows ks h = refl

-- pushing the top v of a stack onto the components below it puts v on top again
push_last : (v : Value) (ks : List Value) → IsStack (v ∷ ks) → push_component ks v ≡ v ∷ ks
push_last RootDir ks h = ap (λ ks. RootDir ∷ ks) (sym h)
push_last CurDir ks h = absurd h
push_last ParentDir ks h = push_parent_dir_grows ks h
push_last (Normal name) ks h = refl

-- the components below the top of a stack are a stack
pub IsStack-tail : (v : Value) (ks : List Value) → IsStack (v ∷ ks) → IsStack ks
IsStack-tail RootDir ks h = rw h tt
IsStack-tail CurDir ks h = absurd h
IsStack-tail ParentDir ks h = IsStack-parent_dir_run ks h
IsStack-tail (Normal name) ks h = h

-- resolving a stack's components again, the lowest one first, and then vs leaves the same stack as
-- resolving vs onto the stack
resolve_onto-again : (ks vs : List Value) → IsStack ks → resolve_onto [] (reverse_aux ks vs)
    ≡ resolve_onto ks vs
resolve_onto-again [] vs h = refl
resolve_onto-again (k ∷ ks) vs h = resolve_onto-again ks (k ∷ vs) (IsStack-tail k ks h)
    ∙ ap (λ js. resolve_onto js vs) (push_last k ks h)

pub resolve_onto-stack : (ks : List Value) → IsStack ks → resolve_onto [] (reverse ks) ≡ ks
resolve_onto-stack ks h = resolve_onto-again ks [] h

-- a list of only names is zero or more `..` and then names
pub names_straight : (vs : List Value) → AllNames vs → ParentDirsThenNames vs
names_straight (ParentDir ∷ vs) h = absurd h
names_straight vs h = h

-- zero or more `..` and then names are normal
pub straight_normal : (vs : List Value) → ParentDirsThenNames vs → IsNormal vs
straight_normal (RootDir ∷ vs) h = absurd h
straight_normal vs h = h

-- names are normal
pub names_normal : (vs : List Value) → AllNames vs → IsNormal vs
names_normal vs h = straight_normal vs (names_straight vs h)

-- if us has only `..`, and vs is zero or more `..` and then names, then us and vs together are zero
-- or more `..` and then names
parent_dirs_before : (us vs : List Value) → AllParentDirs us → ParentDirsThenNames vs
    → ParentDirsThenNames (reverse_aux us vs)
parent_dirs_before [] vs h k = k
parent_dirs_before (ParentDir ∷ us) vs h k = parent_dirs_before us (ParentDir ∷ vs) h k
parent_dirs_before (u ∷ us) vs h k = absurd h

-- a stack's components, the lowest one first, and then names are normal
pub stack_normal : (ks vs : List Value) → IsStack ks → AllNames vs → IsNormal (reverse_aux ks vs)
stack_normal [] vs h k = names_normal vs k
stack_normal (RootDir ∷ ks) vs h k = rw h k
stack_normal (CurDir ∷ ks) vs h k = absurd h
stack_normal (ParentDir ∷ ks) vs h k = straight_normal (reverse_aux ks (ParentDir ∷ vs))
    (parent_dirs_before ks (ParentDir ∷ vs) h (names_straight vs k))
stack_normal (Normal name ∷ ks) vs h k = stack_normal ks (Normal name ∷ vs) h k

pub resolved_normal : (vs : List Value) → IsNormal (resolved_of vs)
unfolding resolved_of
resolved_normal vs = stack_normal (resolve_onto [] vs) [] (IsStack-resolve_onto [] vs tt) tt

-- resolving vs beforehand does not change what vs and then ws resolve to
pub resolved_of-append : (vs ws : List Value)
    → resolved_of (resolved_of vs ++ ws) ≡ resolved_of (vs ++ ws)
unfolding resolved_of
resolved_of-append vs ws =
    let ks = resolve_onto [] vs in
    grind (arith, resolve_onto-append, resolve_onto-stack, IsStack-resolve_onto)

names_before : (ns vs : List Value) → AllNames ns → AllNames vs → AllNames (reverse_aux ns vs)
names_before [] vs h k = k
names_before (Normal name ∷ ns) vs h k = names_before ns (Normal name ∷ vs) h k
names_before (n ∷ ns) vs h k = absurd h

pub names_reverse : (ns : List Value) → AllNames ns → AllNames (reverse ns)
names_reverse ns h = names_before ns [] h tt
