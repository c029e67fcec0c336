-- The last name that remains of components after resolving, found from the end.
use Rattle.std.proofs.Common.{◌≡◌, ℕ, suc, zero, ◌+◌, ◌≤◌, List, [], ◌∷◌, ◌++◌, length, refl, sym}
use Rattle.std.proofs.Common.{ap, ◌∙◌, arith, length-append}
use Rattle.std.proofs.lemmas.Grind.{reverse_onto}
use Rattle.unix_path.specs.Parts.{Value, RootDir, CurDir, ParentDir, Normal}
use Rattle.path_within.specs.Backward.{remaining_parent_dirs, TakesName}
use Rattle.path_within.specs.Below.{names_below}
use Rattle.path_within.specs.Resolved.{push_component}
use Rattle.path_within.proofs.lemmas.stack.Stacks.{resolve_onto, push_parent_dir}
use Rattle.path_within.proofs.lemmas.stack.Stacks.{AllParentDirs, parent_dir_count}
use Rattle.path_within.proofs.lemmas.stack.Stacks.{parent_dirs_on_stack}
use Rattle.path_within.proofs.lemmas.stack.StackLemmas.{resolve_onto-append, push_parent_dir_grows}
use Rattle.path_within.proofs.lemmas.below.NamesBelowLemmas.{names_on_stack, names_below-stack}

-- the stack after n more `..`
abbrev pub push_parent_dirs : ℕ → List Value → List Value
push_parent_dirs zero ks = ks
push_parent_dirs (suc n) ks = push_parent_dirs n (push_parent_dir ks)

-- vs and then n more `..` leave the same stack as `all`, whatever the stack before them; `all` is
-- longer than vs by at least n
pub record Leaves (n : ℕ) (vs all : List Value) : Type 0 where
  pub stack : (ks : List Value) → push_parent_dirs n (resolve_onto ks vs) ≡ resolve_onto ks all
  pub space : n + length vs ≤ length all

-- the fact about `all` once v has been taken from its end and ws remain, if n of the `..` taken
-- before v have not dropped a name yet: a root v leaves neither a name nor a `..`; a name v is the
-- last name if n is 0, and otherwise one of the n `..` drops it; a `..` v adds one to n; a `.`
-- changes nothing
abbrev pub Taken : ℕ → Value → List Value → List Value → Type 0
Taken n RootDir ws all = (names_below all ≡ []) × (remaining_parent_dirs all ≡ 0)
Taken n CurDir ws all = Leaves n ws all
Taken n ParentDir ws all = Leaves (suc n) ws all
Taken zero (Normal name) ws all = TakesName name all ws
Taken (suc n) (Normal name) ws all = Leaves n ws all

-- pushing `..` onto a stack of only the root changes nothing
push_parent_dirs-root : (n : ℕ) → push_parent_dirs n (RootDir ∷ []) ≡ RootDir ∷ []
push_parent_dirs-root zero = refl
push_parent_dirs-root (suc n) = push_parent_dirs-root n

-- pushing n times `..` onto a stack of only `..` adds n to its number of `..`
parent_dir_count-push_parent_dirs : (n : ℕ) (us : List Value) → AllParentDirs us
    → parent_dir_count (push_parent_dirs n us) ≡ n + parent_dir_count us
parent_dir_count-push_parent_dirs zero us h = omega arith
parent_dir_count-push_parent_dirs (suc n) us h =
    ap (λ us. parent_dir_count (push_parent_dirs n us)) (push_parent_dir_grows us h)
    ∙ (let more = parent_dir_count-push_parent_dirs n (ParentDir ∷ us) h in omega arith)

-- if vs remains of `all`, n of the `..` taken from `all` have not dropped a name yet (`Leaves`),
-- and v is the last component of vs, then `Taken` is true after v is taken
pub taken : {n : ℕ} {vs all : List Value} {v w : Value} (m : ℕ) (ws : List Value) → Leaves n vs all
    → n ≡ m → vs ≡ ws ++ v ∷ [] → v ≡ w → Taken m w ws all
taken {n} {vs} {all} {v} {w} m ws h e f g = grind (arith, by, resolve_onto-append, length-append)
  where
    by : (m : ℕ) (w : Value)
        → ((ks : List Value) → push_parent_dirs m (push_component (resolve_onto ks ws) w)
        ≡ resolve_onto ks all)
        → m + (length ws + 1) ≤ length all → Taken m w ws all
    by m RootDir stack space = (
      names_below-stack all [] (sym (stack (RootDir ∷ [])) ∙ push_parent_dirs-root m),
      parent_dirs_on_stack all ∙ ap parent_dir_count (sym (stack []) ∙ push_parent_dirs-root m),
    )
    by m CurDir stack space = record { stack = stack; space = omega arith }
    by m ParentDir stack space = record { stack = stack; space = omega arith }
    by (suc m) (Normal name) stack space = record { stack = stack; space = omega arith }
    by zero (Normal name) stack space =
        let found = names_on_stack ws in
        record {
          names = names_below-stack all (Normal name ∷ found.0)
              (sym (stack (RootDir ∷ [])) ∙ ap (λ ks. Normal name ∷ ks) found.2)
              ∙ reverse_onto found.0 (Normal name) []
              ∙ ap (λ ns. ns ++ Normal name ∷ []) (sym (names_below-stack ws found.0 found.2));
          parent_dirs = parent_dirs_on_stack all ∙ ap parent_dir_count (sym (stack []))
              ∙ sym (parent_dirs_on_stack ws);
          fewer = omega arith;
        }

-- if no component remains to be taken, and n of the `..` taken have not dropped a name, then no
-- name and n times `..` remain of `all` after resolving
pub none_remain : {n : ℕ} {vs all : List Value} → Leaves n vs all → vs ≡ []
    → (names_below all ≡ []) × (remaining_parent_dirs all ≡ n)
none_remain {n} {vs} {all} h e =
    let stack = λ (ks : List Value). ap (λ vs. push_parent_dirs n (resolve_onto ks vs)) (sym e)
    ∙ h.stack ks in (
      names_below-stack all [] (sym (stack (RootDir ∷ [])) ∙ push_parent_dirs-root n),
      grind (arith, parent_dirs_on_stack all, parent_dir_count-push_parent_dirs),
    )
