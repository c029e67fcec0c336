-- The path of a stack: each component's bytes, joined to the path of the components below it.
use Rattle.std.proofs.Common.{◌≡◌, ℕ, false, List, [], ◌∷◌, ◌++◌, map, reverse, refl}
use Rattle.std.proofs.Common.{sym, ap, ◌∙◌, arith, rules}
use mathlib.Core.List.{reverse_aux}
use Rattle.std.specs.List.{slice_split}
use Rattle.std.proofs.lemmas.Grind.{reverse_onto}
use Rattle.std.proofs.lemmas.List.Elements.{All-from_recursion}
use Rattle.std.proofs.lemmas.List.Splits.{slice_split_none}
use Rattle.std.specs.Prelude.{fold}
use Rattle.unix_path.specs.Joins.{join_of}
use Rattle.unix_path.specs.Parts.{is_slash, dot, is_rooted, value_of_piece, Value, RootDir, CurDir}
use Rattle.unix_path.specs.Parts.{ParentDir, Normal, value_bytes, values}
use Rattle.unix_path.proofs.lemmas.edits.JoinLemmas.{join_of_rooted}
use Rattle.unix_path.proofs.lemmas.parts.PartLemmas.{root_first, root_first-values, values-nil}
use Rattle.unix_path.proofs.lemmas.parts.ValueLemmas.{value_bytes-piece}
use Rattle.path_runs.specs.Spelling.{spelling_of}
use Rattle.path_runs.proofs.lemmas.spelling.JoinAllLemmas.{joins-values}
use Rattle.path_runs.proofs.lemmas.joins.LeadLemmas.{IsInner, inner-no_lead}
use Rattle.path_runs.proofs.lemmas.joins.LeadLemmas.{append_values-inner, values-join_of_rootless}
use Rattle.path_runs.proofs.lemmas.spelling.PieceValueLemmas.{HoldsOfPieces, names_of, NoSlash}
use Rattle.path_runs.proofs.lemmas.spelling.PieceValueLemmas.{values-hold, values-rooted}
use Rattle.path_runs.proofs.lemmas.spelling.PieceValueLemmas.{values-rootless}
use Rattle.path_within.specs.Resolved.{push_component}
use Rattle.path_within.proofs.lemmas.stack.Stacks.{resolve_onto}
use Rattle.path_within.proofs.lemmas.stack.Stacks.{IsStack, ReadsAsItself}
use Rattle.path_within.proofs.lemmas.stack.Stacks.{ValueReadsAsItself, path_of}
use Rattle.path_within.proofs.lemmas.stack.StackLemmas.{IsStack-parent_dir_run}

pub ValueReadsAsItself-dot : ValueReadsAsItself CurDir
ValueReadsAsItself-dot = values-rootless (dot ∷ []) ((dot ∷ []) ∷ []) refl refl

piece_rootless : (p : List ℕ) → NoSlash p → is_rooted p ≡ false
piece_rootless [] h = refl
piece_rootless (x ∷ p) h = h.0

-- the bytes of a piece that is neither empty nor `.`, parsed as a path, have only the piece's
-- component
pub ValueReadsAsItself-piece : HoldsOfPieces ValueReadsAsItself
ValueReadsAsItself-piece p h e f =
    let alone : slice_split is_slash p ≡ p ∷ [] =
    slice_split_none is_slash p (All-from_recursion (λ b. is_slash b ≡ false) p h) in
    let single : names_of (p ∷ []) ≡ value_of_piece p ∷ [] = rw (e, f) refl in
    grind (arith, value_bytes-piece, values-rootless, piece_rootless)

-- the bytes of each component of a path, parsed as a path, have only that component
pub ReadsAsItself-values : (s : List ℕ) → ReadsAsItself (values s)
ReadsAsItself-values s =
    search (rules, values-hold, ValueReadsAsItself-dot, ValueReadsAsItself-piece, values-rooted)

-- if `ReadsAsItself` is true of a stack, and one more component reads as itself, it is true of the
-- stack after that component
pub ReadsAsItself-push_component : (ks : List Value) (v : Value) → ReadsAsItself ks
    → ValueReadsAsItself v
    → ReadsAsItself (push_component ks v)
ReadsAsItself-push_component ks RootDir h k = grind (arith, values-rooted)
ReadsAsItself-push_component ks CurDir h k = h
ReadsAsItself-push_component (RootDir ∷ ks) ParentDir h k = h
ReadsAsItself-push_component (Normal name ∷ ks) ParentDir h k = h.1
ReadsAsItself-push_component ks v h k = (k, h)

-- if `ReadsAsItself` is true of a stack and of a list of components, it is true of the stack after
-- these components
pub ReadsAsItself-resolve_onto : (ks vs : List Value) → ReadsAsItself ks → ReadsAsItself vs
    → ReadsAsItself (resolve_onto ks vs)
ReadsAsItself-resolve_onto ks [] h k = h
ReadsAsItself-resolve_onto ks (v ∷ vs) h k = ReadsAsItself-resolve_onto (push_component ks v) vs
    (ReadsAsItself-push_component ks v h k.0) k.1

-- if v is `..` or a name, and reads as itself, joining the bytes of v to a path adds the component
-- v
values-join_of_value : (s : List ℕ) (v : Value) → IsInner v → ValueReadsAsItself v
    → values (join_of s (value_bytes v)) ≡ values s ++ v ∷ []
values-join_of_value s v i e =
    let b = value_bytes v in
    let rootless : is_rooted b ≡ false =
    sym (root_first-values b) ∙ ap root_first e ∙ (inner-no_lead (v ∷ []) (i, tt)).no_root in
    grind (arith, values-join_of_rootless, append_values-inner)

-- if v is `..` or a name, and reads as itself, and the path of the stack ks has the components of
-- ks, the lowest one first, then this is also true of the stack with v on top of ks
push_value : (ks : List Value) (v : Value) → IsInner v → ValueReadsAsItself v
    → values (path_of ks) ≡ reverse ks → values (path_of (v ∷ ks)) ≡ reverse (v ∷ ks)
push_value ks v i e h = grind (arith, values-join_of_value, reverse_onto)

-- if each component of a stack reads as itself, the path of the stack has these components, the
-- lowest one first
pub values-path_of : (ks : List Value) → IsStack ks → ReadsAsItself ks
    → values (path_of ks) ≡ reverse ks
values-path_of [] h k = values-nil
values-path_of (RootDir ∷ ks) h k = grind (arith, join_of_rooted)
values-path_of (CurDir ∷ ks) h k = absurd h
values-path_of (ParentDir ∷ ks) h k =
    push_value ks ParentDir tt k.0 (values-path_of ks (IsStack-parent_dir_run ks h) k.1)
values-path_of (Normal name ∷ ks) h k =
    push_value ks (Normal name) tt k.0 (values-path_of ks h k.1)

-- joining the bytes of a stack's components, the lowest one first, and then the bytes of vs makes
-- the same path as joining the bytes of vs to the path of the stack
joins-reverse : (ks vs : List Value)
    → fold join_of [] (map value_bytes (reverse_aux ks vs))
    ≡ fold join_of (path_of ks) (map value_bytes vs)
joins-reverse [] vs = refl
joins-reverse (k ∷ ks) vs = joins-reverse ks (k ∷ vs)

-- if each component of a stack reads as itself, the path of the stack is the canonical form of
-- these components, the lowest one first
pub path_of-spelled : (ks : List Value) → IsStack ks → ReadsAsItself ks
    → path_of ks ≡ spelling_of (reverse ks)
path_of-spelled ks h k = grind (arith, values-path_of, joins-reverse, joins-values)
