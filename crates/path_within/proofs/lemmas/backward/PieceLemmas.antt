-- The pieces of a path, from the last to the first.
use Rattle.std.proofs.Common.{◌≡◌, ℕ, suc, ◌+◌, ◌-◌, ◌<◌, ◌≤◌, false, cond, eqb, eqb-true, List, []}
use Rattle.std.proofs.Common.{◌∷◌, ◌++◌, length, map, take, drop, get_or, refl, sym, ap, ◌∙◌, arith}
use Rattle.std.proofs.Common.{drop-cons, reverse, take-append-drop}
use Rattle.std.specs.List.{onto_first, position_or_len, slice_split}
use Rattle.std.proofs.lemmas.Bool.{eqb-false}
use Rattle.std.proofs.lemmas.List.{length-map, map-append, take_rest}
use Rattle.std.proofs.lemmas.List.Splits.{length-slice_split, slice_split-cons_no}
use Rattle.std.proofs.lemmas.List.Sums.{count_by-le-length}
use Rattle.unix_bytes.proofs.lemmas.lists.ListLemmas.{by_test}
use Rattle.unix_path.specs.CommonDir.{inner_values}
use Rattle.unix_path.specs.Parts.{Value, RootDir, counts, is_rooted, is_slash, slash}
use Rattle.unix_path.specs.Parts.{value_of_piece, values}
use Rattle.unix_path.proofs.lemmas.parts.CutLemmas.{slice_split-append}
use Rattle.path_runs.proofs.lemmas.joins.LeadLemmas.{drop_dot-values, roots_same}
use Rattle.path_runs.proofs.lemmas.spelling.PieceValueLemmas.{inner_values-pieces, names_of}
use Rattle.path_within.specs.Backward.{piece_value, remaining_parent_dirs}
use Rattle.path_within.specs.Below.{names_below}
use Rattle.path_within.specs.Resolved.{push_component, resolved_of}
use Rattle.path_within.proofs.lemmas.stack.Stacks.{resolve_onto}
use Rattle.path_within.proofs.lemmas.below.NamesBelowLemmas.{names_below-inner, names_below-stack}
use Rattle.path_within.proofs.lemmas.below.NamesBelowLemmas.{names_on_stack}
use Rattle.path_within.proofs.lemmas.stack.ResolveLemmas.{resolve_onto-drop_dot}
use Rattle.unix_path.specs.Scan.{is_filler}
use Rattle.unix_path.proofs.lemmas.filler.FillerLemmas.{values-not_filler}
use Rattle.path_within.proofs.lemmas.below.NamesBelowLemmas.{RepresentsNames}
use Rattle.path_within.proofs.lemmas.stack.Stacks.{parent_dirs_on_stack}

-- the pieces of a string, as components
abbrev pub piece_values : List ℕ → List Value
piece_values s = map piece_value (slice_split is_slash s)

-- filler adds nothing to the stack: resolving all pieces leaves the same stack as resolving the
-- components of these pieces
resolve_onto-pieces : (ks : List Value) (ps : List (List ℕ))
    → resolve_onto ks (map piece_value ps) ≡ resolve_onto ks (names_of ps)
resolve_onto-pieces ks [] = refl
resolve_onto-pieces ks (p ∷ ps) = by_test (counts p)
    (λ e. rw e (resolve_onto-pieces (push_component ks (value_of_piece p)) ps))
    (λ e. rw e (resolve_onto-pieces ks ps))

resolve_onto-inner : (ks : List Value) (s : List ℕ)
    → resolve_onto ks (piece_values s) ≡ resolve_onto ks (inner_values s)
resolve_onto-inner ks s = simp (resolve_onto-pieces, inner_values-pieces)

-- resolving the pieces of a path leaves the same names as resolving the path
pub names_below-pieces : (s : List ℕ) → names_below (piece_values s) ≡ names_below (values s)
names_below-pieces s =
    let found = names_on_stack (inner_values s) in
    names_below-stack (piece_values s) found.0 (resolve_onto-inner (RootDir ∷ []) s ∙ found.2)
    ∙ sym (names_below-stack (inner_values s) found.0 found.2) ∙ names_below-inner s

-- if the path has no root, as many `..` remain of the pieces as of the path
pub remaining_parent_dirs-pieces : (s : List ℕ) → is_rooted s ≡ false
    → remaining_parent_dirs (piece_values s) ≡ remaining_parent_dirs (values s)
remaining_parent_dirs-pieces s r = cc (
  parent_dirs_on_stack (piece_values s),
  parent_dirs_on_stack (values s),
  resolve_onto-inner [] s,
  drop_dot-values s r,
  resolve_onto-drop_dot [] (values s),
)

-- a string has at most one more piece than bytes
pub few_pieces : (s : List ℕ) → length (piece_values s) ≤ length s + 1
few_pieces s = grind (arith, length-map, length-slice_split, count_by-le-length)

-- splitting bytes without a slash at slashes results in one piece
one_piece : (p : List ℕ) → position_or_len is_slash p ≡ length p → slice_split is_slash p ≡ p ∷ []
one_piece [] e = refl
one_piece (x ∷ p) e = by_test (is_slash x)
    (λ yes. let no : position_or_len is_slash (x ∷ p) ≡ 0 = rw yes refl in
    absurd (omega (arith, no, e)))
    (λ no.
    let rest : position_or_len is_slash (x ∷ p) ≡ suc (position_or_len is_slash p) =
    rw no (omega arith) in
    slice_split-cons_no is_slash x p no ∙ ap (onto_first x) (one_piece p (omega (arith, rest, e))))

-- if the last slash of s is at index n - 1, the pieces of s are those of u, the bytes before this
-- slash, and then p, the bytes after it
pub last_piece : {u p : List ℕ} (s : List ℕ) (n : ℕ) → 0 < n → n ≤ length s
    → get_or s (n - 1) 0 ≡ slash
    → u ≡ take (n - 1) s → p ≡ drop n s → position_or_len is_slash p ≡ length p
    → piece_values s ≡ piece_values u ++ piece_value p ∷ []
last_piece {u} {p} s n some in_range here e f none =
    let cons : drop (n - 1) s ≡ slash ∷ p =
    drop-cons s (n - 1) 0 (omega arith) ∙ ap (λ b. b ∷ drop (suc (n - 1)) s) here
    ∙ ap (λ k. slash ∷ drop k s) {x = suc (n - 1)} {y = n} (omega arith)
    ∙ ap (λ t. slash ∷ t) (sym f) in
    let cut : s ≡ u ++ slash ∷ p =
    sym (take-append-drop (n - 1) s) ∙ ap (λ t. take (n - 1) s ++ t) cons
    ∙ ap (λ t. t ++ slash ∷ p) (sym e) in
    grind (arith, slice_split-append, map-append, one_piece)

-- if p is s and has no slash, p is the only piece of s
pub only_piece : {s p : List ℕ} → p ≡ s → position_or_len is_slash p ≡ length p
    → piece_values s ≡ piece_value p ∷ []
only_piece {s} {p} e none = cc (one_piece p none)

-- the pieces of s are the pieces before its last slash, if it has a slash, and then the last piece,
-- v, which begins at index n
pub taken_piece : (s : List ℕ) (n : ℕ) {v : Value} → n ≤ length s
    → (0 < n → get_or s (n - 1) 0 ≡ slash)
    → position_or_len is_slash (drop n s) ≡ length (drop n s) → v ≡ piece_value (drop n s)
    → piece_values s ≡ cond (eqb n 0) [] (piece_values (take (n - 1) s)) ++ v ∷ []
taken_piece s n {v} in_range here none e = by_test (eqb n 0)
    (λ z. rw z (only_piece (ap (λ n. drop n s) (eqb-true n 0 z)) none
    ∙ ap (λ v. v ∷ []) (sym e)))
    (λ z. let some : 0 < n = omega (arith, eqb-false n 0 z) in
    rw z (last_piece s n some in_range (here some) refl refl none
    ∙ ap (λ v. piece_values (take (n - 1) s) ++ v ∷ []) (sym e)))

-- ---- paths without leading filler

-- a path that doesn't begin with filler has no root
not_filler-rootless : (s : List ℕ) → is_filler s 0 ≡ false → is_rooted s ≡ false
not_filler-rootless [] not_filler = refl
not_filler-rootless (x ∷ s) not_filler = grind (arith, not_filler)

-- if u has the components of s and the inner components of t, and t does not begin with filler, t
-- represents the names of s
pub after_filler-represents_names : (u t s : List ℕ) → values u ≡ values s
    → inner_values u ≡ inner_values t → is_filler t 0 ≡ false → RepresentsNames t s
after_filler-represents_names u t s same inner not_filler =
    grind (arith, not_filler-rootless, values-not_filler, names_below-inner)

-- if u has the components of s and the inner components of t, t does not begin with filler, and s
-- has no root, then t resolves to the same components as s
pub after_filler-resolved : (u t s : List ℕ) → values u ≡ values s
    → inner_values u ≡ inner_values t → is_filler t 0 ≡ false → is_rooted s ≡ false
    → resolved_of (values t) ≡ resolved_of (values s)
unfolding resolved_of
after_filler-resolved u t s same inner not_filler r =
    ap resolved_of (values-not_filler t not_filler ∙ sym inner)
    ∙ ap reverse (ap (resolve_onto []) (sym (drop_dot-values u (roots_same u s same ∙ r)))
    ∙ resolve_onto-drop_dot [] (values u)) ∙ ap resolved_of same

pub ruleset pieces_new_cases = (
  names_below-pieces,
  remaining_parent_dirs-pieces,
  roots_same,
  few_pieces,
)

pub ruleset pieces_next_back_cases = (taken_piece, take_rest)
