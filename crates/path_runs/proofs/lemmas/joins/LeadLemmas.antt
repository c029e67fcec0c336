-- A leading root or `.`, and the components after it. An inner component is a `..` or a name, and a
-- string is open if it is empty or ends in a slash.
use Rattle.std.proofs.Common.{◌≡◌, ℕ, ◌+◌, Bool, true, false, cond, List, [], ◌∷◌, ◌++◌, ◌<◌}
use Rattle.std.proofs.Common.{length, map, refl, sym, ap, ◌∙◌, arith, append-nil}
use Rattle.std.specs.List.{AllByRecursion, slice_split}
use Rattle.std.specs.Str.{bytes_eq}
use Rattle.unix_path.specs.Parts.{Value, RootDir, CurDir, ParentDir, Normal, is_slash}
use Rattle.unix_path.specs.Parts.{cur_dir, parent_dir, is_rooted, parts_of_pieces}
use Rattle.unix_path.specs.Parts.{inner_parts, leading_part, values}
use Rattle.unix_path.specs.Joins.{needs_no_separator, join_of}
use Rattle.unix_path.proofs.lemmas.edits.JoinLemmas.{join_of_rooted}
use Rattle.unix_path.proofs.lemmas.parts.PartLemmas.{root_first, root_first-values, values-nil}
use Rattle.unix_path.proofs.lemmas.parts.PartLemmas.{some_values}
use Rattle.unix_path.proofs.lemmas.parts.PieceLemmas.{slice_split-first}
use Rattle.path_runs.specs.JoinLaws.{drop_dot, drop_leading, values_added}
use Rattle.path_runs.proofs.lemmas.joins.AssociativeLemmas.{join_of-nil, join_of-join_of}
use Rattle.unix_path.specs.CommonDir.{inner_values}
use Rattle.unix_path.proofs.lemmas.order.CommonPrefixLemmas.{values-leading}
use Rattle.path_runs.proofs.lemmas.joins.ValueLemmas.{values-open, values-join_of}

-- a component that can follow another component: a `..` or a name
abbrev pub IsInner : Value → Type 0
IsInner RootDir = ⊥
IsInner CurDir = ⊥
IsInner ParentDir = Unit {0}
IsInner (Normal name) = Unit {0}

-- each component of the pieces ps, the first of which begins at index `at`, is a `..` or a name
inner_pieces : (at : ℕ) (ps : List (List ℕ))
    → AllByRecursion IsInner (map (λ p. p.value) (parts_of_pieces at ps))
inner_pieces at [] = tt
inner_pieces at (p ∷ ps) =
    grind (arith, inner_pieces (at + length p + 1) ps, by_value (bytes_eq p parent_dir))
  where
    by_value : (c : Bool) → IsInner (cond c ParentDir (Normal p))
    by_value true = tt
    by_value false = tt

inner_values-inner : (s : List ℕ) → AllByRecursion IsInner (inner_values s)
unfolding inner_parts
inner_values-inner s = inner_pieces 0 (slice_split is_slash s)

-- the list of components vs doesn't begin with the root or a `.`
pub record HasNoLead (vs : List Value) : Type 0 where
  pub no_lead : drop_leading vs ≡ vs
  pub no_root : root_first vs ≡ false

-- if each of the components vs is a `..` or a name, vs doesn't begin with the root or a `.`
pub inner-no_lead : (vs : List Value) → AllByRecursion IsInner vs → HasNoLead vs
inner-no_lead [] h = record { no_lead = refl; no_root = refl }
inner-no_lead (v ∷ vs) h = grind arith

-- the first piece is `.`
abbrev pub dot_first : List (List ℕ) → Bool
dot_first [] = false
dot_first (p ∷ ps) = bytes_eq p cur_dir

-- the leading component: the root if the first flag is true, or else a `.` if the second is true,
-- or else none
abbrev pub lead_by : Bool → Bool → List Value
lead_by rooted dotted = cond rooted (RootDir ∷ []) (cond dotted (CurDir ∷ []) [])

-- the components of s are its leading root or `.`, if it has one, and then one component for each
-- piece that is neither empty nor `.`
pub values-lead : (s : List ℕ)
    → values s ≡ lead_by (is_rooted s) (dot_first (slice_split is_slash s)) ++ inner_values s
unfolding leading_part
values-lead s = grind (arith, values-leading, slice_split-first)

-- if vs doesn't begin with the root or a `.`, then `lead_by c d` followed by vs, without a leading
-- root or `.`, is vs
drop_leading-lead_by : (c d : Bool) (vs : List Value) → HasNoLead vs
    → drop_leading (lead_by c d ++ vs) ≡ vs
drop_leading-lead_by true d vs h = refl
drop_leading-lead_by false true vs h = refl
drop_leading-lead_by false false vs h = h.no_lead

-- without a leading root or `.`, the components of s are one component for each piece that is
-- neither empty nor `.`
pub drop_leading-values : (s : List ℕ) → drop_leading (values s) ≡ inner_values s
drop_leading-values s = simp (values-lead, drop_leading-lead_by, inner-no_lead, inner_values-inner)

-- if `lead_by c d`, which is a root, a `.` or nothing, followed by vs is x and then xs, and each of
-- vs is a `..` or a name, then so is each of xs
inner_lead : (c d : Bool) (vs : List Value) (x : Value) (xs : List Value)
    → AllByRecursion IsInner vs → lead_by c d ++ vs ≡ x ∷ xs → AllByRecursion IsInner xs
inner_lead true d vs x xs h e = grind arith
inner_lead false true vs x xs h e = grind arith
inner_lead false false [] x xs h e = absurd (cc)
inner_lead false false (v ∷ vs) x xs h e = grind arith

-- if the components of s are x and then xs, each of xs is a `..` or a name
pub inner-behind : (s : List ℕ) (x : Value) (xs : List Value) → values s ≡ x ∷ xs
    → AllByRecursion IsInner xs
inner-behind s x xs e = grind (arith, inner_lead, inner_values-inner, values-lead)

-- if the first of the components vs isn't the root, dropping a leading `.` of vs is the same as
-- dropping a leading root or `.`
drop_dot-rootless : (vs : List Value) → root_first vs ≡ false → drop_dot vs ≡ drop_leading vs
drop_dot-rootless [] h = refl
drop_dot-rootless (v ∷ vs) h = grind arith

-- if s has no root, the components of s without a leading `.` are one component for each piece that
-- is neither empty nor `.`
pub drop_dot-values : (s : List ℕ) → is_rooted s ≡ false → drop_dot (values s) ≡ inner_values s
drop_dot-values s r = grind (arith, drop_dot-rootless, root_first-values, drop_leading-values)

-- vs, followed by ws without a leading root or `.`; if vs is empty, all of ws
abbrev pub append_values : List Value → List Value → List Value
append_values [] ws = ws
append_values (v ∷ vs) ws = (v ∷ vs) ++ drop_leading ws

-- if each of the components ws is a `..` or a name, `append_values` appends all of ws to vs
pub append_values-inner : (vs ws : List Value) → AllByRecursion IsInner ws
    → append_values vs ws ≡ vs ++ ws
append_values-inner [] ws h = refl
append_values-inner (v ∷ vs) ws h = ap (λ us. v ∷ vs ++ us) (inner-no_lead ws h).no_lead

-- if s isn't empty, `append_values` appends to the components of s those of b without a leading
-- root or `.`
append_values-some : (s b : List ℕ) → 0 < length s
    → values s ++ inner_values b ≡ append_values (values s) (values b)
append_values-some s b l = grind (arith, some_values, drop_leading-values)

-- if u is empty or ends in a slash, u followed by b has the components of u and then those of b,
-- without a leading root or `.` unless u is empty
pub values-append_open : (u b : List ℕ) → needs_no_separator u ≡ true
    → values (u ++ b) ≡ append_values (values u) (values b)
values-append_open [] b o = rw values-nil refl
values-append_open (x ∷ u) b o =
    values-open (x ∷ u) b o (omega arith) ∙ append_values-some (x ∷ u) b (omega arith)

-- if b has no root, the join of a and b has the components of a and then those of b, without a
-- leading `.` unless a is empty
pub values-join_of_rootless : (a b : List ℕ) → is_rooted b ≡ false
    → values (join_of a b) ≡ append_values (values a) (values b)
values-join_of_rootless [] b r = rw (join_of-nil b, values-nil) refl
values-join_of_rootless (x ∷ a) b r = grind (arith, values-join_of, append_values-some)

-- if b has no root, the join of a and b has the components of a, followed by `values_added a b`
pub values-join_of_values_added : (a b : List ℕ) → is_rooted b ≡ false
    → values (join_of a b) ≡ values a ++ values_added a b
values-join_of_values_added [] b r = cc (join_of-nil b, values-nil)
values-join_of_values_added (x ∷ a) b r = grind (arith, values-join_of, drop_dot-values)

-- two equal paths both have a root, or both have none
pub roots_same : (s t : List ℕ) → values s ≡ values t → is_rooted s ≡ is_rooted t
roots_same s t e = sym (root_first-values s) ∙ ap root_first e ∙ root_first-values t

-- if a and b are equal paths, and so are c and d, the join of a and c equals the join of b and d
pub joins_same : (a b c d : List ℕ) → values a ≡ values b → values c ≡ values d
    → values (join_of a c) ≡ values (join_of b d)
joins_same a b c d e f =
    grind (arith, join_of_rooted, values-join_of_rootless, roots_same)

-- a joined with the empty path has the components of a
pub values-join_of_nil : (a : List ℕ) → values (join_of a []) ≡ values a
values-join_of_nil a =
    grind (arith, values-join_of_rootless, values-nil, append_values-inner, append-nil)

pub ruleset join_associative_cases = (join_of-join_of, join_of-nil, values-join_of_nil)
