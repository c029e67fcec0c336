-- The join of a root and the resolved names of a path, which are the names that remain of the path
-- after resolving (`names_below`).
use Rattle.std.proofs.Common.{◌≡◌, ℕ, ◌+◌, ◌≤◌, ◌<◌, true, false, List, [], ◌∷◌, ◌++◌, length, map}
use Rattle.std.proofs.Common.{refl, sym, ap, subst, ◌∙◌, arith, append_assoc, append-nil}
use Rattle.std.proofs.Common.{◌-◌, cond, drop, take, length-append, take-append-drop, rules}
use Rattle.std.specs.List.{AllByRecursion}
use Rattle.std.specs.Prelude.{fold}
use Rattle.unix_path.specs.Joins.{join_of, needs_no_separator}
use Rattle.unix_path.specs.Parts.{Value, RootDir, Normal, is_rooted, slash, value_bytes, values}
use Rattle.unix_path.specs.Prefixes.{IsPrefixOf, stripped_of}
use Rattle.path_runs.specs.Spelling.{slashed_bytes}
use Rattle.path_runs.proofs.lemmas.joins.AssociativeLemmas.{separator}
use Rattle.path_runs.proofs.lemmas.spelling.JoinAllLemmas.{joins-some, unslashed_bytes}
use Rattle.path_runs.proofs.lemmas.spelling.UnslashedLemmas.{IsUnslashedValue, Shape, Rooted}
use Rattle.path_runs.proofs.lemmas.spelling.UnslashedLemmas.{Rootless, values-shape}
use Rattle.path_runs.proofs.lemmas.joins.SiblingLemmas.{values-join_of_one}
use Rattle.path_runs.proofs.lemmas.joins.StripLemmas.{values-stripped_of}
use Rattle.path_runs.proofs.lemmas.lists.AllLemmas.{AllByRecursion-end}
use Rattle.path_within.specs.Backward.{last_names}
use Rattle.path_within.specs.Below.{below_of, has_nul, names_below, IsBelow}
use Rattle.path_within.specs.Escapes.{has_root_or_parent_dir}
use Rattle.path_within.specs.NamePieces.{has_only_name_pieces, is_names_only}
use Rattle.path_within.specs.Resolved.{AllNames, resolved_bytes_of}
use Rattle.path_within.proofs.lemmas.stack.Stacks.{ReadsAsItself}
use Rattle.path_within.proofs.lemmas.below.BoundLemmas.{AreVerbatim}
use Rattle.path_within.proofs.lemmas.below.BoundLemmas.{length-le-slashed_len}
use Rattle.path_within.proofs.lemmas.below.BoundLemmas.{slashed_bytes-names, slashed_len-names}
use Rattle.path_within.proofs.lemmas.below.NamesBelowLemmas.{AllNames-names_below}
use Rattle.path_within.proofs.lemmas.below.NamesBelowLemmas.{names_below-names, resolved_of-slash}
use Rattle.path_within.proofs.lemmas.below.NulLemmas.{has_nul-values, no_nul-below}
use Rattle.path_within.proofs.lemmas.stack.StackLemmas.{names_straight}
use Rattle.path_within.proofs.lemmas.stack.PathOfLemmas.{ReadsAsItself-values}
use Rattle.path_within.proofs.lemmas.stack.RelativePathLemmas.{spelling_of-straight}
use Rattle.path_within.proofs.lemmas.names_only.NamesOnlyLemmas.{names_only_has_names}
use Rattle.path_within.proofs.lemmas.names_only.NamesOnlyLemmas.{name_pieces-rootless}
use Rattle.unix_bytes.proofs.lemmas.lists.ListLemmas.{by_test}
use Rattle.path_within.proofs.lemmas.stack.ResolveLemmas.{values-resolved}
use Rattle.path_within.proofs.lemmas.names_only.RequestLemmas.{names_down}

-- the resolved bytes of a slash and then the path b; their components are the root and the resolved
-- names of b
abbrev rooted : List ℕ → List ℕ
rooted b = resolved_bytes_of (slash ∷ b)

values-rooted : (b : List ℕ) → values (rooted b) ≡ RootDir ∷ names_below (values b)
values-rooted b = values-resolved (slash ∷ b) ∙ resolved_of-slash b

-- parsed as a path, the bytes of each resolved name of b have only that name
ReadsAsItself-names_below : (b : List ℕ) → ReadsAsItself (names_below (values b))
ReadsAsItself-names_below b = grind (arith, values-rooted b, ReadsAsItself-values (rooted b))

-- no resolved name of a path begins or ends with a slash
unslashed_names : (b : List ℕ) → AllByRecursion IsUnslashedValue (names_below (values b))
unslashed_names b = by (subst Shape (values-rooted b) (values-shape (rooted b)))
  where
    by : Shape (RootDir ∷ names_below (values b))
        → AllByRecursion IsUnslashedValue (names_below (values b))
    by (Rooted ws e h) =
        let same : ws
        ≡ names_below (values b) = cc in subst (AllByRecursion IsUnslashedValue) same h
    by (Rootless h) = absurd (h.0.no_root refl)

-- if vs is empty, the join of the root and vs is the root
pub below_of-nil : {vs : List Value} (root : List ℕ) → vs ≡ [] → below_of root vs ≡ root
unfolding below_of
below_of-nil root e = ap (λ vs. fold join_of root (map value_bytes vs)) e

-- none of the last n resolved names of a path begins or ends with a slash
pub unslashed_last : (n : ℕ) (b : List ℕ)
    → AllByRecursion IsUnslashedValue (last_names n (values b))
unslashed_last n b =
    let names = names_below (values b) in
    let k = length names - n in
    AllByRecursion-end IsUnslashedValue (take k names) (drop k names)
    (subst (AllByRecursion IsUnslashedValue) (sym (take-append-drop k names)) (unslashed_names b))

-- the root prefix of a join: the root's bytes, and a slash unless they are empty or end in one
abbrev pub root_prefix : List ℕ → List ℕ
root_prefix root = root ++ separator root

-- if vs is not empty, and no component of vs begins or ends with a slash, the join of the root and
-- vs is the root prefix and then the components of vs, with slashes between them
pub below_of-some : (root : List ℕ) (vs : List Value) → AllByRecursion IsUnslashedValue vs
    → 0 < length vs → below_of root vs ≡ root_prefix root ++ slashed_bytes vs
unfolding below_of
below_of-some root [] h some = absurd (omega arith)
below_of-some root (v ∷ vs) h some = grind (arith, joins-some, unslashed_bytes)

-- if the bytes `names` are the resolved names of b, verbatim, the join of the root and the resolved
-- names of b is the root prefix and then these bytes
pub below_of-verbatim : {names : List ℕ} (root b : List ℕ)
    → AreVerbatim names (names_below (values b))
    → root_prefix root ++ names ≡ below_of root (names_below (values b))
below_of-verbatim root b h = grind (arith, below_of-some, unslashed_names)

-- ---- components

values-names : (root : List ℕ) (vs : List Value) → AllNames vs → ReadsAsItself vs
    → values (below_of root vs) ≡ values root ++ vs
unfolding below_of
values-names root [] h k = sym (append-nil (values root))
values-names root (Normal name ∷ vs) h k =
    values-names (join_of root name) vs h k.1
    ∙ ap (λ ws. ws ++ vs) (values-join_of_one root name name k.0)
    ∙ append_assoc (values root) (Normal name ∷ []) vs
values-names root (v ∷ vs) h k = absurd h

-- the join of the root and the resolved names of b has the components of the root and then these
-- names
pub values-below : (root b : List ℕ)
    → values (below_of root (names_below (values b))) ≡ values root ++ names_below (values b)
values-below root b = simp (values-names, AllNames-names_below, ReadsAsItself-names_below)

-- without the root, the join of the root and the resolved names of b has only these names as
-- components
pub values-stripped_below : (root b : List ℕ)
    → values (stripped_of (below_of root (names_below (values b))) root) ≡ names_below (values b)
values-stripped_below root b = search (rules, values-stripped_of, values-below)

-- if b has no NUL, the join of the root and the resolved names of b is below the root
pub is_below : {s : List ℕ} (root b : List ℕ) → has_nul b ≡ false
    → s ≡ below_of root (names_below (values b)) → IsBelow root s
is_below {s} root b h e =
    let vs = names_below (values b) in
    let rest = values-stripped_below root b in
    subst (IsBelow root) (sym e) (record {
      down = record {
        begins = (vs, sym (values-below root b));
        names = ap has_root_or_parent_dir rest ∙ names_down vs (AllNames-names_below (values b));
      };
      no_nul = grind (arith, has_nul-values, no_nul-below);
    })

-- ---- bytes

-- the join of the root and the resolved names of b is the root's bytes and then the bytes `more`;
-- the join is no longer than the root prefix and b together
record AfterRoot (root b : List ℕ) : Type 0 where
  more : List ℕ
  is : root ++ more ≡ below_of root (names_below (values b))
  fits : length root + length more ≤ length (root_prefix root) + length b

after_root : (root b : List ℕ) → AfterRoot root b
after_root root b = by (names_below (values b)) refl
  where
    by : (vs : List Value) → names_below (values b) ≡ vs → AfterRoot root b
    by [] e = record {
      more = [];
      is = append-nil root ∙ sym (below_of-nil root e);
      fits = omega (arith, length-append root (separator root));
    }
    by (v ∷ vs) e = record {
      more = separator root ++ slashed_bytes (v ∷ vs);
      is = sym (append_assoc root (separator root) (slashed_bytes (v ∷ vs)))
          ∙ sym (ap (below_of root) e ∙ below_of-some root (v ∷ vs)
          (subst (AllByRecursion IsUnslashedValue) e (unslashed_names b)) (omega arith));
      fits = grind
          (arith, length-append, slashed_bytes-names, ap (λ vs. length (slashed_bytes vs)) e);
    }

-- the join of the root and the resolved names of b begins with the root's bytes
pub begins : {s : List ℕ} (root b : List ℕ) → s ≡ below_of root (names_below (values b))
    → IsPrefixOf root s
begins root b e = let h = after_root root b in (h.more, h.is ∙ sym e)

-- if s is the root prefix and then b, the join of the root and the resolved names of b is no longer
-- than s
pub length-below : {s : List ℕ} (root b : List ℕ) → s ≡ root_prefix root ++ b
    → length (below_of root (names_below (values b))) ≤ length s
length-below root b e =
    grind (arith, after_root root b, length-append, length-append (root_prefix root) b)

-- the join of the root and the resolved names of b is at most one byte longer than the root and b
-- together
pub length-below_of : (root b : List ℕ)
    → length (below_of root (names_below (values b))) ≤ length root + 1 + length b
length-below_of root b = by_test (needs_no_separator root)
    (λ e. let short : length (separator root) ≡ 0 = rw e refl in
    grind (arith, after_root root b, length-append))
    (λ e. let short : length (separator root) ≡ 1 = rw e refl in
    grind (arith, after_root root b, length-append))

-- ---- a path whose bytes are its names joined by slashes

-- if b has no root and consists of names only, b is its names with single slashes between them
pub names_only_verbatim : (b : List ℕ) → is_names_only b ≡ true → is_rooted b ≡ false
    → AreVerbatim b (names_below (values b))
names_only_verbatim b names_only r =
    grind (arith, names_only_has_names, spelling_of-straight, names_straight, names_below-names)

-- if all pieces of b are names, b is its names with single slashes between them
pub pieces_verbatim : (b : List ℕ) → has_only_name_pieces b ≡ true
    → AreVerbatim b (names_below (values b))
pieces_verbatim b h =
    let r = name_pieces-rootless b h in
    names_only_verbatim b (ap (λ c. has_only_name_pieces (cond c (drop 1 b) b)) r ∙ h) r

-- if all pieces of b are names, and n is greater than the length of b, b is its last n names with
-- single slashes between them
pub last_verbatim : (n : ℕ) (b : List ℕ) → has_only_name_pieces b ≡ true → length b < n
    → AreVerbatim b (last_names n (values b))
last_verbatim n b h more =
    let names = names_below (values b) in
    let whole : drop (length names - n) names ≡ names =
    ap (λ k. drop k names) {x = length names - n} {y = 0}
    (omega (arith, length-le-slashed_len names, slashed_len-names b)) in
    subst (AreVerbatim b) (sym whole) (pieces_verbatim b h)

pub ruleset root_fill_cases = (names_only_verbatim, below_of-verbatim)
