-- A join with a resolved root, and paths that go down from a root.
use Rattle.std.proofs.Common.{◌≡◌, ◌≢◌, ℕ, List, [], ◌∷◌, ◌++◌, map, true, false, refl, sym, ap}
use Rattle.std.proofs.Common.{◌∙◌}
use Rattle.std.proofs.lemmas.List.{map-append}
use Rattle.std.specs.Prelude.{fold}
use Rattle.unix_path.specs.Joins.{join_of}
use Rattle.unix_path.specs.Parts.{is_rooted, value_bytes, values}
use Rattle.unix_path.specs.Prefixes.{stripped_of}
use Rattle.unix_path.proofs.lemmas.parts.PartLemmas.{values-nil}
use Rattle.path_runs.specs.JoinLaws.{drop_dot}
use Rattle.path_runs.proofs.lemmas.joins.AssociativeLemmas.{join_of-nil, join_of-separator}
use Rattle.path_runs.proofs.lemmas.joins.ExtendLemmas.{joins-append}
use Rattle.path_runs.proofs.lemmas.spelling.JoinAllLemmas.{joins-values}
use Rattle.path_runs.proofs.lemmas.joins.LeadLemmas.{values-join_of_values_added}
use Rattle.path_runs.proofs.lemmas.joins.StripLemmas.{values-join_of_stripped}
use Rattle.path_within.specs.Below.{below_of, names_below, GoesDown}
use Rattle.path_within.specs.Escapes.{Escapes, has_root_or_parent_dir}
use Rattle.path_within.specs.NamePieces.{is_names_only}
use Rattle.path_within.specs.Resolved.{resolved_of, resolved_bytes_of}
use Rattle.path_within.proofs.lemmas.below.BelowLemmas.{below_of-verbatim, names_only_verbatim}
use Rattle.path_within.proofs.lemmas.below.BelowLemmas.{values-below}
use Rattle.path_within.proofs.lemmas.below.NamesBelowLemmas.{names_below-drop_dot}
use Rattle.path_within.proofs.lemmas.below.NamesBelowLemmas.{names_below-names}
use Rattle.path_within.proofs.lemmas.below.NamesBelowLemmas.{names_below-resolved}
use Rattle.path_within.proofs.lemmas.names_only.RequestLemmas.{names_only_stays, request_has_names}
use Rattle.path_within.proofs.lemmas.names_only.RequestLemmas.{request_rootless}
use Rattle.path_within.proofs.lemmas.names_only.NamesOnlyLemmas.{resolved-names_only}
use Rattle.path_within.proofs.lemmas.stack.ResolveLemmas.{values-resolved}
use Rattle.path_within.proofs.lemmas.below.WithinLemmas.{resolved_of-within}

-- joining the resolved components of a path, one after the other, results in its resolved bytes
joins-resolved : (s : List ℕ)
    → fold join_of [] (map value_bytes (resolved_of (values s))) ≡ resolved_bytes_of s
joins-resolved s = cc (values-resolved s, joins-values (resolved_bytes_of s))

-- if the request b does not escape, the join of the resolved root a and the names of b is the
-- resolved join of a and b
pub below_of-within : (a b : List ℕ) → (Escapes (values b) → ⊥)
    → below_of (resolved_bytes_of a) (names_below (values b)) ≡ resolved_bytes_of (join_of a b)
unfolding below_of
below_of-within a b h =
    let vs = resolved_of (values a) in
    let ws = resolved_of (values b) in
    sym (sym (joins-resolved (join_of a b))
    ∙ ap (λ vs. fold join_of [] (map value_bytes vs)) (resolved_of-within a b h)
    ∙ ap (fold join_of []) (map-append value_bytes vs ws)
    ∙ joins-append [] (map value_bytes vs) (map value_bytes ws)
    ∙ ap (λ s. fold join_of s (map value_bytes ws)) (joins-resolved a)
    ∙ ap (λ ws. fold join_of (resolved_bytes_of a) (map value_bytes ws))
    (sym (names_below-resolved b h)))

-- if `rest` has neither a root nor a `..`, its join to `root` has the components of `root` and then
-- the components of `rest`, except a leading `.` of `rest`
values-down : (root rest : List ℕ) → has_root_or_parent_dir (values rest) ≡ false
    → values (below_of root (names_below (values rest))) ≡ values root ++ drop_dot (values rest)
values-down root rest h =
    values-below root rest ∙ ap (λ vs. values root ++ vs)
    (sym (names_below-drop_dot (values rest))
    ∙ names_below-names (drop_dot (values rest)) (request_has_names rest h))

-- if `path` goes down from `root`, and `root` is not empty, the join of `root` and the resolved
-- names of the rest of `path` after `root` has the components of `path`
pub down_joined : (root path : List ℕ) → GoesDown root path → root ≢ []
    → values (below_of root (names_below (values (stripped_of path root)))) ≡ values path
down_joined [] path h some = absurd (some refl)
down_joined (x ∷ root) path h some =
    let rest = stripped_of path (x ∷ root) in
    values-down (x ∷ root) rest h.names
    ∙ sym (values-join_of_values_added (x ∷ root) rest (request_rootless rest h.names))
    ∙ values-join_of_stripped path (x ∷ root) h.begins

-- if `path` goes down from the empty root, the join of the empty root and the resolved names of the
-- rest of `path` has the components of `path`, except a leading `.`
pub down_joined_here : (path : List ℕ) → GoesDown [] path
    → values (below_of [] (names_below (values (stripped_of path [])))) ≡ drop_dot (values path)
down_joined_here path h =
    let rest = stripped_of path [] in
    values-down [] rest h.names ∙ ap (λ vs. vs ++ drop_dot (values rest)) values-nil
    ∙ ap drop_dot (ap values (sym (join_of-nil rest)) ∙ values-join_of_stripped path [] h.begins)

-- if a and b are paths of names only, and b has no root, the join of a and b is resolved already
pub resolved-names_only_join : (a b : List ℕ) → is_names_only a ≡ true → is_names_only b ≡ true
    → is_rooted b ≡ false → join_of a b ≡ resolved_bytes_of (join_of a b)
resolved-names_only_join a b h k r =
    join_of-separator a b r ∙ below_of-verbatim a b (names_only_verbatim b k r)
    ∙ ap (λ s. below_of s (names_below (values b))) (sym (resolved-names_only a h))
    ∙ below_of-within a b (names_only_stays b k r)
