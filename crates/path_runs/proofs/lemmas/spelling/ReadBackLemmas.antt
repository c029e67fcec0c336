-- The canonical form of a path has the path's components. Here pieces are always joined by slashes,
-- and a piece counts if it is neither empty nor `.`.
use Rattle.std.proofs.Common.{◌≡◌, ℕ, Bool, true, false, cond, List, [], ◌∷◌, ◌++◌, map, filter}
use Rattle.std.proofs.Common.{refl, sym, ap, ◌∙◌, arith}
use Rattle.std.specs.List.{AllByRecursion, slice_split, join_with_byte}
use Rattle.std.specs.Str.{bytes_eq}
use Rattle.std.proofs.lemmas.List.Elements.{All-from_recursion}
use Rattle.std.proofs.lemmas.List.Splits.{slice_split_none, slice_split_at}
use Rattle.unix_path.specs.Parts.{is_slash, slash, cur_dir, RootDir, CurDir, value_of_piece}
use Rattle.unix_path.specs.Parts.{is_rooted, counts, values}
use Rattle.unix_bytes.proofs.lemmas.lists.ListLemmas.{by_test}
use Rattle.path_runs.specs.Spelling.{spelling_of}
use Rattle.path_runs.proofs.lemmas.joins.LeadLemmas.{dot_first}
use Rattle.path_runs.proofs.lemmas.spelling.PieceValueLemmas.{AllCount, filter-all, names_of}
use Rattle.path_runs.proofs.lemmas.spelling.PieceValueLemmas.{values-rooted, values-rootless}
use Rattle.path_runs.proofs.lemmas.spelling.PieceValueLemmas.{is_rooted-slash, NoSlash}
use Rattle.path_runs.proofs.lemmas.spelling.PieceValueLemmas.{slice_split-no_slash}
use Rattle.path_runs.proofs.lemmas.spelling.SpellLemmas.{bytes_of_pieces, spelling_of-dot}
use Rattle.path_runs.proofs.lemmas.spelling.SpellLemmas.{spelling_of-pieces, spelling_of-rooted}

-- if none of the pieces p and ps has a slash, joining them by slashes and splitting the result at
-- its slashes yields p and ps again
slice_split-join_with_byte : (p : List ℕ) (ps : List (List ℕ)) → AllByRecursion NoSlash (p ∷ ps)
    → slice_split is_slash (join_with_byte slash (p ∷ ps)) ≡ p ∷ ps
slice_split-join_with_byte p [] h = grind (arith, slice_split_none, All-from_recursion)
slice_split-join_with_byte p (q ∷ ps) h =
    slice_split_at is_slash p slash (join_with_byte slash (q ∷ ps))
    (All-from_recursion (λ b. is_slash b ≡ false) p h.0) refl
    ∙ ap (λ qs. p ∷ qs) (slice_split-join_with_byte q ps h.1)

-- if no piece of ps has a slash, none of the pieces of ps that are neither empty nor `.` has one
filter-no_slash : (ps : List (List ℕ)) → AllByRecursion NoSlash ps
    → AllByRecursion NoSlash (filter counts ps)
filter-no_slash [] h = tt
filter-no_slash (p ∷ ps) h = grind (arith, filter-no_slash ps h.1)

filter-counts : (ps : List (List ℕ)) → AllCount (filter counts ps)
filter-counts [] = tt
filter-counts (p ∷ ps) = grind (arith, filter-counts ps)

names_of-counts : (ps : List (List ℕ)) → AllCount ps → names_of ps ≡ map value_of_piece ps
names_of-counts ps h = ap (map value_of_piece) (filter-all ps h)

-- if each piece of ps has no slash and is neither empty nor `.`, joining ps by slashes and
-- splitting the result at its slashes yields pieces with the components of ps
pub names_of-join_with_byte : (ps : List (List ℕ)) → AllByRecursion NoSlash ps → AllCount ps
    → names_of (slice_split is_slash (join_with_byte slash ps)) ≡ map value_of_piece ps
names_of-join_with_byte [] h k = refl
names_of-join_with_byte (p ∷ ps) h k = simp (slice_split-join_with_byte, names_of-counts)

-- if the first piece begins with a byte x that isn't a slash, the pieces joined by slashes are a
-- path without a root
is_rooted-join_with_byte : (x : ℕ) (p : List ℕ) (ps : List (List ℕ)) → is_slash x ≡ false
    → is_rooted (join_with_byte slash ((x ∷ p) ∷ ps)) ≡ false
is_rooted-join_with_byte x p [] h = h
is_rooted-join_with_byte x p (q ∷ ps) h = h

counts-no_dot : (x : ℕ) (p : List ℕ) → counts (x ∷ p) ≡ true → bytes_eq (x ∷ p) cur_dir ≡ false
counts-no_dot x p e = grind arith

-- the canonical form of a path with a root has the path's components
values-spelling_rooted : (t : List ℕ)
    → values (spelling_of (values (slash ∷ t))) ≡ values (slash ∷ t)
values-spelling_rooted t =
    let ps = slice_split is_slash t in
    let kept = filter counts ps in
    ap values (spelling_of-rooted t) ∙ values-rooted (join_with_byte slash kept)
    ∙ ap (λ vs. RootDir ∷ vs)
    (names_of-join_with_byte kept (filter-no_slash ps (slice_split-no_slash t)) (filter-counts ps))
    ∙ sym (values-rooted t)

-- if each piece of ps has no slash and is neither empty nor `.`, the pieces joined by slashes are a
-- path with the components of ps
pub values-join_with_byte : (ps : List (List ℕ)) → AllByRecursion NoSlash ps → AllCount ps
    → values (join_with_byte slash ps) ≡ map value_of_piece ps
values-join_with_byte [] h k = values-rootless [] ([] ∷ []) refl refl
values-join_with_byte ([] ∷ ps) h k = absurd (let d : false ≡ true = k.0 in cc)
values-join_with_byte ((x ∷ p) ∷ ps) h k =
    let all = (x ∷ p) ∷ ps in
    values-rootless (join_with_byte slash all) all (is_rooted-join_with_byte x p ps h.0.0)
    (slice_split-join_with_byte (x ∷ p) ps h)
    ∙ ap (λ c. cond c (CurDir ∷ []) [] ++ names_of all) (counts-no_dot x p k.0)
    ∙ names_of-counts all k

-- if each piece of ps has no slash and is neither empty nor `.`, then `.` and ps, joined by
-- slashes, are a path with a leading `.` and then the components of ps
pub values-join_with_byte_dot : (ps : List (List ℕ)) → AllByRecursion NoSlash ps → AllCount ps
    → values (join_with_byte slash (cur_dir ∷ ps)) ≡ CurDir ∷ map value_of_piece ps
values-join_with_byte_dot ps h k =
    values-rootless (join_with_byte slash (cur_dir ∷ ps)) (cur_dir ∷ ps)
    (is_rooted-join_with_byte 46 [] ps refl)
    (slice_split-join_with_byte cur_dir ps ((refl, (tt)), h))
    ∙ ap (λ vs. CurDir ∷ vs) (names_of-counts ps k)

-- if s has no root, the canonical form of s has the components of s
values-spelling_rootless : (s : List ℕ) → is_rooted s ≡ false
    → values (spelling_of (values s)) ≡ values s
values-spelling_rootless s r =
    let ps = slice_split is_slash s in
    let kept = filter counts ps in
    let no_slash = filter-no_slash ps (slice_split-no_slash s) in
    let is : (c : Bool) → dot_first ps ≡ c → values s ≡ cond c (CurDir ∷ []) [] ++ names_of ps =
    λ c e. values-rootless s ps r refl ∙ ap (λ c. cond c (CurDir ∷ []) [] ++ names_of ps) e in
    by_test (dot_first ps)
    (λ e. ap (λ vs. values (spelling_of vs)) (is true e) ∙ ap values (spelling_of-dot (names_of ps)
    ∙ ap (λ qs. join_with_byte slash (cur_dir ∷ qs)) (bytes_of_pieces kept))
    ∙ values-join_with_byte_dot kept no_slash (filter-counts ps) ∙ sym (is true e))
    (λ e. ap (λ vs. values (spelling_of vs)) (is false e) ∙ ap values (spelling_of-pieces kept)
    ∙ values-join_with_byte kept no_slash (filter-counts ps) ∙ sym (is false e))

-- the canonical form of a path has the path's components
pub values-spelling_of : (s : List ℕ) → values (spelling_of (values s)) ≡ values s
values-spelling_of s =
    grind (arith, is_rooted-slash, values-spelling_rooted, values-spelling_rootless)

-- if two paths have the same canonical form, they have the same components
pub spelling_of-same : (s t : List ℕ) → spelling_of (values s) ≡ spelling_of (values t)
    → values s ≡ values t
spelling_of-same s t e = sym (values-spelling_of s) ∙ ap values e ∙ values-spelling_of t
