-- A path of names only is resolved already: it consists of names, or of the root and then names.
use Rattle.std.proofs.Common.{◌≡◌, ℕ, Bool, ◌&&◌, not, true, false, cond, List, [], ◌∷◌, drop}
use Rattle.std.proofs.Common.{length}
use Rattle.std.proofs.Common.{refl, sym, ap, ◌∙◌, arith}
use Rattle.std.specs.List.{list_all, slice_split}
use Rattle.std.specs.Str.{bytes_eq}
use Rattle.std.proofs.lemmas.List.Splits.{slice_split-cons_yes}
use Rattle.unix_bytes.proofs.lemmas.lists.ListLemmas.{by_test}
use Rattle.unix_path.specs.Parts.{is_slash, counts, is_rooted, parent_dir, values}
use Rattle.unix_path.proofs.lemmas.parts.PartLemmas.{values-nil}
use Rattle.path_runs.specs.Spelling.{spelling_of}
use Rattle.path_runs.proofs.lemmas.joins.LeadLemmas.{dot_first}
use Rattle.path_runs.proofs.lemmas.spelling.OwnSpellingLemmas.{spelling_of-own_rooted}
use Rattle.path_runs.proofs.lemmas.spelling.OwnSpellingLemmas.{spelling_of-own_rootless}
use Rattle.path_runs.proofs.lemmas.spelling.PieceValueLemmas.{is_rooted-slash, names_of}
use Rattle.path_runs.proofs.lemmas.spelling.PieceValueLemmas.{values-rooted, values-rootless}
use Rattle.path_within.specs.Resolved.{AllNames, resolved_of, resolved_bytes_of}
use Rattle.path_within.specs.NamePieces.{has_only_name_pieces, is_names_only}
use Rattle.path_within.proofs.lemmas.stack.StackLemmas.{names_normal}
use Rattle.path_within.proofs.lemmas.names_only.NormalLemmas.{resolved_if_normal}

-- the piece is a name: neither empty, nor `.`, nor `..`
abbrev pub is_name_piece : List ℕ → Bool
is_name_piece piece = counts piece && not (bytes_eq piece parent_dir)

-- pieces that are names count as components, because none is empty or `.`
name_pieces_count : (ps : List (List ℕ)) → list_all is_name_piece ps ≡ true
    → list_all counts ps ≡ true
name_pieces_count [] h = refl
name_pieces_count (p ∷ ps) h = grind (arith, name_pieces_count ps)

-- if all pieces ps are names, their components are names
name_pieces_are_names : (ps : List (List ℕ)) → list_all is_name_piece ps ≡ true
    → AllNames (names_of ps)
name_pieces_are_names [] h = tt
name_pieces_are_names (p ∷ ps) h = grind (arith, name_pieces_are_names ps)

-- if all pieces are names, the first is not `.`
name_pieces_no_dot : (ps : List (List ℕ)) → list_all is_name_piece ps ≡ true → dot_first ps ≡ false
name_pieces_no_dot [] h = refl
name_pieces_no_dot (p ∷ ps) h = grind arith

-- if all pieces of a rootless path are names, the path's components are those of the pieces
values-names_only : (s : List ℕ) → has_only_name_pieces s ≡ true → is_rooted s ≡ false
    → values s ≡ names_of (slice_split is_slash s)
values-names_only s h r =
    let ps = slice_split is_slash s in
    grind (arith, values-rootless, name_pieces_no_dot)

-- if all pieces of a rootless path are names, it is in canonical form
canonical_if_names_only : (s : List ℕ) → has_only_name_pieces s ≡ true → is_rooted s ≡ false
    → spelling_of (values s) ≡ s
canonical_if_names_only s h r = grind (arith, spelling_of-own_rootless, name_pieces_count)

-- if a path of names only has no root, all its pieces are names
pub is_names_only-rootless : (s : List ℕ) → is_names_only s ≡ true → is_rooted s ≡ false
    → has_only_name_pieces s ≡ true
is_names_only-rootless s h r = sym (ap (λ c. has_only_name_pieces (cond c (drop 1 s) s)) r) ∙ h

-- if a path of names only has a root, all pieces of the bytes after the root are names
is_names_only-rooted : (s : List ℕ) → is_names_only s ≡ true → is_rooted s ≡ true
    → has_only_name_pieces (drop 1 s) ≡ true
is_names_only-rooted s h r = sym (ap (λ c. has_only_name_pieces (cond c (drop 1 s) s)) r) ∙ h

-- if all pieces of a path are names, it has no root
pub name_pieces-rootless : (s : List ℕ) → has_only_name_pieces s ≡ true → is_rooted s ≡ false
name_pieces-rootless [] h = refl
name_pieces-rootless (b ∷ s) h = by_test (is_slash b)
    (λ e. let no : false ≡ true =
    sym (ap (list_all is_name_piece) (slice_split-cons_yes is_slash b s e)) ∙ h in cc) (λ e. e)

-- a path of names only is resolved already
pub resolved-names_only : (s : List ℕ) → is_names_only s ≡ true → resolved_bytes_of s ≡ s
resolved-names_only s h = grind (
  arith,
  is_names_only-rooted,
  is_names_only-rootless,
  resolved_if_normal,
  values-names_only,
  names_normal,
  name_pieces_are_names,
  canonical_if_names_only,
  is_rooted-slash,
  values-rooted,
  spelling_of-own_rooted,
  name_pieces_count,
)

-- the empty path is resolved already
pub resolved_empty : (s : List ℕ) → s ≡ [] → resolved_bytes_of s ≡ s
unfolding resolved_of spelling_of
resolved_empty s e = rw e (ap (λ vs. spelling_of (resolved_of vs)) values-nil)

-- the path consists of one or more names, is in canonical form, and has as many components as
-- pieces
pub record HasNames (s : List ℕ) : Type 0 where
  pub some : s ≡ [] → ⊥
  pub names : AllNames (values s)
  pub own : spelling_of (values s) ≡ s
  pub count : length (values s) ≡ length (slice_split is_slash s)

-- if no piece is empty or `.`, there are as many components as pieces
length-names_of : (ps : List (List ℕ)) → list_all counts ps ≡ true
    → length (names_of ps) ≡ length ps
length-names_of [] h = refl
length-names_of (p ∷ ps) h = grind (arith, length-names_of ps)

-- `HasNames` is true of a rootless path of names only
pub names_only_has_names : (s : List ℕ) → is_names_only s ≡ true → is_rooted s ≡ false → HasNames s
names_only_has_names s h r =
    let names_only = is_names_only-rootless s h r in
    let ps = slice_split is_slash s in record {
      some = λ e. let no : false ≡ true = sym (ap has_only_name_pieces e) ∙ names_only in cc;
      names = rw (values-names_only s names_only r) (name_pieces_are_names ps names_only);
      own = canonical_if_names_only s names_only r;
      count = simp (values-names_only, length-names_of, name_pieces_count);
    }

pub ruleset is_known_resolved_cases = (resolved-names_only, resolved_empty)
