-- A path is its own canonical form if all its pieces count (are neither empty nor `.`).
use Rattle.std.proofs.Common.{◌≡◌, ℕ, true, false, List, [], ◌∷◌, drop, sym, ap, ◌∙◌, arith}
use Rattle.std.specs.Cmp.{second_so}
use Rattle.std.specs.List.{list_all, slice_split}
use Rattle.unix_path.specs.Parts.{is_slash, counts, is_rooted, values}
use Rattle.path_runs.specs.Spelling.{spelling_of}
use Rattle.path_runs.proofs.lemmas.spelling.LeanLemmas.{join_with_byte-pieces}
use Rattle.path_runs.proofs.lemmas.spelling.PieceValueLemmas.{AllCount, filter-all, is_rooted-slash}
use Rattle.path_runs.proofs.lemmas.spelling.PieceValueLemmas.{slice_split-no_slash}
use Rattle.path_runs.proofs.lemmas.spelling.ReadBackLemmas.{values-join_with_byte}
use Rattle.path_runs.proofs.lemmas.spelling.SpellLemmas.{spelling_of-pieces, spelling_of-rooted}

-- if `list_all counts` returns true for the pieces ps, each of them counts: it is neither empty nor
-- `.`
AllCount-list_all : (ps : List (List ℕ)) → list_all counts ps ≡ true → AllCount ps
AllCount-list_all [] h = tt
AllCount-list_all (p ∷ ps) h =
    grind (arith, AllCount-list_all ps (second_so (counts p) (list_all counts ps) h))

-- if s has a root, t is s without its first byte, and each piece of t is neither empty nor `.`,
-- then s is its own canonical form
pub spelling_of-own_rooted : (s t : List ℕ) → list_all counts (slice_split is_slash t) ≡ true
    → is_rooted s ≡ true → t ≡ drop 1 s → spelling_of (values s) ≡ s
spelling_of-own_rooted s t h r e =
    let ps = slice_split is_slash t in
    let u = is_rooted-slash s r in
    let same : t ≡ u.0 = e ∙ ap (drop 1) u.1 in
    grind (arith, spelling_of-rooted, filter-all, AllCount-list_all, join_with_byte-pieces)

-- if s has no root, t is s, and each piece of t is neither empty nor `.`, then s is its own
-- canonical form
pub spelling_of-own_rootless : (s t : List ℕ) → list_all counts (slice_split is_slash t) ≡ true
    → is_rooted s ≡ false → t ≡ s → spelling_of (values s) ≡ s
spelling_of-own_rootless s t h r e =
    let ps = slice_split is_slash t in
    let whole = join_with_byte-pieces t in
    ap (λ s. spelling_of (values s)) (sym (whole ∙ e))
    ∙ ap spelling_of (values-join_with_byte ps (slice_split-no_slash t) (AllCount-list_all ps h))
    ∙ spelling_of-pieces ps ∙ whole ∙ e
