-- The components of a path, computed from the pieces between its slashes, and predicates that hold
-- of all components. A piece counts if it is neither empty nor `.`.
use Rattle.std.proofs.Common.{◌≡◌, ℕ, ◌+◌, Bool, true, false, cond, eqb, List, [], ◌∷◌, ◌++◌}
use Rattle.std.proofs.Common.{length, map, filter, refl, sym, ap, subst, ◌∙◌, eqb-true, arith}
use Rattle.std.specs.List.{AllByRecursion, slice_split, onto_first}
use Rattle.std.specs.Str.{bytes_eq}
use Rattle.std.proofs.lemmas.List.Splits.{slice_split-cons_yes, slice_split-cons_no}
use Rattle.unix_path.specs.Parts.{is_slash, slash, cur_dir, Part, Value, RootDir, CurDir}
use Rattle.unix_path.specs.Parts.{parts_of_pieces, counts, value_of_piece, inner_parts, is_rooted}
use Rattle.unix_path.specs.Parts.{values}
use Rattle.unix_bytes.proofs.lemmas.lists.ListLemmas.{by_test}
use Rattle.path_runs.proofs.lemmas.joins.LeadLemmas.{dot_first, values-lead}
use Rattle.unix_path.specs.CommonDir.{inner_values}

-- the components of these pieces, leaving out empty pieces and `.`
abbrev pub names_of : List (List ℕ) → List Value
names_of ps = map value_of_piece (filter counts ps)

-- each of these pieces counts: it is neither empty nor `.`
abbrev pub AllCount : List (List ℕ) → Type 0
AllCount ps = AllByRecursion (λ p. counts p ≡ true) ps

-- if each piece of ps counts, dropping the pieces that don't count leaves ps
pub filter-all : (ps : List (List ℕ)) → AllCount ps → filter counts ps ≡ ps
filter-all [] h = refl
filter-all (p ∷ ps) h = rw h.0 (ap (λ qs. p ∷ qs) (filter-all ps h.1))

-- the parts of the pieces ps, without their positions, are the components of the pieces of ps that
-- are neither empty nor `.`
names_of-parts : (at : ℕ) (ps : List (List ℕ))
    → map (λ (p : Part). p.value) (parts_of_pieces at ps) ≡ names_of ps
names_of-parts at [] = refl
names_of-parts at (p ∷ ps) = grind (arith, names_of-parts (at + length p + 1) ps)

pub inner_values-pieces : (s : List ℕ) → inner_values s ≡ names_of (slice_split is_slash s)
unfolding inner_parts
inner_values-pieces s = names_of-parts 0 (slice_split is_slash s)

-- the components of a slash and then t are the root, followed by the components of the pieces of t
-- that are neither empty nor `.`
pub values-rooted : (t : List ℕ) → values (slash ∷ t) ≡ RootDir ∷ names_of (slice_split is_slash t)
values-rooted t = simp (values-lead, inner_values-pieces)

-- if s has no root, and ps are its pieces, the components of s are a `.` if the first piece is `.`,
-- followed by the components of the pieces that are neither empty nor `.`
pub values-rootless : (s : List ℕ) (ps : List (List ℕ)) → is_rooted s ≡ false
    → slice_split is_slash s ≡ ps
    → values s ≡ cond (dot_first ps) (CurDir ∷ []) [] ++ names_of ps
values-rootless s ps r e = grind (arith, values-lead, inner_values-pieces)

-- a rooted path is a slash and then a string t
pub is_rooted-slash : (s : List ℕ) → is_rooted s ≡ true → (t : List ℕ) × (s ≡ slash ∷ t)
is_rooted-slash [] e = absurd (let d : false ≡ true = e in cc)
is_rooted-slash (x ∷ t) e = (t, ap (λ x. x ∷ t) (eqb-true x 47 e))

-- no byte of the piece is a slash
abbrev pub NoSlash : List ℕ → Type 0
NoSlash p = AllByRecursion (λ b. is_slash b ≡ false) p

-- if no piece has a slash, and a byte that is no slash is put before the first piece, still no
-- piece has a slash
onto_first-no_slash : (x : ℕ) (ps : List (List ℕ)) → is_slash x ≡ false → AllByRecursion NoSlash ps
    → AllByRecursion NoSlash (onto_first x ps)
onto_first-no_slash x [] e h = ((e, tt), tt)
onto_first-no_slash x (p ∷ ps) e h = ((e, h.0), h.1)

-- no piece of a path has a slash
pub slice_split-no_slash : (s : List ℕ) → AllByRecursion NoSlash (slice_split is_slash s)
slice_split-no_slash [] = (tt, tt)
slice_split-no_slash (x ∷ s) = by_test (eqb x 47)
    (λ e. subst (AllByRecursion NoSlash) (sym (slice_split-cons_yes is_slash x s e))
    (tt, slice_split-no_slash s))
    (λ e. subst (AllByRecursion NoSlash) (sym (slice_split-cons_no is_slash x s e))
    (onto_first-no_slash x (slice_split is_slash s) e (slice_split-no_slash s)))

-- P holds of the component of each piece that has no slash and is neither empty nor `.`
abbrev pub HoldsOfPieces : (Value → Type 0) → Type 0
HoldsOfPieces P =
    (p : List ℕ) → NoSlash p → bytes_eq p [] ≡ false → bytes_eq p cur_dir ≡ false
    → P (value_of_piece p)

-- if P holds of the component of each piece that has no slash and is neither empty nor `.`, and no
-- piece of ps has a slash, then P holds of all components of ps
names_of-hold : (P : Value → Type 0) → HoldsOfPieces P → (ps : List (List ℕ))
    → AllByRecursion NoSlash ps → AllByRecursion P (names_of ps)
names_of-hold P of_piece [] h = tt
names_of-hold P of_piece (p ∷ ps) h = grind (arith, names_of-hold P of_piece ps h.1)

-- if P holds of `.` and of the components vs, it holds of vs after an optional leading `.`
lead-hold : (P : Value → Type 0) → P CurDir → (c : Bool) (vs : List Value)
    → AllByRecursion P vs → AllByRecursion P (cond c (CurDir ∷ []) [] ++ vs)
lead-hold P of_dot true vs h = (of_dot, h)
lead-hold P of_dot false vs h = h

-- if P holds of `.` and of the component of each piece (`HoldsOfPieces`), and s has no root, P
-- holds of each component of s
pub values-hold_rootless : (P : Value → Type 0) → P CurDir → HoldsOfPieces P → (s : List ℕ)
    → is_rooted s ≡ false → AllByRecursion P (values s)
values-hold_rootless P of_dot of_piece s r =
    let ps = slice_split is_slash s in
    subst (AllByRecursion P) (sym (values-rootless s ps r refl))
    (lead-hold P of_dot (dot_first ps) (names_of ps)
    (names_of-hold P of_piece ps (slice_split-no_slash s)))

-- if P holds of the component of each piece (`HoldsOfPieces`), and s has a root, the components of
-- s are the root and then components of each of which P holds
pub values-hold_rooted : (P : Value → Type 0) → HoldsOfPieces P → (s : List ℕ)
    → is_rooted s ≡ true
    → (vs : List Value) × (values s ≡ RootDir ∷ vs) × AllByRecursion P vs
values-hold_rooted P of_piece s r =
    let t = is_rooted-slash s r in
    let ps = slice_split is_slash t.0 in (
      names_of ps,
      ap values t.1 ∙ values-rooted t.0,
      names_of-hold P of_piece ps (slice_split-no_slash t.0),
    )

-- if P holds of the root, of `.`, and of the component of each piece (`HoldsOfPieces`), it holds of
-- each component of s
pub values-hold : (P : Value → Type 0) → P RootDir → P CurDir → HoldsOfPieces P → (s : List ℕ)
    → AllByRecursion P (values s)
values-hold P of_root of_dot of_piece s = by_test (is_rooted s)
    (λ r. let behind = values-hold_rooted P of_piece s r in
    subst (AllByRecursion P) (sym behind.1) (of_root, behind.2))
    (values-hold_rootless P of_dot of_piece s)
