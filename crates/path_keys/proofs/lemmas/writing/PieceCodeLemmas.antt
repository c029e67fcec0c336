-- A run of names separated by single slashes, in a key.
use Rattle.std.proofs.Common.{◌≡◌, ◌<◌, ◌+◌, ℕ, suc, Bool, true, false, cond, eqb, List}
use Rattle.std.proofs.Common.{[], ◌∷◌}
use Rattle.std.proofs.Common.{◌++◌, length, map, get_or, refl, sym, ap, ap₂, ◌∙◌, subst}
use Rattle.std.proofs.Common.{arith}
use Rattle.std.proofs.Common.{◌&&◌, ◌||◌}
use Rattle.std.proofs.lemmas.Bool.{or_parts}
use Rattle.std.proofs.lemmas.List.Splits.{slice_split-cons_yes, slice_split-cons_no}
use Rattle.std.specs.Str.{bytes_eq}
use Rattle.std.specs.List.{AllByRecursion, slice_split, onto_first, flat_map}
use Rattle.unix_path.specs.CommonDir.{inner_values}
use Rattle.unix_path.specs.Parts.{Normal, is_slash}
use Rattle.unix_bytes.proofs.lemmas.lists.ListLemmas.{by_test}
use Rattle.path_runs.proofs.lemmas.spelling.PieceValueLemmas.{NoSlash, names_of}
use Rattle.path_runs.proofs.lemmas.spelling.PieceValueLemmas.{inner_values-pieces}
use Rattle.path_runs.proofs.lemmas.spelling.PieceValueLemmas.{slice_split-no_slash}
use Rattle.path_keys.specs.Keys.{key_of, raised}
use Rattle.path_keys.proofs.lemmas.values.Fitting.{IsName}
use Rattle.unix_path.specs.NameRunEnds.{ends_name_run_of, no_name_starts_at}
use Rattle.path_keys.specs.NameBytes.{coded}
use Rattle.unix_path.proofs.lemmas.name_run_ends.NameRunEndLemmas.{ends_name_run-append}

-- the codes of these pieces, each taken as a name, one after the other
abbrev piece_codes : List (List ℕ) → List ℕ
piece_codes ps = flat_map (λ p. map raised p ++ 0 ∷ []) ps

-- the pieces of s are a first piece p and the pieces ps after it
pub some_piece : (s : List ℕ)
    → (p : List ℕ) × (ps : List (List ℕ)) × (slice_split is_slash s ≡ p ∷ ps)
some_piece [] = ([], [], refl)
some_piece (x ∷ s) = by_test (eqb x 47)
    (λ e. ([], slice_split is_slash s, slice_split-cons_yes is_slash x s e))
    (λ e.
    let more = some_piece s in
    (x ∷ more.0, more.1, slice_split-cons_no is_slash x s e ∙ ap (onto_first x) more.2))

-- the coded bytes of s and an end mark are the codes of the pieces of s, each taken as a name
coded-pieces : (s : List ℕ) → map coded s ++ 0 ∷ [] ≡ piece_codes (slice_split is_slash s)
coded-pieces [] = refl
coded-pieces (x ∷ s) = by_test (eqb x 47)
    (λ e. ap₂ (λ c cs. c ∷ cs) (ap (λ b. cond b 0 (raised x)) e) (coded-pieces s)
    ∙ sym (ap piece_codes (slice_split-cons_yes is_slash x s e)))
    (λ e.
    let some = some_piece s in
    ap₂ (λ c cs. c ∷ cs) (ap (λ b. cond b 0 (raised x)) e)
    (coded-pieces s ∙ ap piece_codes some.2)
    ∙ sym (ap piece_codes (slice_split-cons_no is_slash x s e ∙ ap (onto_first x) some.2)))

-- if all pieces ps are names, their components are these names
pub names_of-names : (ps : List (List ℕ)) → AllByRecursion IsName ps → names_of ps ≡ map Normal ps
names_of-names [] h = refl
names_of-names (p ∷ ps) h =
    rw (h.0.some, h.0.no_dot, h.0.no_up) (ap (λ vs. Normal p ∷ vs) (names_of-names ps h.1))

-- the key of the names ps is the codes of ps, one after the other
key_of-names : (ps : List (List ℕ)) → key_of (map Normal ps) ≡ piece_codes ps
unfolding key_of
key_of-names [] = refl
key_of-names (p ∷ ps) = ap (λ k. (map raised p ++ 0 ∷ []) ++ k) (key_of-names ps)

-- if all pieces of s are names, the key of its inner components is the coded bytes of s and an end
-- mark
pub stretch_key : (s : List ℕ) → AllByRecursion IsName (slice_split is_slash s)
    → key_of (inner_values s) ≡ map coded s ++ 0 ∷ []
stretch_key s h = grind (arith, inner_values-pieces, names_of-names, key_of-names, coded-pieces)

-- all pieces except the first
abbrev pub later : List (List ℕ) → List (List ℕ)
later [] = []
later (p ∷ ps) = ps

-- no run of names ends at an index within s
abbrev pub Unstopped : List ℕ → Type 0
Unstopped s = (i : ℕ) → i < length s → ends_name_run_of 47 46 s i ≡ false

-- if no run of names ends within the byte x followed by s, none ends within s
no_end_in_both : (x : ℕ) (s : List ℕ) → Unstopped (x ∷ s) → Unstopped s
no_end_in_both x s h = λ i l.
    sym (ends_name_run-append 47 46 (x ∷ []) s i)
    ∙ ap (ends_name_run_of 47 46 (x ∷ s)) {x = 1 + i} {y = suc i} (omega arith)
    ∙ h (suc i) (omega arith)

-- if b is false whenever a is true, a and b are not both true
both_fail : (a b : Bool) → (a ≡ true → b ≡ false) → (a && b) ≡ false
both_fail true b h = h refl
both_fail false b h = refl

-- if a and b are not both true, and a is true, then b is false
second_fails : (a b : Bool) → (a && b) ≡ false → a ≡ true → b ≡ false
second_fails true b h e = h
second_fails false b h e = absurd (cc)

-- p is the byte y followed by the first piece of s
record Begun (y : ℕ) (s p : List ℕ) : Type 0 where
  more : List ℕ
  others : List (List ℕ)
  is : p ≡ y ∷ more
  rest : slice_split is_slash s ≡ more ∷ others

-- if y is no slash, the first piece of y followed by s is y followed by the first piece of s
begun : (y : ℕ) (s p : List ℕ) (ps : List (List ℕ)) → eqb y 47 ≡ false
    → slice_split is_slash (y ∷ s) ≡ p ∷ ps → Begun y s p
begun y s p ps e is =
    let some = some_piece s in
    let whole : slice_split is_slash (y ∷ s) ≡ (y ∷ some.0) ∷ some.1 =
    slice_split-cons_no is_slash y s e ∙ ap (onto_first y) some.2 in
    record {
      more = some.0;
      others = some.1;
      is = (let d = sym is ∙ whole in cc);
      rest = some.2;
    }

-- if s is not empty and doesn't begin with a slash, its first piece p is not empty
some_first : (s p : List ℕ) (ps : List (List ℕ)) → eqb (get_or s 0 47) 47 ≡ false
    → slice_split is_slash s ≡ p ∷ ps → bytes_eq p [] ≡ false
some_first [] p ps e is = absurd (let k : true ≡ false = e in cc)
some_first (y ∷ s) p ps e is = ap (λ p. bytes_eq p []) (begun y s p ps e is).is

-- if s is not empty, and begins neither with a slash nor with a piece `.`, its first piece p is not
-- `.`
no_dot_first : (s p : List ℕ) (ps : List (List ℕ))
    → (eqb (get_or s 0 47) 47 || (eqb (get_or s 0 47) 46 && eqb (get_or s 1 47) 47)) ≡ false
    → slice_split is_slash s ≡ p ∷ ps → bytes_eq p (46 ∷ []) ≡ false
no_dot_first [] p ps e is = absurd (let k : true ≡ false = e in cc)
no_dot_first (y ∷ s) p ps e is =
    let both = or_parts (eqb y 47) (eqb y 46 && eqb (get_or s 0 47) 47) e in
    let b = begun y s p ps both.0 is in
    ap (λ p. bytes_eq p (46 ∷ [])) b.is
    ∙ both_fail (eqb y 46) (bytes_eq b.more [])
    (λ d. some_first s b.more b.others (second_fails _ _ both.1 d) b.rest)

-- if a name begins at index 0 of s, the first piece p of s is a name
first_name : (s p : List ℕ) (ps : List (List ℕ)) → no_name_starts_at 47 46 s 0 ≡ false
    → slice_split is_slash s ≡ p ∷ ps → IsName p
first_name [] p ps e is = absurd (let k : true ≡ false = e in cc)
first_name (y ∷ s) p ps e is =
    let next = eqb (get_or s 0 47) 47 || (eqb (get_or s 0 47) 46 && eqb (get_or s 1 47) 47) in
    let both = or_parts (eqb y 47) (eqb y 46 && next) e in
    let b = begun y s p ps both.0 is in
    let clean = subst (AllByRecursion NoSlash) is (slice_split-no_slash (y ∷ s)) in
    record {
      some = ap (λ p. bytes_eq p []) b.is;
      no_slash = clean.0;
      no_dot = ap (λ p. bytes_eq p (46 ∷ [])) b.is
          ∙ both_fail (eqb y 46) (bytes_eq b.more [])
          (λ d. some_first s b.more b.others
          (or_parts (eqb (get_or s 0 47) 47) (eqb (get_or s 0 47) 46 && eqb (get_or s 1 47) 47)
          (second_fails (eqb y 46) next both.1 d)).0 b.rest);
      no_up = ap (λ p. bytes_eq p (46 ∷ 46 ∷ [])) b.is
          ∙ both_fail (eqb y 46) (bytes_eq b.more (46 ∷ []))
          (λ d. no_dot_first s b.more b.others (second_fails (eqb y 46) next both.1 d) b.rest);
    }

-- if no run of names ends within s, the pieces of s after the first one are names
pub later_names : (s : List ℕ) → Unstopped s
    → AllByRecursion IsName (later (slice_split is_slash s))
later_names [] h = tt
later_names (x ∷ s) h = by_test (eqb x 47)
    (λ e.
    let some = some_piece s in
    let more = subst (λ qs. AllByRecursion IsName (later qs)) some.2
    (later_names s (no_end_in_both x s h)) in
    let begins : no_name_starts_at 47 46 s 0 ≡ false = rw e at (h 0 (omega arith)) in
    subst (λ qs. AllByRecursion IsName (later qs))
    (sym (slice_split-cons_yes is_slash x s e ∙ ap (λ qs. [] ∷ qs) some.2))
    (first_name s some.0 some.1 begins some.2, more))
    (λ e.
    let some = some_piece s in
    let more = subst (λ qs. AllByRecursion IsName (later qs)) some.2
    (later_names s (no_end_in_both x s h)) in
    subst (λ qs. AllByRecursion IsName (later qs))
    (sym (slice_split-cons_no is_slash x s e ∙ ap (onto_first x) some.2)) more)

-- if a name begins at index 0 of s, and no run of names ends within s, all pieces of s are names
pub all_pieces_names : (s : List ℕ) → no_name_starts_at 47 46 s 0 ≡ false → Unstopped s
    → AllByRecursion IsName (slice_split is_slash s)
all_pieces_names s e h =
    let some = some_piece s in
    subst (AllByRecursion IsName) (sym some.2) (
      first_name s some.0 some.1 e some.2,
      subst (λ qs. AllByRecursion IsName (later qs)) some.2 (later_names s h),
    )
