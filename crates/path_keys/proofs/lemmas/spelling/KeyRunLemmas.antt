-- Names in a key up to the first end mark after which no name begins, and their bytes in a path.
use Rattle.std.proofs.Common.{◌≡◌, ◌<◌, ◌+◌, ℕ, Bool, false, eqb}
use Rattle.std.proofs.Common.{List, [], ◌∷◌}
use Rattle.std.proofs.Common.{◌++◌, length, take, drop, map, get_or, refl, sym, ap, ap₂, ◌∙◌}
use Rattle.std.proofs.Common.{subst, arith, append_assoc, length-append}
use Rattle.std.proofs.Common.{◌&&◌, ◌||◌}
use Rattle.std.proofs.Common.{take-append-drop}
use Rattle.std.proofs.lemmas.Bool.{cases_lt}
use Rattle.std.proofs.lemmas.Bool.Decides.{nat_tests}
use Rattle.std.proofs.lemmas.List.{get_or-map, length-map, map-id}
use Rattle.std.proofs.lemmas.Simd.{map-map}
use Rattle.std.proofs.lemmas.List.{get_or_past, length-take-le, drop_more}
use Rattle.std.proofs.lemmas.List.Splits.{join_with_byte-slice_split}
use Rattle.std.specs.Borrow.{Bor}
use Rattle.std.specs.List.{AllByRecursion, slice_split, join_with_byte}
use Rattle.unix_path.specs.Parts.{slash, is_slash, Normal}
use Rattle.unix_path.specs.Parts.{value_bytes}
use Rattle.path_runs.proofs.lemmas.spelling.PieceValueLemmas.{inner_values-pieces}
use Rattle.path_keys.specs.Keys.{key_of, raised}
use Rattle.path_keys.proofs.lemmas.values.Fitting.{AllFit, IsName}
use Rattle.path_keys.proofs.lemmas.reading.TextLemmas.{text_of}
use Rattle.path_keys.specs.NameBytes.{coded, decoded}
use Rattle.path_keys.specs.Runs.{TakesRun}
use Rattle.path_keys.specs.declared.runs.Run.TheVariants.{Names}
use Rattle.unix_path.specs.NameRunEnds.{ends_name_run_of, no_name_starts_at, IsNameRunEnd}
use Rattle.unix_path.proofs.lemmas.name_run_ends.NameRunEndLemmas.{no_name, no_name-same}
use Rattle.unix_path.proofs.lemmas.name_run_ends.NameRunEndLemmas.{no_name_starts_at-take}
use Rattle.unix_path.proofs.lemmas.name_run_ends.NameRunEndLemmas.{separator_or_no_byte}
use Rattle.unix_path.proofs.lemmas.name_run_ends.NameRunEndLemmas.{separator_at_end, no_end_before}
use Rattle.path_keys.proofs.lemmas.writing.PieceCodeLemmas.{all_pieces_names, names_of-names}
use Rattle.path_keys.proofs.lemmas.writing.PieceCodeLemmas.{some_piece}
use Rattle.path_keys.proofs.lemmas.writing.PieceCodeLemmas.{stretch_key}
use Rattle.path_keys.proofs.lemmas.values.LoweredLemmas.{map-back}
use Rattle.path_keys.proofs.lemmas.reading.TextLemmas.{text_of-slashed}
use Rattle.path_keys.proofs.lemmas.spelling.RunTextLemmas.{run_told}

-- decoding a byte of a key and coding the result leads back to the byte
coded-decoded : (b : ℕ) → coded (decoded b) ≡ b
coded-decoded b = grind (arith, nat_tests)

-- a byte is a slash in the path if and only if it is an end mark in the key
decoded-slash : (b : ℕ) → eqb (decoded b) 47 ≡ eqb b 0
decoded-slash b = grind (arith, nat_tests)

-- a byte is a dot in the path if and only if it is a slash in the key
decoded-dot : (b : ℕ) → eqb (decoded b) 46 ≡ eqb b 47
decoded-dot b = grind (arith, nat_tests)

-- decoding bytes of a key and coding the results leads back to the bytes
map-coded-decoded : (t : List ℕ) → map coded (map decoded t) ≡ t
map-coded-decoded [] = refl
map-coded-decoded (b ∷ t) = ap₂ (λ c s. c ∷ s) (coded-decoded b) (map-coded-decoded t)

-- the byte at index k of the decoded bytes t is the decoded byte at index k of t; past the end of
-- t, a slash counts as the decoded 0
decoded_at : (t : List ℕ) (k : ℕ) → get_or (map decoded t) k 47 ≡ decoded (get_or t k 0)
decoded_at t k = grind (arith, get_or-map, get_or_past, length-map, cases_lt)

-- no name begins at index i of the decoded bytes t if and only if no name begins at index i of t
no_name_starts_at-decoded : (t : List ℕ) (i : ℕ)
    → no_name_starts_at 47 46 (map decoded t) i ≡ no_name_starts_at 0 47 t i
no_name_starts_at-decoded t i =
    no_name-same 47 46 (decoded_at t i) (decoded_at t (i + 1)) (decoded_at t (i + 2))
    ∙ by (get_or t i 0) (get_or t (i + 1) 0) (get_or t (i + 2) 0)
  where
    by : (a b c : ℕ) → no_name 47 46 (decoded a) (decoded b) (decoded c) ≡ no_name 0 47 a b c
    by a b c =
        ap₂ (λ x y. x || y) (decoded-slash a)
        (ap₂ (λ x y. x && y) (decoded-dot a) (ap₂ (λ x y. x || y) (decoded-slash b)
        (ap₂ (λ x y. x && y) (decoded-dot b) (decoded-slash c))))

-- if i is less than the length of t, a run of names ends at index i of the decoded bytes t if and
-- only if one ends at index i of t
ends_name_run-decoded : (t : List ℕ) (i : ℕ) → i < length t
    → ends_name_run_of 47 46 (map decoded t) i ≡ ends_name_run_of 0 47 t i
ends_name_run-decoded t i l = grind (arith, get_or-map, decoded-slash, no_name_starts_at-decoded)

-- if p has no slash, raising all bytes of p and decoding the results leads back to p
pub map-decoded-raised : (p : List ℕ) → AllByRecursion (λ b. is_slash b ≡ false) p
    → map decoded (map raised p) ≡ p
map-decoded-raised =
    map-back decoded raised (λ b. is_slash b ≡ false) (λ b h. grind (arith, nat_tests))

-- if ps are names, they may be the components of a path, or follow other components
pub names_fit : (first : Bool) (ps : List (List ℕ)) → AllByRecursion IsName ps
    → AllFit first (map Normal ps)
names_fit first [] h = tt
names_fit first (p ∷ ps) h = (h.0, names_fit false ps h.1)

-- if p and ps are names, their text is p and ps joined by slashes, and a slash at the end
text_of-names : (p : List ℕ) (ps : List (List ℕ)) → AllByRecursion IsName (p ∷ ps)
    → text_of (map Normal (p ∷ ps)) ≡ join_with_byte slash (p ∷ ps) ++ slash ∷ []
text_of-names p ps h =
    text_of-slashed (Normal p) (map Normal ps) (λ e. cc) (names_fit false ps h.1)
    ∙ ap (λ qs. join_with_byte slash qs ++ slash ∷ [])
    (map-map value_bytes Normal (p ∷ ps) ∙ map-id (p ∷ ps))

-- if a name begins at index 0 of s, and the run of names ends at index n within s, s begins with
-- the run of the names in its first n bytes
pub names_run : (names : Bor (List ℕ)) (s : List ℕ) (n : ℕ) → no_name_starts_at 0 47 s 0 ≡ false
    → IsNameRunEnd 0 47 s n → n < length s → names.now ≡ take n s → TakesRun s (Names names)
names_run names s n e h l is =
    let t = take n s in
    let d = map decoded t in
    let pieces = slice_split is_slash d in
    let size : length t ≡ n = length-take-le n s (omega arith) in
    let begins : no_name_starts_at 47 46 d 0 ≡ false =
    no_name_starts_at-decoded t 0
    ∙ no_name_starts_at-take 0 47 s n 0 h.in_range (separator_or_no_byte 0 47 s n h) (omega arith)
    ∙ e in
    let unstopped : (i : ℕ) → i < length d → ends_name_run_of 47 46 d i ≡ false =
    λ i few. let low : i < length t = omega (arith, length-map t decoded) in
    ends_name_run-decoded t i low ∙ no_end_before 0 47 s n h i low in
    let hold : AllByRecursion IsName pieces = all_pieces_names d begins unstopped in
    let some = some_piece d in
    let coded_is : t ++ 0 ∷ [] ≡ names.now ++ 0 ∷ [] = ap (λ xs. xs ++ 0 ∷ []) (sym is) in
    run_told (record {
      vs = map Normal pieces;
      some = omega (arith, ap (λ ps. length (map Normal ps)) some.2);
      fit = names_fit false pieces hold;
      code_is = sym (ap key_of (inner_values-pieces d ∙ names_of-names pieces hold))
          ∙ stretch_key d hold ∙ ap (λ xs. xs ++ 0 ∷ []) (map-coded-decoded t) ∙ coded_is;
      text_is = ap (λ ps. text_of (map Normal ps)) some.2
          ∙ text_of-names some.0 some.1 (subst (AllByRecursion IsName) some.2 hold)
          ∙ ap (λ ps. join_with_byte slash ps ++ slash ∷ []) (sym some.2)
          ∙ ap (λ xs. xs ++ slash ∷ []) (join_with_byte-slice_split slash d
          ∙ ap (map decoded) (sym is));
      is = sym (take-append-drop n s) ∙ ap (λ r. t ++ r) (drop_more s n 0 l
          ∙ ap (λ x. x ∷ drop (n + 1) s) (separator_at_end 0 47 s n h l))
          ∙ sym (append_assoc t (0 ∷ []) (drop (n + 1) s))
          ∙ ap₂ (λ xs k. xs ++ drop k s) coded_is
          (omega (arith, size, ap length is, length-append names.now (0 ∷ [])));
    })
