-- Keys in hexadecimal, read back.
use Rattle.std.proofs.Common.{◌≡◌, ◌<◌, ◌+◌, ◌*◌, ◌/◌, ◌%◌, ℕ, Bool, true, false, cond, eqb}
use Rattle.std.proofs.Common.{List, [], ◌∷◌, ◌++◌, map, Some, refl, sym, ap, ap₂, ◌∙◌, subst, arith}
use Rattle.std.specs.List.{All, AllByRecursion, onto_first, slice_split}
use Rattle.std.specs.Str.{bytes_eq}
use Rattle.std.proofs.lemmas.Bool.Decides.{nat_tests}
use Rattle.std.proofs.lemmas.List.Elements.{recursion_from_All}
use Rattle.std.proofs.lemmas.List.Splits.{slice_split-cons_yes, slice_split-cons_no}
use Rattle.unix_path.specs.Parts.{Value, RootDir, CurDir, ParentDir, Normal, counts, is_rooted}
use Rattle.unix_path.specs.Parts.{is_slash, parent_dir, value_of_piece, values}
use Rattle.path_runs.proofs.lemmas.joins.LeadLemmas.{dot_first}
use Rattle.path_runs.proofs.lemmas.spelling.PieceValueLemmas.{is_rooted-slash, names_of}
use Rattle.path_runs.proofs.lemmas.spelling.PieceValueLemmas.{values-rooted, values-rootless}
use Rattle.path_keys.specs.Keys.{code, key_of, raised}
use Rattle.path_keys.proofs.lemmas.values.KeyLemmas.{key_of-cons, key_of-nil}
use Rattle.upath_commands.specs.Hex.{byte_value, digit_value, hex_digit, hex_of, hex_value}
use Rattle.upath_commands.specs.Hex.{with_byte}
use Rattle.upath_commands.proofs.lemmas.RecordLemmas.{by_test}

-- the number is a byte
abbrev pub IsByte : ℕ → Type 0
IsByte b = b < 256

-- each number is a byte
abbrev pub AreBytes : List ℕ → Type 0
AreBytes bs = AllByRecursion IsByte bs

-- a digit has its number
digit_value-hex_digit : (n : ℕ) → n < 16 → digit_value (hex_digit n) ≡ Some n
digit_value-hex_digit n l = grind (arith, nat_tests)

-- the digits of a byte have it as their value
byte_value-digits : (b : ℕ) → IsByte b
    → byte_value (hex_digit (b / 16)) (hex_digit (b % 16)) ≡ Some b
byte_value-digits b l =
    let high : b / 16 < 16 = omega arith in
    let low : b % 16 < 16 = omega arith in
    let whole : 16 * (b / 16) + b % 16 ≡ b = omega arith in
    rw (digit_value-hex_digit (b / 16) high, digit_value-hex_digit (b % 16) low) (ap Some whole)

-- bytes in hexadecimal are read back
pub hex_value-hex_of : (bs : List ℕ) → AreBytes bs → hex_value (hex_of bs) ≡ Some bs
unfolding hex_value
hex_value-hex_of [] h = refl
hex_value-hex_of (b ∷ bs) h =
    ap₂ with_byte (byte_value-digits b h.0) (hex_value-hex_of bs h.1)

-- the component has only bytes
abbrev HasBytes : Value → Type 0
HasBytes RootDir = Unit {0}
HasBytes CurDir = Unit {0}
HasBytes ParentDir = Unit {0}
HasBytes (Normal name) = AreBytes name

raised-IsByte : (b : ℕ) → IsByte b → IsByte (raised b)
raised-IsByte b h = grind (arith, nat_tests)

raised-AreBytes : (name : List ℕ) → AreBytes name → AreBytes (map raised name ++ 0 ∷ [])
raised-AreBytes [] h = (omega arith, tt)
raised-AreBytes (b ∷ name) h = (raised-IsByte b h.0, raised-AreBytes name h.1)

code-AreBytes : (v : Value) → HasBytes v → AreBytes (code v)
code-AreBytes RootDir h = (omega arith, (omega arith, tt))
code-AreBytes CurDir h = (omega arith, (omega arith, tt))
code-AreBytes ParentDir h = (omega arith, (omega arith, tt))
code-AreBytes (Normal name) h = raised-AreBytes name h

append-AreBytes : (xs ys : List ℕ) → AreBytes xs → AreBytes ys → AreBytes (xs ++ ys)
append-AreBytes [] ys h k = k
append-AreBytes (x ∷ xs) ys h k = (h.0, append-AreBytes xs ys h.1 k)

-- the key of components with only bytes has only bytes
key_of-AreBytes : (vs : List Value) → AllByRecursion HasBytes vs → AreBytes (key_of vs)
key_of-AreBytes [] h = subst AreBytes (sym key_of-nil) tt
key_of-AreBytes (v ∷ vs) h =
    subst AreBytes (sym (key_of-cons v vs))
    (append-AreBytes (code v) (key_of vs) (code-AreBytes v h.0) (key_of-AreBytes vs h.1))

onto_first-AreBytes : (x : ℕ) (ps : List (List ℕ)) → IsByte x → AllByRecursion AreBytes ps
    → AllByRecursion AreBytes (onto_first x ps)
onto_first-AreBytes x [] e h = ((e, tt), tt)
onto_first-AreBytes x (p ∷ ps) e h = ((e, h.0), h.1)

-- the pieces of bytes have only bytes
slice_split-AreBytes : (s : List ℕ) → AreBytes s
    → AllByRecursion AreBytes (slice_split is_slash s)
slice_split-AreBytes [] h = (tt, tt)
slice_split-AreBytes (x ∷ s) h = by_test (eqb x 47)
    (λ e. subst (AllByRecursion AreBytes) (sym (slice_split-cons_yes is_slash x s e))
    (tt, slice_split-AreBytes s h.1))
    (λ e. subst (AllByRecursion AreBytes) (sym (slice_split-cons_no is_slash x s e))
    (onto_first-AreBytes x (slice_split is_slash s) h.0 (slice_split-AreBytes s h.1)))

piece-HasBytes : (p : List ℕ) → AreBytes p → HasBytes (value_of_piece p)
piece-HasBytes p h = by_test (bytes_eq p parent_dir) (λ e. rw e tt) (λ e. rw e h)

-- the components of such pieces have only bytes
names_of-HasBytes : (ps : List (List ℕ)) → AllByRecursion AreBytes ps
    → AllByRecursion HasBytes (names_of ps)
names_of-HasBytes [] h = tt
names_of-HasBytes (p ∷ ps) h =
    by_test (counts p) (λ e. rw e (piece-HasBytes p h.0, names_of-HasBytes ps h.1))
    (λ e. rw e (names_of-HasBytes ps h.1))

lead-HasBytes : (dot : Bool) (vs : List Value) → AllByRecursion HasBytes vs
    → AllByRecursion HasBytes (cond dot (CurDir ∷ []) [] ++ vs)
lead-HasBytes true vs h = (tt, h)
lead-HasBytes false vs h = h

-- the components of bytes have only bytes
values-HasBytes : (s : List ℕ) → AreBytes s → AllByRecursion HasBytes (values s)
values-HasBytes s h = by_test (is_rooted s)
    (λ r.
    let t = is_rooted-slash s r in
    let bytes : AreBytes t.0 = (subst AreBytes t.1 h).1 in
    subst (AllByRecursion HasBytes) (sym (ap values t.1 ∙ values-rooted t.0))
    (tt, names_of-HasBytes (slice_split is_slash t.0) (slice_split-AreBytes t.0 bytes)))
    (λ r.
    let ps = slice_split is_slash s in
    subst (AllByRecursion HasBytes) (sym (values-rootless s ps r refl))
    (lead-HasBytes (dot_first ps) (names_of ps)
    (names_of-HasBytes ps (slice_split-AreBytes s h))))

-- the key of a path has only bytes
pub key-AreBytes : (s : List ℕ) → All IsByte s → AreBytes (key_of (values s))
key-AreBytes s h = key_of-AreBytes (values s) (values-HasBytes s (recursion_from_All IsByte s h))
