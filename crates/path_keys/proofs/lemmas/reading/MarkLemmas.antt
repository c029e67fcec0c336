-- Codes that consist of a 0 and a mark.
use Rattle.std.proofs.Common.{◌≡◌, ◌<◌, ◌≤◌, ℕ, Bool, true, false, List, [], ◌∷◌, ◌++◌, sym, ap}
use Rattle.std.proofs.Common.{ap₂}
use Rattle.std.proofs.Common.{◌∙◌, refl, arith, drop, Some, None, Option, IfSome, option_map}
use Rattle.std.proofs.Common.{get_or, length, length-append, map}
use Rattle.std.proofs.lemmas.Bool.{true≢false}
use Rattle.std.proofs.lemmas.List.{append_cancel_right}
use Rattle.unix_path.specs.Names.{name_of}
use Rattle.unix_path.specs.Parts.{Value, RootDir, CurDir, ParentDir, Normal}
use Rattle.unix_path.specs.Prefixes.{IsPrefixOf}
use Rattle.path_keys.specs.Codes.{code_bytes, IsComponent}
use Rattle.path_keys.specs.Keys.{code, raised}
use Rattle.path_keys.specs.declared.codes.Code.{Code}
use Rattle.path_keys.proofs.lemmas.values.Fitting.{Fits, IsName}
use Rattle.path_keys.proofs.lemmas.values.LoweredLemmas.{is_zero, raised-no_zero}
use Rattle.path_keys.proofs.lemmas.reading.FitLemmas.{component-any, component-fits}
use Rattle.path_keys.proofs.lemmas.reading.FitLemmas.{fits-component}

-- if s has at least two bytes, a 0 and m, then s is a 0, m, and the bytes of s from index 2 on
pub two_first : (s : List ℕ) (m : ℕ) → 2 ≤ length s → get_or s 0 0 ≡ 0 → get_or s 1 0 ≡ m
    → 0 ∷ m ∷ drop 2 s ≡ s
two_first [] m l e f = absurd (omega arith)
two_first (b ∷ []) m l e f = absurd (omega arith)
two_first (b ∷ c ∷ s) m l e f = sym (ap₂ (λ b c. b ∷ c ∷ s) e f)

-- bytes and an end mark are no 0 and a mark other than 0
pub no_mark_last : (xs : List ℕ) (m : ℕ) → 0 < m → xs ++ 0 ∷ [] ≡ 0 ∷ m ∷ [] → ⊥
no_mark_last [] m l e = absurd (cc)
no_mark_last (x ∷ []) m l e = omega (arith, l, (let z : m ≡ 0 = cc in z))
no_mark_last (x ∷ y ∷ []) m l e = absurd (cc)
no_mark_last (x ∷ y ∷ z ∷ xs) m l e = absurd (cc)

-- if `name` is a name, its code doesn't begin with a 0
no_name_zero : (name x y : List ℕ) → IsName name → code (Normal name) ++ x ≡ 0 ∷ y → ⊥
no_name_zero [] x y h e = true≢false h.some
no_name_zero (b ∷ name) x y h e =
    let zero_first : raised b ≡ 0 = cc in
    true≢false (sym (ap is_zero zero_first) ∙ raised-no_zero b h.no_slash.0)

-- if `mark` isn't 3, and is neither 1 nor 2 if `first` is true, bytes that begin with 0 and `mark`
-- don't begin with the code of a component v that `Fits first`
not_marked : (first : Bool) (mark : ℕ) → (mark ≡ 3 → ⊥) → (first ≡ true → mark ≡ 1 → ⊥)
    → (first ≡ true → mark ≡ 2 → ⊥) → (v : Value) (x y : List ℕ) → Fits first v
    → code v ++ x ≡ 0 ∷ mark ∷ y → ⊥
not_marked first mark up root dot RootDir x y h e = root h (let m : mark ≡ 1 = cc in m)
not_marked first mark up root dot CurDir x y h e = dot h (let m : mark ≡ 2 = cc in m)
not_marked first mark up root dot ParentDir x y h e = up (let m : mark ≡ 3 = cc in m)
not_marked first mark up root dot (Normal name) x y h e = no_name_zero name x (mark ∷ y) h e

-- if `mark` isn't 3, and is neither 1 nor 2 if `first` is true, bytes that begin with 0 and `mark`
-- don't begin with the code of a component
pub no_mark : (first : Bool) (mark : ℕ) → (mark ≡ 3 → ⊥) → (first ≡ true → mark ≡ 1 → ⊥)
    → (first ≡ true → mark ≡ 2 → ⊥) → (v : Value) (rest : List ℕ) → IsComponent first v
    → IsPrefixOf (code v) (0 ∷ mark ∷ rest) → ⊥
no_mark first mark up root dot v rest h begins =
    not_marked first mark up root dot v begins.0 rest (component-fits first v h) begins.1

-- if v fits, and its code is a 0 and `mark`, v is a component with this code
pub is_marked : (first : Bool) (mark : ℕ) (v : Value) → Fits first v → code v ≡ 0 ∷ mark ∷ []
    → (w : Value) × IsComponent first w × (code w ≡ code v) × (code w ≡ 0 ∷ mark ∷ [])
is_marked first mark v h e = (v, fits-component first v h, refl, e)

-- if s begins with a 0 and `mark`, and these are the code of v, s begins with the code of v
pub begins_marked : (s : List ℕ) (mark : ℕ) (v : Value) → 2 ≤ length s → get_or s 0 0 ≡ 0
    → get_or s 1 0 ≡ mark → code v ≡ 0 ∷ mark ∷ [] → IsPrefixOf (code v) s
begins_marked s mark v l e f is =
    (drop 2 s, ap (λ c. c ++ drop 2 s) is ∙ two_first s mark l e f)

-- if s begins with a 0, and `result`, if it is a code, is a 0 and the byte after it, s begins with
-- this code
pub marked_in : (first : Bool) (s : List ℕ) (result : Option Code) → 2 ≤ length s
    → get_or s 0 0 ≡ 0
    → IfSome result (λ found. (v : Value) × IsComponent first v × (code v ≡ code_bytes found)
    × (code v ≡ 0 ∷ get_or s 1 0 ∷ []))
    → IfSome result (λ found. (v : Value) × IsComponent first v × (code v ≡ code_bytes found)
    × IsPrefixOf (code v) s)
marked_in first s None l e h = tt
marked_in first s (Some found) l e (v, is_part, code_is, marked) =
    (v, is_part, code_is, begins_marked s (get_or s 1 0) v l e refl marked)

-- if s begins with a 0 and `mark`, and bytes that begin so don't begin with the code of v, s
-- doesn't either
pub not_begun : (s : List ℕ) (mark : ℕ) (v : Value) → 2 ≤ length s → get_or s 0 0 ≡ 0
    → get_or s 1 0 ≡ mark → (IsPrefixOf (code v) (0 ∷ mark ∷ drop 2 s) → ⊥)
    → IsPrefixOf (code v) s → ⊥
not_begun s mark v l e f none begins =
    none (begins.0, begins.1 ∙ sym (two_first s mark l e f))

-- the code of a component has at least two bytes
pub code_two : (first : Bool) (v : Value) (s : List ℕ) → IsComponent first v
    → IsPrefixOf (code v) s → 2 ≤ length s
code_two first v s h begins =
    omega (
      arith,
      two first v (component-fits first v h),
      ap length begins.1,
      length-append (code v) begins.0,
    )
  where
    two : (first : Bool) (v : Value) → Fits first v → 2 ≤ length (code v)
    two first RootDir fit = omega arith
    two first CurDir fit = omega arith
    two first ParentDir fit = omega arith
    two first (Normal []) fit = absurd (true≢false fit.some)
    two first (Normal (b ∷ name)) fit =
        omega (arith, length-append (map raised name) (0 ∷ []))

-- if s doesn't begin with a 0, nor with the code of a name, s begins with no code
pub no_name_code : (first : Bool) (s : List ℕ) → (get_or s 0 0 ≡ 0 → ⊥)
    → ((name : List ℕ) → IsComponent false (Normal name) → IsPrefixOf (code (Normal name)) s → ⊥)
    → (v : Value) → IsComponent first v → IsPrefixOf (code v) s → ⊥
no_name_code first s some none RootDir h begins = some (ap (λ k. get_or k 0 0) (sym begins.1))
no_name_code first s some none CurDir h begins = some (ap (λ k. get_or k 0 0) (sym begins.1))
no_name_code first s some none ParentDir h begins = some (ap (λ k. get_or k 0 0) (sym begins.1))
no_name_code first s some none (Normal name) h begins =
    none name (fits-component false (Normal name) (component-fits first (Normal name) h)) begins

-- if the code of v is a name's bytes and an end mark, v is a component, and s begins with its code,
-- v may be any component whose code s begins with
pub takes_any : (first : Bool) (s name : List ℕ) → (v : Value) × IsComponent false v
    × (code v ≡ name ++ 0 ∷ []) × IsPrefixOf (code v) s
    → (v : Value) × IsComponent first v × (code v ≡ name ++ 0 ∷ []) × IsPrefixOf (code v) s
takes_any first s name (v, h, is, begins) = (v, component-any first v h, is, begins)

-- if the code of v is `bytes` and an end mark, v is the name whose raised bytes these are
pub coded_name : (v : Value) (bytes : List ℕ) → code v ≡ bytes ++ 0 ∷ []
    → Some bytes ≡ option_map (λ name. map raised name) (name_of v)
coded_name RootDir bytes e = absurd (no_mark_last bytes 1 (omega arith) (sym e))
coded_name CurDir bytes e = absurd (no_mark_last bytes 2 (omega arith) (sym e))
coded_name ParentDir bytes e = absurd (no_mark_last bytes 3 (omega arith) (sym e))
coded_name (Normal name) bytes e =
    ap Some (sym (append_cancel_right (map raised name) bytes (0 ∷ []) e))

-- if the code of v is a 0 and a mark other than 0, v is no name
pub marked_no_name : (v : Value) (m : ℕ) → 0 < m → code v ≡ 0 ∷ m ∷ []
    → None ≡ option_map (λ name. map raised name) (name_of v)
marked_no_name RootDir m l e = refl
marked_no_name CurDir m l e = refl
marked_no_name ParentDir m l e = refl
marked_no_name (Normal name) m l e = absurd (no_mark_last (map raised name) m l e)
