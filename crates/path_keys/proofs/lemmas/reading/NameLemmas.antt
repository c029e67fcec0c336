-- The name with which a key's bytes begin.
use Rattle.std.proofs.lemmas.Grind.{common_steps}
use Rattle.std.proofs.Common.{◌≡◌, ◌<◌, ℕ, ◌+◌, true, false, eqb, List, [], ◌∷◌, ◌++◌}
use Rattle.std.proofs.Common.{length, map, take, drop, get_or, refl, sym, ap, ◌∙◌, arith}
use Rattle.std.proofs.Common.{subst}
use Rattle.std.proofs.Common.{append_assoc, length-append, eqb-true}
use Rattle.std.proofs.lemmas.Bool.{false≢true}
use Rattle.std.proofs.lemmas.List.{length-take-le, take_at, length-map}
use Rattle.std.proofs.lemmas.List.Sums.{split_at_first, passes_at_first}
use Rattle.std.proofs.lemmas.Slice.Eq.{bytes_eq-Decides}
use Rattle.std.specs.List.{AllByRecursion, position_or_len}
use Rattle.std.specs.Str.{bytes_eq}
use Rattle.unix_path.specs.Parts.{slash, cur_dir, parent_dir, Normal, Value}
use Rattle.unix_path.specs.Prefixes.{IsPrefixOf}
use Rattle.path_keys.specs.Keys.{code, raised}
use Rattle.path_keys.specs.Codes.{lowered, IsComponent}
use Rattle.path_keys.proofs.lemmas.reading.FitLemmas.{component-fits, fits-component}
use Rattle.path_keys.proofs.lemmas.values.Fitting.{IsName}
use Rattle.path_keys.proofs.lemmas.values.LoweredLemmas.{NoZero, is_zero, map-raised-lowered}
use Rattle.path_keys.proofs.lemmas.values.LoweredLemmas.{map-lowered-raised}
use Rattle.path_keys.proofs.lemmas.values.LoweredLemmas.{lowered-NoSlash, raised-NoZero}
use Rattle.path_keys.proofs.lemmas.values.LoweredLemmas.{NoZero-before}
use Rattle.path_keys.proofs.lemmas.values.LoweredLemmas.{first_zero}

-- if p has at least one byte, comparing it with the empty byte string finds a difference
not_empty : (p : List ℕ) → 0 < length p → bytes_eq p [] ≡ false
not_empty [] l = absurd (omega arith)
not_empty (b ∷ p) l = refl

-- if comparing p with the empty byte string finds a difference, p has at least one byte
pub some_bytes : (p : List ℕ) → bytes_eq p [] ≡ false → 0 < length p
some_bytes [] e = absurd (let d = e in cc)
some_bytes (b ∷ p) e = omega arith

-- if no byte of `bytes` is 0, and they aren't the raised bytes of p, then lowering them doesn't
-- lead to p
not_read : (bytes p : List ℕ) → NoZero bytes → bytes_eq bytes (map raised p) ≡ false
    → bytes_eq (map lowered bytes) p ≡ false
not_read bytes p h other_bytes = grind (arith, map-raised-lowered, bytes_eq-Decides, false≢true)

-- if the first 0 of s is at index n, and the bytes before it are neither empty nor the raised bytes
-- of `.` or `..`, s begins with the code of the name that these bytes represent
pub takes_name : (s : List ℕ) (n : ℕ) → n ≡ position_or_len is_zero s → 0 < n → n < length s
    → bytes_eq (take n s) (slash ∷ []) ≡ false → bytes_eq (take n s) (slash ∷ slash ∷ []) ≡ false
    → (v : Value) × IsComponent false v × (code v ≡ take n s ++ 0 ∷ []) × IsPrefixOf (code v) s
takes_name s n e some l no_dot no_up =
    let name = take n s in
    let clean = NoZero-before s n e l in
    let long : length name ≡ n = length-take-le n s (omega arith) in
    let spelled = map-raised-lowered name clean in
    let coded : code (Normal (map lowered name)) ≡ name ++ 0 ∷ [] = ap (λ p. p ++ 0 ∷ []) spelled in
    let zero_there : get_or s n 0 ≡ 0 = eqb-true _ 0
    (ap (λ k. is_zero (get_or s k 0)) e ∙ passes_at_first is_zero s 0 (omega (arith, e))) in
    let split : s ≡ take n s ++ get_or s n 0 ∷ drop (n + 1) s =
    subst (λ k. s ≡ take k s ++ get_or s k 0 ∷ drop (k + 1) s) (sym e)
    (split_at_first is_zero s 0 (omega (arith, e))) in
    let fit : IsName (map lowered name) = record {
      some = not_read name [] clean (not_empty name (omega arith));
      no_slash = lowered-NoSlash name clean;
      no_dot = not_read name cur_dir clean no_dot;
      no_up = not_read name parent_dir clean no_up;
    } in (
      Normal (map lowered name),
      fits-component false (Normal (map lowered name)) fit,
      coded,
      (
        drop (n + 1) s,
        ap (λ c. c ++ drop (n + 1) s) coded ∙ append_assoc name (0 ∷ []) (drop (n + 1) s)
            ∙ sym (split ∙ ap (λ b. name ++ b ∷ drop (n + 1) s) zero_there),
      ),
    )

-- the first n bytes of s, at least one, are the raised bytes of the name, and at least one byte
-- follows
record FindsName (s name : List ℕ) (n : ℕ) : Type 0 where
  some : 0 < n
  in_range : n < length s
  is : take n s ≡ map raised name

-- if s begins with the code of a name, and its first 0 is at index n, the bytes before index n are
-- the raised bytes of the name
finds_name : (s name x : List ℕ) (n : ℕ) → n ≡ position_or_len is_zero s → IsName name
    → code (Normal name) ++ x ≡ s → FindsName s name n
finds_name s name x n e h begins =
    let whole : map raised name ++ 0 ∷ x ≡ s =
    sym (append_assoc (map raised name) (0 ∷ []) x) ∙ begins in
    let at : n ≡ length (map raised name) =
    e ∙ ap (position_or_len is_zero) (sym whole)
    ∙ first_zero (map raised name) x (raised-NoZero name h.no_slash) in
    record {
      some = omega (arith, at, length-map name raised, some_bytes name h.some);
      in_range = omega (arith, at, ap length whole, length-append (map raised name) (0 ∷ x));
      is = ap (take n) (sym whole) ∙ take_at (map raised name) (0 ∷ x) n (sym at);
    }

-- if s begins with a 0 or has none, s doesn't begin with the code of a name
pub no_name_first : (s : List ℕ) (n : ℕ) → n ≡ position_or_len is_zero s
    → (0 < n → n < length s → ⊥)
    → (name : List ℕ) → IsComponent false (Normal name) → IsPrefixOf (code (Normal name)) s → ⊥
no_name_first s n e none name h begins =
    let found = finds_name s name begins.0 n e (component-fits false (Normal name) h) begins.1 in
    none found.some found.in_range

-- if the bytes of s before its first 0 are the raised bytes of p, which is no name, then s doesn't
-- begin with the code of a name
pub no_name_read : (s p : List ℕ) (n : ℕ) → n ≡ position_or_len is_zero s
    → bytes_eq (take n s) (map raised p) ≡ true → (IsName p → ⊥)
    → AllByRecursion (λ b. eqb b 47 ≡ false) p
    → (name : List ℕ) → IsComponent false (Normal name) → IsPrefixOf (code (Normal name)) s → ⊥
no_name_read s p n e same none clean name h begins =
    by begins.0 (component-fits false (Normal name) h) begins.1
  where
    by : (x : List ℕ) → IsName name → code (Normal name) ++ x ≡ s → ⊥
    by x h begins = grind (arith, common_steps, finds_name, bytes_eq-Decides, map-lowered-raised)
