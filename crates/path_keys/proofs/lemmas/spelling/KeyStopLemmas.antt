-- Where names begin in the bytes of a key, and where runs of names end.
use Rattle.std.proofs.Common.{◌≡◌, ◌<◌, ◌+◌, ℕ, Bool, true, false, eqb, List, [], ◌∷◌}
use Rattle.std.proofs.Common.{◌++◌, length, map, get_or, refl, sym, ap, ◌∙◌}
use Rattle.std.proofs.Common.{subst, arith, append_assoc, length-append, ◌&&◌, ◌||◌}
use Rattle.std.proofs.lemmas.Bool.{false≢true, true≢false}
use Rattle.std.proofs.lemmas.Bool.Decides.{nat_tests}
use Rattle.unix_path.specs.Parts.{is_slash, Value, RootDir, CurDir, ParentDir, Normal}
use Rattle.unix_path.specs.Prefixes.{IsPrefixOf}
use Rattle.unix_path.specs.CommonDir.{inner_values}
use Rattle.path_keys.proofs.lemmas.spelling.RunTextLemmas.{none_told, HoldsNone}
use Rattle.unix_bytes.proofs.lemmas.lists.ListLemmas.{by_test}
use Rattle.path_keys.specs.Keys.{code, key_of, raised}
use Rattle.path_keys.proofs.lemmas.values.Fitting.{AllFit, IsName}
use Rattle.unix_path.specs.NameRunEnds.{ends_name_run_of, no_name_starts_at, IsNameRunEnd}
use Rattle.path_keys.proofs.lemmas.values.KeyLemmas.{key_of-nil, key_of-cons}
use Rattle.path_keys.proofs.lemmas.values.LoweredLemmas.{raised-no_zero}
use Rattle.unix_path.proofs.lemmas.name_run_ends.NameRunEndLemmas.{ends_name_run-append}

-- if r is empty or begins with a 0, a run of names ends at an end mark before r
mark_stops : (r : List ℕ) → get_or r 0 0 ≡ 0 → ends_name_run_of 0 47 (0 ∷ r) 0 ≡ true
mark_stops [] e = refl
mark_stops (x ∷ r) e =
    ap (λ y. eqb y 0 || (eqb y 47 && (eqb (get_or r 0 0) 0 || (eqb (get_or r 0 0) 47
    && eqb (get_or r 1 0) 0)))) e

-- the key of the name q and vs is the raised bytes of q, an end mark, and the key of vs
named_key : (q : List ℕ) (vs : List Value)
    → key_of (Normal q ∷ vs) ≡ map raised q ++ (0 ∷ key_of vs)
named_key q vs = key_of-cons (Normal q) vs ∙ append_assoc (map raised q) (0 ∷ []) (key_of vs)

-- a run of names ends at some index within s
record NameRunEnds (s : List ℕ) : Type 0 where
  at : ℕ
  in_range : at < length s
  is : ends_name_run_of 0 47 s at ≡ true

-- if the key of vs is empty or begins with a 0, a run of names ends within the key of the name q
-- and vs
stops_here : (q : List ℕ) (vs : List Value) → get_or (key_of vs) 0 0 ≡ 0
    → NameRunEnds (key_of (Normal q ∷ vs))
stops_here q vs e = subst NameRunEnds (sym (named_key q vs)) (record {
  at = length (map raised q) + 0;
  in_range = omega (arith, length-append (map raised q) (0 ∷ key_of vs));
  is = ends_name_run-append 0 47 (map raised q) (0 ∷ key_of vs) 0 ∙ mark_stops (key_of vs) e;
})

-- if vs may follow other components, a run of names ends within the key of the name q and vs
key_stops : (q : List ℕ) (vs : List Value) → AllFit false vs → NameRunEnds (key_of (Normal q ∷ vs))
key_stops q [] h = stops_here q [] (ap (λ k. get_or k 0 0) key_of-nil)
key_stops q (RootDir ∷ vs) h = absurd (let d = h.0 in cc)
key_stops q (CurDir ∷ vs) h = absurd (let d = h.0 in cc)
key_stops q (ParentDir ∷ vs) h =
    stops_here q (ParentDir ∷ vs) (ap (λ k. get_or k 0 0) (key_of-cons ParentDir vs))
key_stops q (Normal r ∷ vs) h =
    let more = key_stops r vs h.1 in
    let front = map raised q ++ 0 ∷ [] in
    let rest = key_of (Normal r ∷ vs) in
    subst NameRunEnds (sym (key_of-cons (Normal q) (Normal r ∷ vs))) (record {
      at = length front + more.at;
      in_range = omega (arith, length-append front rest, more.in_range);
      is = ends_name_run-append 0 47 front rest more.at ∙ more.is;
    })

-- if b is no slash, the byte in a key for b is 47 if and only if b is a dot
raised-dot : (b : ℕ) → is_slash b ≡ false → eqb (raised b) 47 ≡ eqb b 46
raised-dot b h = grind (arith, nat_tests)

-- if q is a name, a name begins at index 0 of the raised bytes of q, followed by an end mark and r
name_begins : (q r : List ℕ) → IsName q → no_name_starts_at 0 47 (map raised q ++ (0 ∷ r)) 0 ≡ false
name_begins [] r h = absurd (let e = h.some in let k : true ≡ false = e in cc)
name_begins (x ∷ []) r h =
    let s = h.no_slash.0 in
    by_test (eqb x 46)
    (λ d. absurd (let k : true ≡ false = rw d at h.no_dot in cc))
    (λ d. rw (raised-no_zero x s, raised-dot x s ∙ d) refl)
name_begins (x ∷ y ∷ []) r h =
    let s = h.no_slash.0 in
    let t = h.no_slash.1.0 in
    by_test (eqb x 46)
    (λ d. by_test (eqb y 46)
    (λ f. absurd (let k : true ≡ false = rw (d, f) at h.no_up in cc))
    (λ f. rw (raised-no_zero x s, raised-dot x s ∙ d, raised-no_zero y t, raised-dot y t ∙ f)
    refl))
    (λ d. rw (raised-no_zero x s, raised-dot x s ∙ d) refl)
name_begins (x ∷ y ∷ z ∷ q) r h =
    let s = h.no_slash.0 in
    let t = h.no_slash.1.0 in
    let u = h.no_slash.1.1.0 in
    by (eqb (raised x) 0) (eqb (raised x) 47) (eqb (raised y) 0) (eqb (raised y) 47)
    (eqb (raised z) 0) (raised-no_zero x s) (raised-no_zero y t) (raised-no_zero z u)
  where
    by : (a b c d e : Bool) → a ≡ false → c ≡ false → e ≡ false
        → (a || (b && (c || (d && e)))) ≡ false
    by a b c d e f g h = rw (f, g, h) (by_test b (λ i. rw i (by_test d (λ j. rw j refl)
        (λ j. rw j refl))) (λ i. rw i refl))

-- if a name begins at index 0 of s, but no run of names ends within s, then s is not the key of one
-- or more components that may follow others
stops_none : (s : List ℕ) → no_name_starts_at 0 47 s 0 ≡ false
    → IsNameRunEnd 0 47 s (length s)
    → HoldsNone s
stops_none s e h RootDir vs fit is = true≢false (sym fit.0)
stops_none s e h CurDir vs fit is = true≢false (sym fit.0)
stops_none s e h ParentDir vs fit is =
    true≢false (ap (λ k. no_name_starts_at 0 47 k 0) (sym (key_of-cons ParentDir vs) ∙ is) ∙ e)
stops_none s e h (Normal q) vs fit is =
    let name_run_ends = subst NameRunEnds is (key_stops q vs fit.1) in
    false≢true (sym (h.none_before name_run_ends.at name_run_ends.in_range) ∙ name_run_ends.is)

-- if a name begins at index 0 of s, but no run of names ends within s, and s is the key of inner
-- components, it is empty
pub no_stop_none : (s : List ℕ) → no_name_starts_at 0 47 s 0 ≡ false
    → IsNameRunEnd 0 47 s (length s) → (t : List ℕ) → key_of (inner_values t) ≡ s → s ≡ []
no_stop_none s e h = none_told (stops_none s e h)

-- if s begins neither with a name nor with the code of `..`, then s is not the key of one or more
-- components that may follow others
names_none : (s : List ℕ) → no_name_starts_at 0 47 s 0 ≡ true
    → (IsPrefixOf (code ParentDir) s → ⊥) → HoldsNone s
names_none s e up RootDir vs fit is = true≢false (sym fit.0)
names_none s e up CurDir vs fit is = true≢false (sym fit.0)
names_none s e up ParentDir vs fit is =
    up (key_of vs, sym (key_of-cons ParentDir vs) ∙ is)
names_none s e up (Normal q) vs fit is =
    true≢false (sym e ∙ ap (λ k. no_name_starts_at 0 47 k 0) (sym is ∙ named_key q vs)
    ∙ name_begins q (key_of vs) fit.0)

-- if s begins neither with a name nor with the code of `..`, and is the key of inner components, it
-- is empty
pub no_name_none : (s : List ℕ) → no_name_starts_at 0 47 s 0 ≡ true
    → (IsPrefixOf (code ParentDir) s → ⊥) → (t : List ℕ) → key_of (inner_values t) ≡ s → s ≡ []
no_name_none s e up = none_told (names_none s e up)
