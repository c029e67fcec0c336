-- Steps over the last component if it is a name, where neither the last byte nor the byte before
-- the last slash is a slash or a dot.
use Rattle.std.proofs.Common.{[], ◌∷◌, ◌++◌, drop}
use Rattle.std.proofs.Common.{◌≡◌, ℕ, ◌-◌, ◌≤◌, ◌<◌, true, false, ltb, eqb, List, length, get_or}
use Rattle.std.proofs.Common.{take, refl, sym, ap, ◌∙◌, arith, lt-ltb, ltb-true, ltb-false}
use Rattle.std.specs.Str.{bytes_eq}
use Rattle.std.proofs.lemmas.Bool.{both_ways}
use Rattle.std.proofs.lemmas.Slice.Eq.{bytes_eq-Decides}
use Rattle.unix_path.specs.Parts.{cur_dir, parts}
use Rattle.unix_path.specs.Scan.{ends_with_parent_dir, is_trailing, EndsInPart}
use Rattle.unix_bytes.proofs.lemmas.lists.ListLemmas.{by_test}
use Rattle.unix_path.proofs.lemmas.filler.TrimLemmas.{parts_shorter}
use Rattle.unix_path.proofs.lemmas.steps.LastPieceLemmas.{takes_last_name, IsLastStart}
use Rattle.unix_path.specs.Parts.{values, Normal}
use Rattle.unix_path.specs.Rest.{rest}

-- s ends where its last component ends, which is the name from index `start` to the end of s; the
-- rest of s before this name is its first `before` bytes
pub record EndsInName (s : List ℕ) (before start : ℕ) : Type 0 where
  pub ends : EndsInPart s
  pub in_range : start ≤ length s
  pub in_order : before ≤ start
  pub values_are : values s ≡ values (take before s) ++ Normal (drop start s) ∷ []
  pub rest_is : rest s 0 1 ≡ take before s

-- the byte at i is ordinary: neither a slash nor a dot
pub record IsOrdinary (s : List ℕ) (i : ℕ) : Type 0 where
  pub no_slash : eqb (get_or s i 0) 47 ≡ false
  pub no_dot : eqb (get_or s i 0) 46 ≡ false

-- an ordinary byte is not trailing filler
pub is_trailing-ordinary : (s : List ℕ) (i : ℕ) → IsOrdinary s i → is_trailing s i ≡ false
is_trailing-ordinary s i h = by_test (ltb 0 i)
    (λ e. rw (e, h.no_slash, h.no_dot) refl)
    (λ e. rw e refl)

-- a string whose last byte is neither a slash nor a dot ends in a component
pub ends_ordinary : (s : List ℕ) → IsOrdinary s (length s - 1) → EndsInPart s
ends_ordinary s h = λ _. is_trailing-ordinary s (length s - 1) h

module _ (s : List ℕ) (start : ℕ) (some : 0 < length s) (last : IsOrdinary s (length s - 1))
    (is : IsLastStart s start) where
  -- the last piece isn't empty
  begins_in : start < length s
  begins_in = by_test (ltb start (length s)) (λ e. ltb-true _ _ e) (λ e.
      let all : start ≡ length s = omega (arith, ltb-false _ _ e, is.in_range) in
      let slash : get_or s (length s - 1) 0 ≡ 47 =
      ap (λ k. get_or s (k - 1) 0) (sym all) ∙ is.after_slash (omega (arith, all)) in
      absurd (both_ways _ (ap (λ b. eqb b 47) (sym slash) ∙ last.no_slash) refl))

  -- the string is not a single `.`
  no_cur_dir : bytes_eq s cur_dir ≡ false
  no_cur_dir = by_test (bytes_eq s cur_dir)
      (λ e.
      let one = (bytes_eq-Decides s cur_dir).0 e in
      let dot : eqb (get_or s (length s - 1) 0) 46 ≡ true =
      ap (λ s. eqb (get_or s (length s - 1) 0) 46) one in
      absurd (both_ways _ last.no_dot dot))
      (λ e. e)

  -- the string does not end with `..`
  no_parent_dir : ends_with_parent_dir s ≡ false
  no_parent_dir = rw last.no_dot refl

  -- if the first `before` bytes of s have the components of the bytes before index `start`, and do
  -- not end in filler, then the last component of s is the name at `start`, and these bytes are the
  -- rest before it
  pub name_last : (before : ℕ) → before ≤ start → parts (take before s) ≡ parts (take start s)
      → (0 < before → is_trailing s (before - 1) ≡ false) → EndsInName s before start
  name_last before l same trimmed =
      let ends = ends_ordinary s last in
      let taken = takes_last_name s start before is begins_in ends no_cur_dir no_parent_dir l same
      trimmed in
      record {
        ends = ends;
        in_range = is.in_range;
        in_order = l;
        values_are = taken.value;
        rest_is = taken.rest;
      }

  -- if the last name starts at index 0, or at index 1 after the root, the rest before it consists
  -- of all bytes before it
  pub name_first : start < 2 → EndsInName s start start
  name_first few = name_last start (omega arith) refl
      (λ l. ap (is_trailing s) {x = start - 1} {y = 0} (omega arith))

  -- if the byte before the last slash is ordinary, the rest before the last name consists of the
  -- bytes before this slash
  pub name_after : 2 ≤ start → IsOrdinary s (start - 2) → EndsInName s (start - 1) start
  name_after enough ordinary =
      let slash : eqb (get_or s (start - 1) 0) 47 ≡ true =
      ap (λ b. eqb b 47) (is.after_slash (omega arith)) in
      let some = lt-ltb 0 (start - 1) (omega arith) in
      name_last (start - 1) (omega arith)
      (parts_shorter s start (omega arith) is.in_range (rw (some, slash) refl))
      (λ _. ap (is_trailing s) {x = start - 1 - 1} {y = start - 2} (omega arith)
      ∙ is_trailing-ordinary s (start - 2) ordinary)
