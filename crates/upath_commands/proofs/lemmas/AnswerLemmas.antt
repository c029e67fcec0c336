-- Tests in answers, and what they decide.
use Rattle.std.proofs.Common.{◌≡◌, ℕ, ◌+◌, ◌<◌, ◌≤◌, Bool, true, false, ◌||◌, nat_lt, List, length}
use Rattle.std.proofs.Common.{take, drop, Decides, refl, sym, ap, arith}
use Rattle.std.proofs.Common.{rules, inl, inr, ⊎_elim, count_by, ◌⊎◌, true≢false, zero-add}
use Rattle.std.proofs.Common.{Result, Ok, Err, ◌↔◌}
use Rattle.std.specs.Result.{is_err, IsErrOf}
use Rattle.std.specs.List.{range_with_len, starts_with}
use Rattle.std.proofs.lemmas.List.{take_all}
use Rattle.std.proofs.lemmas.List.Folds.{Any-from_list_any, list_any_at}
use Rattle.std.proofs.lemmas.List.FromFn.{length-range_with_len, get_or-range_with_len}
use Rattle.std.proofs.lemmas.Slice.Eq.{starts_is}
use Rattle.unix_path.specs.Order.{same_value}
use Rattle.unix_path.specs.Parts.{Value, is_rooted, values}
use Rattle.unix_path.specs.Prefixes.{IsPrefixOf}
use Rattle.unix_path.proofs.lemmas.callers.CallerLemmas.{same_value-Decides}
use Rattle.unix_path.proofs.lemmas.rests.RootLemmas.{rooted-IsPrefixOf}
use Rattle.path_within.specs.Below.{has_nul}
use Rattle.path_within.specs.Escapes.{Escapes, GoesAbove, is_name, is_parent_dir}
use Rattle.path_within.specs.declared.request.RequestError.{RequestError}
use Rattle.path_within.specs.declared.request.RequestError.TheVariants as error
use Rattle.upath_commands.specs.Escaping.{escapes, goes_above}
use Rattle.upath_commands.proofs.lemmas.RecordLemmas.{by_test}

-- the prefix of n components has more `..` than names
abbrev above_at : List Value → ℕ → Bool
above_at vs n = nat_lt (count_by is_name (take n vs)) (count_by is_parent_dir (take n vs))

less_than : (a b : ℕ) → nat_lt a b ≡ true → a < b
less_than a b e = search rules

is_less : (a b : ℕ) → a < b → nat_lt a b ≡ true
is_less a b l = search rules

goes_above-to : (vs : List Value) → goes_above vs ≡ true → GoesAbove vs
unfolding goes_above
goes_above-to vs e =
    let (k, n, l, i, t) = Any-from_list_any (above_at vs) (range_with_len 0 (length vs + 1)) e in
    (n, less_than (count_by is_name (take n vs)) (count_by is_parent_dir (take n vs)) t)

goes_above-at : (vs : List Value) (n : ℕ) → n ≤ length vs → above_at vs n ≡ true
    → goes_above vs ≡ true
unfolding goes_above
goes_above-at vs n l t =
    list_any_at (above_at vs) (range_with_len 0 (length vs + 1)) n 0
    (omega (arith, length-range_with_len 0 (length vs + 1)))
    (rw (get_or-range_with_len 0 (length vs + 1) n 0 (omega arith)) (rw (zero-add n) t))

goes_above-from : (vs : List Value) → GoesAbove vs → goes_above vs ≡ true
goes_above-from vs (n, h) =
    by_test (nat_lt (length vs) n)
    (λ e. goes_above-at vs (length vs) (omega arith)
    (rw (take_all (length vs) vs (omega arith)) (rw (take_all n vs (past e)) at is)))
    (λ e. goes_above-at vs n (short e) is)
  where
    is : above_at vs n ≡ true
    is = is_less (count_by is_name (take n vs)) (count_by is_parent_dir (take n vs)) h

    past : nat_lt (length vs) n ≡ true → length vs ≤ n
    past e = let l : length vs < n = less_than (length vs) n e in omega arith

    short : nat_lt (length vs) n ≡ false → n ≤ length vs
    short e = search rules

pub or_left : (a b : Bool) → a ≡ true → (a || b) ≡ true
or_left true b e = refl
or_left false b e = absurd (true≢false (sym e))

pub or_right : (a b : Bool) → b ≡ true → (a || b) ≡ true
or_right true b e = refl
or_right false b e = e

pub or_cases : (a b : Bool) → (a || b) ≡ true → (a ≡ true) ⊎ (b ≡ true)
or_cases true b e = inl refl
or_cases false b e = inr e

-- the test decides whether a path escapes
pub escapes-Decides : (p : List ℕ) → Decides (escapes p) (Escapes (values p))
unfolding escapes
escapes-Decides p =
    let root = rooted-IsPrefixOf p (is_rooted p) refl in (
      λ e. ⊎_elim (λ r. inl (root.0 r)) (λ a. inr (goes_above-to (values p) a))
          (or_cases (is_rooted p) (goes_above (values p)) e),
      λ h. ⊎_elim (λ r. or_left (is_rooted p) (goes_above (values p)) (root.1 r))
          (λ a. or_right (is_rooted p) (goes_above (values p)) (goes_above-from (values p) a)) h,
    )

-- a check of a path that has to stay beneath its root fails if the path escapes or has a NUL
pub beneath-is_err : {T : Type 0} (r : Result T RequestError) (p : List ℕ)
    → (IsErrOf r error.Rooted ↔ (is_rooted p ≡ true))
    → (IsErrOf r error.Escapes ↔ ((is_rooted p ≡ false) × Escapes (values p)))
    → (IsErrOf r error.Nul ↔ ((Escapes (values p) → ⊥) × (has_nul p ≡ true)))
    → is_err r ≡ (escapes p || has_nul p)
unfolding escapes
beneath-is_err (Err error.Rooted) p root above nul =
    sym (or_left (escapes p) (has_nul p)
    (or_left (is_rooted p) (goes_above (values p)) (root.0 refl)))
beneath-is_err (Err error.Escapes) p root above nul =
    sym (or_left (escapes p) (has_nul p) ((escapes-Decides p).1 (above.0 refl).1))
beneath-is_err (Err error.Nul) p root above nul =
    sym (or_right (escapes p) (has_nul p) (nul.0 refl).1)
beneath-is_err (Ok x) p root above nul =
    by_test (escapes p || has_nul p) (λ e. absurd (refused e)) sym
  where
    escaping : Escapes (values p) → ⊥
    escaping h =
        by_test (is_rooted p)
        (λ e. true≢false (sym (ap is_err (root.1 e))))
        (λ e. true≢false (sym (ap is_err (above.1 (e, h)))))

    refused : (escapes p || has_nul p) ≡ true → ⊥
    refused e =
        ⊎_elim (λ is. escaping ((escapes-Decides p).0 is))
        (λ has. true≢false (sym (ap is_err (nul.1 (escaping, has)))))
        (or_cases (escapes p) (has_nul p) e)

-- the test of two lists of components decides whether the first starts with the second
pub starts_with-Decides : (w v : List Value) → Decides (starts_with same_value w v) (IsPrefixOf v w)
starts_with-Decides w v = let (to, from) = starts_is same_value-Decides w v _ refl in (
  λ e. (drop (length v) w, sym (to e)),
  λ (more, e). from more (sym e),
)
