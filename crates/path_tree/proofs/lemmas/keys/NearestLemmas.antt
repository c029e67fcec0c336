-- The entry nearest to a path is found by looking up the path, and then its ancestors. The keys of
-- the ancestors are prefixes of the path's key.
use Rattle.std.proofs.Common.{◌≡◌, ◌≤◌, ℕ, ◌+◌, ◌-◌, List, [], ◌∷◌, ◌++◌, length, take}
use Rattle.std.proofs.Common.{Option, Some, None, IsSome, refl, sym, ap, ◌∙◌, subst, arith}
use Rattle.std.proofs.Common.{append_assoc, append-nil, length-append, length-take-le}
use Rattle.std.proofs.Common.{take_all, take_at, take-take, true≢false}
use Rattle.std.proofs.lemmas.List.{nil_from_length}
use Rattle.unix_path.specs.Parts.{Value, values}
use Rattle.unix_path.specs.Prefixes.{IsPrefixOf, stripped_of}
use Rattle.unix_path.specs.Rest.{rest}
use Rattle.unix_path.proofs.lemmas.rests.RestLemmas.{rest-rest}
use Rattle.path_keys.specs.Keys.{code, key_of}
use Rattle.path_keys.proofs.lemmas.values.KeyLemmas.{key_of-append, key_of-one}
use Rattle.path_tree.specs.Entries.{entry_at}
use Rattle.path_tree.specs.Nearest.{IsNearest}

-- if u and v are prefixes of the list w and have the same length, they are the same
same_prefix : {A : Type 0} (u v w : List A) → IsPrefixOf u w → IsPrefixOf v w → length u ≡ length v
    → u ≡ v
same_prefix u v w begins other long =
    sym (take_at u begins.0 (length u) refl)
    ∙ ap (take (length u)) (begins.1 ∙ sym other.1)
    ∙ take_at v other.0 (length u) (sym long)

-- if x is None, it is not `Some`
none_some : {A : Type 0} (x : Option A) → x ≡ None → IsSome x → ⊥
none_some x none some = true≢false (sym (subst IsSome none some))

-- if x is not `Some`, it is None
is_none : {A : Type 0} (x : Option A) → (IsSome x → ⊥) → x ≡ None
is_none None h = refl
is_none (Some a) h = absurd (h refl)

module _ {V : Type 0} (s key : List ℕ) (entries : List (List ℕ × V)) where
  -- `prefix` is the path s without some of its last components, the first `end` bytes of `key` are
  -- the key of `prefix`, and no prefix of the components of s that is longer than the components of
  -- `prefix` has an entry
  pub record GoesUp (end : ℕ) (prefix : List ℕ) : Type 0 where
    pub prefix_is : (m : ℕ) × (prefix ≡ rest s 0 m)
    pub begins : IsPrefixOf (values prefix) (values s)
    pub in_range : end ≤ length key
    pub key_is : take end key ≡ key_of (values prefix)
    pub longest : (v : List Value) → IsSome (entry_at (key_of v) entries) → IsPrefixOf v (values s)
        → length v ≤ length (values prefix)

  -- if `key` is the key of s, `GoesUp` holds for s without its trailing filler and the whole key
  pub goes_up : (end : ℕ) (prefix : List ℕ) → key ≡ key_of (values s) → end ≡ length key
      → prefix ≡ rest s 0 0 → values prefix ≡ values s → GoesUp end prefix
  goes_up end prefix is all whole same = record {
    prefix_is = (0, whole);
    begins = ([], append-nil (values prefix) ∙ same);
    in_range = omega (arith, all);
    key_is = ap (λ n. take n key) all ∙ take_all (length key) key (omega arith)
        ∙ is ∙ ap key_of (sym same);
    longest = λ v some begins. omega (
      arith,
      ap length same,
      ap length begins.1,
      length-append v begins.0,
    );
  }

  -- if v is the last component of `prefix`, and `new` has the components before v, the first `end`
  -- bytes of `key` are the key of `new` and then the code of v
  key_cut : (end : ℕ) (prefix new : List ℕ) (v : Value) → GoesUp end prefix
      → values prefix ≡ values new ++ v ∷ [] → take end key ≡ key_of (values new) ++ code v
  key_cut end prefix new v h is = grind (arith, key_of-append, key_of-one)

  -- if v is the last component of `prefix`, and `new` has the components before v, `end` is the
  -- length of the key of `new` plus the length of the code of v
  key_long : (end : ℕ) (prefix new : List ℕ) (v : Value) → GoesUp end prefix
      → values prefix ≡ values new ++ v ∷ [] → end ≡ length (key_of (values new)) + length (code v)
  key_long end prefix new v h is =
      sym (length-take-le end key h.in_range) ∙ ap length (key_cut end prefix new v h is)
      ∙ length-append (key_of (values new)) (code v)

  -- if v is the last component of `prefix`, the code of v has at most `end` bytes
  pub code_fits : (end : ℕ) (prefix new : List ℕ) (v : Value) → GoesUp end prefix
      → values prefix ≡ values new ++ v ∷ [] → length (code v) ≤ end
  code_fits end prefix new v h is = omega (arith, key_long end prefix new v h is)

  -- if `prefix` has no entry, and `new` is `prefix` without its last component v, `GoesUp` holds
  -- for `new` and for `end` less the length of the code of v
  pub goes_on : (end : ℕ) (prefix new : List ℕ) (v : Value) → GoesUp end prefix
      → entry_at (key_of (values prefix)) entries ≡ None → values prefix ≡ values new ++ v ∷ []
      → new ≡ rest prefix 0 1 → GoesUp (end - length (code v)) new
  goes_on end prefix new v h none is new_is =
      let cut = key_cut end prefix new v h is in
      let long : end - length (code v) ≡ length (key_of (values new)) =
      omega (arith, key_long end prefix new v h is) in
      let shorter : length (values prefix) ≡ length (values new) + 1 =
      ap length is ∙ length-append (values new) (v ∷ []) in
      record {
        prefix_is = (
          h.prefix_is.0 + 1,
          new_is ∙ ap (λ w. rest w 0 1) h.prefix_is.1 ∙ rest-rest s 0 h.prefix_is.0 0 1,
        );
        begins = (
          v ∷ h.begins.0,
          sym (append_assoc (values new) (v ∷ []) h.begins.0)
              ∙ ap (λ u. u ++ h.begins.0) (sym is) ∙ h.begins.1,
        );
        in_range = omega (arith, h.in_range);
        key_is = sym (take-take (end - length (code v)) end key (omega arith))
            ∙ ap (take (end - length (code v))) cut
            ∙ take_at (key_of (values new)) (code v) (end - length (code v)) (sym long);
        longest = λ u some begins. omega (
          arith,
          shorter,
          h.longest u some begins,
          λ (same : length u ≡ length (values prefix)).
              none_some (entry_at (key_of u) entries)
              (ap (λ w. entry_at (key_of w) entries)
              (same_prefix u (values prefix) (values s) begins h.begins same) ∙ none)
              some,
        );
      }

  -- if `prefix` has an entry with the value x, and `rest` is the rest of s after `prefix`, this
  -- entry is the nearest to s
  pub is_nearest : (end : ℕ) (prefix rest : List ℕ) (x : V) → GoesUp end prefix
      → Some x ≡ entry_at (key_of (values prefix)) entries → rest ≡ stripped_of s prefix
      → IsNearest s entries rest x
  is_nearest end prefix rest x h found is = record {
    base = values prefix;
    value_is = sym found;
    longest = (h.begins, h.longest);
    rest_is = is;
  }

  -- if `prefix` has no components and no entry, no prefix of the components of s has an entry
  pub none_nearer : (end : ℕ) (prefix : List ℕ) → GoesUp end prefix
      → entry_at (key_of (values prefix)) entries ≡ None → values prefix ≡ []
      → (v : List Value) → IsPrefixOf v (values s) → entry_at (key_of v) entries ≡ None
  none_nearer end prefix h none empty v begins = grind (arith, is_none, none_some, nil_from_length)
