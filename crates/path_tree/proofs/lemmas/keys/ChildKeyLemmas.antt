-- A key that is longer than a base that it starts with: its prefix with one code more than the base
-- is a key too.
use Rattle.std.proofs.Common.{◌==◌, if◌then◌else◌, ◌&&◌, ne_eqb}
use Rattle.std.proofs.Common.{◌≡◌, ◌∙◌, ◌≤◌, ◌<◌, ◌+◌, ℕ, Bool, true, false, List, [], ◌∷◌}
use Rattle.std.proofs.Common.{◌++◌, ap, ap₂, arith, append_assoc, append-nil, drop}
use Rattle.std.proofs.Common.{length}
use Rattle.std.proofs.Common.{length-append, length-drop, map, refl, subst, sym, take, take_at}
use Rattle.std.proofs.Math.Seq.{take-add}
use Rattle.std.proofs.lemmas.Bool.{cond-false}
use Rattle.std.proofs.lemmas.List.{drop_at}
use Rattle.std.specs.List.{position_or_len}
use Rattle.unix_path.specs.Parts.{Value, RootDir, CurDir, ParentDir, Normal, values}
use Rattle.unix_path.specs.Prefixes.{IsPrefixOf}
use Rattle.path_runs.specs.Spelling.{spelling_of}
use Rattle.path_keys.proofs.lemmas.values.Fitting.{AllFit, Fits}
use Rattle.path_keys.specs.Keys.{code, key_of, raised, IsKey}
use Rattle.path_keys.proofs.lemmas.values.CodeLemmas.{code-length}
use Rattle.path_keys.proofs.lemmas.reading.FitLemmas.{AllFit-after, starts, values-fit}
use Rattle.path_keys.proofs.lemmas.reading.FitLemmas.{values-spelled}
use Rattle.path_keys.proofs.lemmas.values.KeyLemmas.{key_of-append, key_of-one}
use Rattle.path_keys.proofs.lemmas.values.LoweredLemmas.{first_zero, is_zero, raised-NoZero}
use Rattle.path_tree.specs.Children.{child_of, first_code_len}
use Rattle.path_keys.specs.KeyValues.{is_own, key_values}
use Rattle.path_keys.proofs.lemmas.reading.KeyValueLemmas.{key_values-values, own-is, own-key_of}
use Rattle.path_keys.proofs.lemmas.reading.KeyValueLemmas.{own-values}
use Rattle.path_tree.proofs.lemmas.keys.UnderLemmas.{values_begin}
use Rattle.path_keys.proofs.lemmas.values.OrderLemmas.{begins-key_of}

-- if `key` is the key of a path, it is the key of the components that it represents
pub key_of-own : (key : List ℕ) → is_own key ≡ true → key ≡ key_of (key_values key)
key_of-own key own = sym (own-is key own) ∙ ap key_of (own-values key own)

-- if the bytes `key` pass the test `is_own`, they are the key of a path
pub IsKey-own : (key : List ℕ) → is_own key ≡ true → ∥ IsKey key ∥₁
IsKey-own key own = ∣ (spelling_of (key_values key), own-is key own) ∣₁

-- if `key` is the key of a path, the components that it represents may be all components of a path
pub fit-own : (key : List ℕ) → is_own key ≡ true → AllFit true (key_values key)
fit-own key own =
    subst (AllFit true) (own-values key own) (values-fit (spelling_of (key_values key)))

-- if vs may be all components of a path, the key of vs is the key of a path
pub own-fit : (vs : List Value) → AllFit true vs → is_own (key_of vs) ≡ true
own-fit vs h =
    subst (λ us. is_own (key_of us) ≡ true) (values-spelled vs h) (own-key_of (spelling_of vs))

-- if us, v and ws, one after the other, may be components of a path, so may us and v
fit-front : (first : Bool) (us : List Value) (v : Value) (ws : List Value)
    → AllFit first (us ++ v ∷ ws) → AllFit first (us ++ v ∷ [])
fit-front first [] v ws h = (h.0, tt)
fit-front first (u ∷ us) v ws h = (h.0, fit-front false us v ws h.1)

-- if bytes begin with the code of v, their first code is as long as the code of v
first_code_len-code : (first : Bool) (v : Value) (rest : List ℕ) → Fits first v
    → first_code_len (code v ++ rest) ≡ length (code v)
first_code_len-code first RootDir rest h = refl
first_code_len-code first CurDir rest h = refl
first_code_len-code first ParentDir rest h = refl
first_code_len-code first (Normal []) rest h = absurd (let e = h.some in cc)
first_code_len-code first (Normal (b ∷ n)) rest h =
    let name = map raised (b ∷ n) in
    ap (λ n. if n == 0 then 2 else n + 1) (ap (position_or_len is_zero)
    (append_assoc name (0 ∷ []) rest)
    ∙ first_zero name rest (raised-NoZero (b ∷ n) h.no_slash))
    ∙ cond-false _ 2 _ (ne_eqb (length name) 0 (λ e. omega arith))
    ∙ sym (length-append name (0 ∷ []))

-- if the bytes of `key` after its first `length base` bytes begin with the code of v, the child of
-- `base` for `key` is `base` and then the code of v
child_of-code : (base : List ℕ) (first : Bool) (v : Value) (rest : List ℕ) → Fits first v
    → (key : List ℕ) → drop (length base) key ≡ code v ++ rest → child_of base key ≡ base ++ code v
child_of-code base first v rest h key is =
    ap (λ codes. base ++ take (first_code_len codes) codes) is
    ∙ ap (λ n. base ++ take n (code v ++ rest)) (first_code_len-code first v rest h)
    ∙ ap (λ l. base ++ l) (take_at (code v) rest (length (code v)) refl)

-- c is the key of a path, isn't empty, and is the child of `base` for each key that starts with c
pub record ChildKey (base c : List ℕ) : Type 0 where
  pub own : is_own c ≡ true
  pub some : 0 < length c
  pub child_is : (more : List ℕ) → child_of base (c ++ more) ≡ c

-- after the codes of the components of `base`, `key` has the code of v, and then the codes of the
-- components `more`
pub record GoesOn (base key : List ℕ) : Type 0 where
  pub v : Value
  pub more : List Value
  pub is : key_values key ≡ (key_values base ++ v ∷ []) ++ more
  pub at : Bool
  pub fits : Fits at v
  pub fit : AllFit true (key_values base ++ v ∷ [])
  pub codes : drop (length base) key ≡ code v ++ key_of more
  pub key_is : key ≡ key_of (key_values base ++ v ∷ []) ++ key_of more
  pub front : key_of (key_values base ++ v ∷ []) ≡ base ++ code v

module _ (base key : List ℕ) (own : is_own key ≡ true) (base_own : is_own base ≡ true)
    (begins : IsPrefixOf base key) (longer : length base < length key) where
  -- if `key` represents the components of `base` and then ws, `GoesOn` holds for `base` and `key`
  with_more : (ws : List Value) → key_values base ++ ws ≡ key_values key → GoesOn base key
  with_more [] is =
      let same : length key ≡ length base =
      ap length (key_of-own key own ∙ ap key_of (sym is ∙ append-nil (key_values base))
      ∙ sym (key_of-own base base_own)) in
      absurd (omega arith)
  with_more (v ∷ ws) is =
      let bs = key_values base in
      let front : key_of (bs ++ v ∷ []) ≡ base ++ code v =
      key_of-append bs (v ∷ [])
      ∙ ap (λ k. key_of bs ++ k) (key_of-one v)
      ∙ ap (λ k. k ++ code v) (sym (key_of-own base base_own)) in
      let split : key_values key ≡ (bs ++ v ∷ []) ++ ws =
      sym is ∙ sym (append_assoc bs (v ∷ []) ws) in
      let whole : key ≡ key_of (bs ++ v ∷ []) ++ key_of ws =
      key_of-own key own ∙ ap key_of split ∙ key_of-append (bs ++ v ∷ []) ws in
      let fit : AllFit true (bs ++ v ∷ ws) = subst (AllFit true) (sym is) (fit-own key own) in
      record {
        v = v;
        more = ws;
        is = split;
        at = starts bs && true;
        fits = (AllFit-after true bs (v ∷ ws) fit).0;
        fit = fit-front true bs v ws fit;
        codes = ap (drop (length base)) (whole ∙ ap (λ k. k ++ key_of ws) front
            ∙ append_assoc base (code v) (key_of ws))
            ∙ drop_at base (code v ++ key_of ws) (length base) refl;
        key_is = whole;
        front = front;
      }

  -- if `key` starts with `base` and is longer, `key` has the code of a component after `base`
  pub goes_on : GoesOn base key
  goes_on =
      let under = values_begin base key base_own own begins in with_more under.0 under.1

  -- the child of `base` for `key` is `base` and then the code of the next component in `key`
  child_code : child_of base key ≡ base ++ code goes_on.v
  child_code = let h = goes_on in child_of-code base h.at h.v (key_of h.more) h.fits key h.codes

  -- `key` starts with the child of `base` for `key`
  pub child_begins : IsPrefixOf (child_of base key) key
  child_begins = grind (arith, goes_on, child_code)

  -- the child of `base` for `key` is itself the key of a path, and is the child of `base` for each
  -- key that starts with it
  pub child_is_key : ChildKey base (child_of base key)
  child_is_key =
      let h = goes_on in
      record {
        own = ap is_own (child_code ∙ sym h.front)
            ∙ own-fit (key_values base ++ h.v ∷ []) h.fit;
        some = omega (
          arith,
          ap length child_code,
          length-append base (code h.v),
          code-length h.v,
        );
        child_is = λ more.
            ap (λ c. child_of base (c ++ more)) child_code
            ∙ child_of-code base h.at h.v more h.fits ((base ++ code h.v) ++ more)
            (ap (drop (length base)) (append_assoc base (code h.v) more)
            ∙ drop_at base (code h.v ++ more) (length base) refl)
            ∙ sym child_code;
      }

  -- `base` and the first code after it in `key` together have at most as many bytes as `key`
  pub child_code_fits : length base + first_code_len (drop (length base) key) ≤ length key
  child_code_fits =
      let h = goes_on in
      omega (
        arith,
        ap first_code_len h.codes,
        first_code_len-code h.at h.v (key_of h.more) h.fits,
        ap length h.codes,
        length-append (code h.v) (key_of h.more),
        length-drop (length base) key,
        longer,
      )

  -- the first n bytes of `key` are the child of `base` for `key`, if n is the length of `base` plus
  -- the length of the first code after it in `key`
  pub child_of-take : take (length base + first_code_len (drop (length base) key)) key
      ≡ child_of base key
  child_of-take = grind (arith, take-add, take_at)

  -- the child of `base` for `key` is the key of the first components that `key` represents: as many
  -- as `base` represents, and one more
  pub child_of-own : child_of base key
      ≡ key_of (take (length (key_values base) + 1) (key_values key))
  child_of-own = grind (arith, goes_on, child_code, take_at, length-append)

-- if the path s starts with the path `base` and has more components, the child of the key of `base`
-- for the key of s is the key of the first components of s: as many as `base` has, and one more
pub child_of-values : (base s : List ℕ) → IsPrefixOf (values base) (values s)
    → length (values base) < length (values s)
    → child_of (key_of (values base)) (key_of (values s))
    ≡ key_of (take (length (values base) + 1) (values s))
child_of-values base s begins longer =
    let k = key_of (values base) in
    let l = key_of (values s) in
    let inside : IsPrefixOf k l = begins-key_of (values base) (values s) begins in
    child_of-own k l (own-key_of s) (own-key_of base) inside (more inside.0 inside.1)
    ∙ ap₂ (λ us vs. key_of (take (length us + 1) vs)) (key_values-values base) (key_values-values s)
  where
    more : (x : List ℕ) → key_of (values base) ++ x ≡ key_of (values s)
        → length (key_of (values base)) < length (key_of (values s))
    more [] is =
        let same : values base ≡ values s =
        sym (key_values-values base)
        ∙ ap key_values (sym (append-nil (key_of (values base))) ∙ is) ∙ key_values-values s in
        absurd (omega (arith, ap length same, longer))
    more (b ∷ x) is = omega (arith, ap length is, length-append (key_of (values base)) (b ∷ x))
