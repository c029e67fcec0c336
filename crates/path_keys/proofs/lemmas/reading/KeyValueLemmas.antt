-- A key represents the components of each path that has it.
use Rattle.std.proofs.Common.{arith}
use Rattle.std.proofs.Common.{◌≡◌, ℕ, Bool, true, false, List, [], ◌∷◌, ◌++◌, map, Some}
use Rattle.std.proofs.Common.{refl, sym, ap, ◌∙◌, subst, append_assoc, append-nil}
use Rattle.std.proofs.lemmas.Slice.Eq.{bytes_eq-Decides}
use Rattle.std.proofs.Math.Logic.{∥∥₁_elim}
use Rattle.std.proofs.Props.{props}
use Rattle.unix_path.specs.Order.{values_cmp}
use Rattle.unix_path.specs.Parts.{Value, RootDir, CurDir, ParentDir, Normal, values}
use Rattle.path_runs.specs.Spelling.{spelling_of}
use Rattle.path_runs.proofs.lemmas.spelling.PieceValueLemmas.{NoSlash}
use Rattle.path_runs.proofs.lemmas.spelling.ReadBackLemmas.{values-spelling_of}
use Rattle.path_keys.proofs.lemmas.values.Fitting.{Fits, AllFit}
use Rattle.path_keys.specs.Keys.{code, key_of, raised, IsKey}
use Rattle.path_keys.specs.Ranges.{bytes_cmp}
use Rattle.path_keys.proofs.lemmas.values.CodeLemmas.{values-coded}
use Rattle.path_keys.proofs.lemmas.reading.FitLemmas.{values-fit}
use Rattle.path_keys.proofs.lemmas.values.KeyLemmas.{key_of-nil, key_of-cons}
use Rattle.path_keys.proofs.lemmas.values.LoweredLemmas.{raised-no_zero, lowered-raised}
use Rattle.path_keys.proofs.lemmas.values.OrderLemmas.{bytes_cmp-keys}
use Rattle.path_keys.specs.KeyValues.{is_own, key_values, values_from}

-- if a and `name` are the first bytes of a name, and n has no slash, reading the raised bytes of n
-- and an end mark after them yields the name of a, `name` and n, and then the components of `key`
values_from-name : (n : List ℕ) (a : ℕ) (name key : List ℕ) → NoSlash n
    → values_from (Some (a ∷ name)) ((map raised n ++ 0 ∷ []) ++ key)
    ≡ Normal (a ∷ (name ++ n)) ∷ values_from (Some []) key
unfolding values_from
values_from-name [] a name key h =
    ap (λ p. Normal (a ∷ p) ∷ values_from (Some []) key) (sym (append-nil name))
values_from-name (b ∷ n) a name key h =
    rw (raised-no_zero b h.0, lowered-raised b h.0)
    (values_from-name n a (name ++ b ∷ []) key h.1
    ∙ ap (λ p. Normal (a ∷ p) ∷ values_from (Some []) key) (append_assoc name (b ∷ []) n))

-- if v may be a component of a path, reading its code followed by `key` yields v, and then the
-- components of `key`
values_from-code : (first : Bool) (v : Value) → Fits first v → (key : List ℕ)
    → values_from (Some []) (code v ++ key) ≡ v ∷ values_from (Some []) key
unfolding values_from
values_from-code first RootDir h key = refl
values_from-code first CurDir h key = refl
values_from-code first ParentDir h key = refl
values_from-code first (Normal []) h key = absurd (let e = h.some in cc)
values_from-code first (Normal (b ∷ n)) h key =
    rw (raised-no_zero b h.no_slash.0, lowered-raised b h.no_slash.0)
    (values_from-name n b [] key h.no_slash.1)

-- if vs may be components of a path, their key represents vs
pub key_values-key_of : (first : Bool) (vs : List Value) → AllFit first vs
    → key_values (key_of vs) ≡ vs
unfolding values_from
key_values-key_of first [] h = ap key_values key_of-nil
key_values-key_of first (v ∷ vs) h =
    ap key_values (key_of-cons v vs) ∙ values_from-code first v h.0 (key_of vs)
    ∙ ap (λ us. v ∷ us) (key_values-key_of false vs h.1)

-- the key of a path represents the path's components
pub key_values-values : (s : List ℕ) → key_values (key_of (values s)) ≡ values s
key_values-values s = key_values-key_of true (values s) (values-fit s)

-- the key of a path passes the test `is_own`
pub own-key_of : (s : List ℕ) → is_own (key_of (values s)) ≡ true
own-key_of s = grind (arith, bytes_eq-Decides, key_values-values, values-spelling_of)

-- if `key` passes the test `is_own`, it is the key of the canonical form of the components that it
-- represents
pub own-is : (key : List ℕ) → is_own key ≡ true
    → key_of (values (spelling_of (key_values key))) ≡ key
own-is key own = (bytes_eq-Decides (key_of (values (spelling_of (key_values key)))) key).0 own

-- if `key` is the key of a path, the canonical form of the components that it represents has these
-- components
pub own-values : (key : List ℕ) → is_own key ≡ true
    → values (spelling_of (key_values key)) ≡ key_values key
own-values key own =
    sym (key_values-values (spelling_of (key_values key))) ∙ ap key_values (own-is key own)

-- if k and l are keys of paths, they are in the order of the components that they represent
pub bytes_cmp-own : (k l : List ℕ) → is_own k ≡ true → is_own l ≡ true
    → bytes_cmp k l ≡ values_cmp (key_values k) (key_values l)
bytes_cmp-own k l own other = grind (arith, own-is, bytes_cmp-keys, values-coded, own-values)

-- `key` is the key of a path and represents the components v
pub record Represents (key : List ℕ) (v : List Value) : Type 0 where
  pub own : is_own key ≡ true
  pub is : key_values key ≡ v

-- if `key` is the key of a path, it represents `key_values key`, the components that are read from
-- it
pub own-represents : (key : List ℕ) → is_own key ≡ true → Represents key (key_values key)
own-represents key own = record { own = own; is = refl }

-- if `key` represents v, and l is the key of a path, `key` and l are in the order of v and the
-- components that l represents
pub bytes_cmp-represents : (key : List ℕ) (v : List Value) → Represents key v → (l : List ℕ)
    → is_own l ≡ true → bytes_cmp key l ≡ values_cmp v (key_values l)
bytes_cmp-represents key v h l other =
    bytes_cmp-own key l h.own other ∙ ap (λ w. values_cmp w (key_values l)) h.is

-- if `key` is `held`, and `held` is the key of a path, then `key` passes the test `is_own`
pub own-IsKey : (key held : List ℕ) → key ≡ held → ∥ IsKey held ∥₁ → is_own key ≡ true
own-IsKey key held same is = ap is_own same
    ∙ ∥∥₁_elim is (hlevel props) (λ h. subst (λ k. is_own k ≡ true) h.1 (own-key_of h.0))

-- if some path has the key `held`, the canonical form of the components that `held` represents is
-- such a path
pub held_is_key : (held : List ℕ) → ∥ IsKey held ∥₁ → IsKey held
held_is_key held is =
    (spelling_of (key_values held), own-is held (own-IsKey held held refl is))

-- if `key` is the key of a path s, it passes the test `is_own`
pub own-of : (key s : List ℕ) → key ≡ key_of (values s) → is_own key ≡ true
own-of key s is = ap is_own is ∙ own-key_of s

-- if `key` is the key of a path s, it represents the components of s
pub values-of : (key s : List ℕ) → key ≡ key_of (values s) → key_values key ≡ values s
values-of key s is = ap key_values is ∙ key_values-values s
