-- The last code of a key that is read code by code.
use Rattle.std.proofs.Common.{◌≡◌, ◌≤◌, ◌<◌, ◌-◌, ◌&&◌, ℕ, Bool, true, false, List, [], ◌∷◌, ◌++◌}
use Rattle.std.proofs.Common.{length, take, drop, map, refl, sym, ap, ◌∙◌, arith, subst, append-nil}
use Rattle.std.proofs.Common.{append_assoc, length-append, length-drop, Option, Some, None}
use Rattle.std.proofs.Common.{option_map, IfSome}
use Rattle.std.proofs.lemmas.Bool.{and_left}
use Rattle.std.proofs.lemmas.List.{drop_at, take_at, nil_from_length}
use Rattle.unix_path.specs.Names.{file_name_of, name_of}
use Rattle.unix_path.specs.Parents.{parent_of}
use Rattle.unix_path.specs.Parts.{Value, RootDir, CurDir, ParentDir, Normal, values}
use Rattle.unix_path.specs.Prefixes.{IsPrefixOf}
use Rattle.path_keys.specs.Codes.{code_bytes, IsComponent}
use Rattle.unix_path.proofs.lemmas.names.ParentLemmas.{parent_of-none, parent_of-root}
use Rattle.unix_path.proofs.lemmas.names.ParentLemmas.{parent_of-push}
use Rattle.unix_path.proofs.lemmas.names.ParentLemmas.{file_name_of-last, file_name_of-none}
use Rattle.path_runs.proofs.lemmas.joins.SiblingLemmas.{values-rest_push}
use Rattle.path_keys.specs.Keys.{code, key_of, raised, IsKey}
use Rattle.path_keys.proofs.lemmas.values.Fitting.{AllFit, Fits}
use Rattle.path_keys.specs.declared.parent.LastCode.{LastCode}
use Rattle.path_keys.proofs.lemmas.reading.FitLemmas.{AllFit-after, AllFit-append, key_of-split}
use Rattle.path_keys.proofs.lemmas.reading.FitLemmas.{starts, starts-more, values-fit}
use Rattle.path_keys.proofs.lemmas.reading.FitLemmas.{component-fits, fits-component}
use Rattle.path_keys.proofs.lemmas.reading.FitLemmas.{values-spelled}
use Rattle.path_keys.proofs.lemmas.reading.MarkLemmas.{no_mark_last}
use Rattle.path_keys.proofs.lemmas.values.KeyLemmas.{key_of-append, key_of-cons, key_of-nil}
use Rattle.path_keys.proofs.lemmas.values.KeyLemmas.{key_of-one}

-- the last of the components vs has the code `bytes`, and the bytes of the key before index `start`
-- are the key of the components before it
abbrev pub EndsIn : List ℕ → List Value → ℕ → List ℕ → Type 0
EndsIn key vs start bytes = (front : List Value) × (v : Value) × (vs ≡ front ++ v ∷ [])
    × (take start key ≡ key_of front) × (code v ≡ bytes)

-- the last of the components us has the last code that was read; if no code was read, us is empty
abbrev pub LastIs : List ℕ → List Value → Option LastCode → Type 0
LastIs key us None = us ≡ []
LastIs key us (Some last) =
    EndsIn key us last.start (code_bytes last.code) × (last.start ≤ length key)

-- `rest` is the rest of the key after the codes of some components, which may be all components of
-- a path, and `last` is the last of these codes; `first` is true if no code was read
pub record WalksTo (key rest : List ℕ) (first : Bool) (last : Option LastCode) : Type 0 where
  pub us : List Value
  pub fit : AllFit true us
  pub first_is : first ≡ (starts us && true)
  pub whole : key_of us ++ rest ≡ key
  pub short : length rest ≤ length key
  pub last_is : LastIs key us last

-- before the first code is read, the rest is all of the key
pub walks_none : (key : List ℕ) → WalksTo key key true None
walks_none key = record {
  us = [];
  fit = tt;
  first_is = refl;
  whole = ap (λ k. k ++ key) key_of-nil;
  short = omega arith;
  last_is = refl;
}

-- s begins with the code `bytes`, with which a path may begin if `first` is true, and which follows
-- other codes otherwise
abbrev pub TakesCode : Bool → List ℕ → List ℕ → Type 0
TakesCode first s bytes = (v : Value) × IsComponent first v × (code v ≡ bytes)
    × IsPrefixOf (code v) s

-- if `rest` begins with the code of `next`, reading this code leads to `more`, the bytes of `rest`
-- after it
pub walks_one : {key rest more : List ℕ} {first : Bool} {last : Option LastCode} (next : LastCode)
    → WalksTo key rest first last → TakesCode first rest (code_bytes next.code)
    → next.start ≡ length key - length rest
    → more ≡ drop (length (code_bytes next.code)) rest → WalksTo key more false (Some next)
walks_one {key} {rest} {more} {first} {last} next h (v, is_part, code_is, begins) at e =
    let count : next.start ≡ length (key_of h.us) =
    omega (arith, at, ap length h.whole, length-append (key_of h.us) rest) in
    let after : code v ++ more ≡ rest =
    ap (λ r. code v ++ r) (e ∙ ap (λ c. drop (length c) rest) (sym code_is)
    ∙ ap (drop (length (code v))) (sym begins.1)
    ∙ drop_at (code v) begins.0 (length (code v)) refl) ∙ begins.1 in
    record {
      us = h.us ++ v ∷ [];
      fit = AllFit-append true h.us (v ∷ []) h.fit
          (subst (λ b. Fits b v) h.first_is (component-fits first v is_part), tt);
      first_is = sym (and_left _ true (starts-more h.us (v ∷ []) (omega arith)));
      whole =
          ap (λ c. c ++ more) (key_of-append h.us (v ∷ []) ∙ ap (λ c. key_of h.us ++ c)
          (key_of-one v))
          ∙ append_assoc (key_of h.us) (code v) more
          ∙ ap (λ r. key_of h.us ++ r) after ∙ h.whole;
      short = omega (arith, h.short, ap length e, length-drop (length (code_bytes next.code)) rest);
      last_is = (
        (
          h.us,
          v,
          refl,
          ap (take next.start) (sym h.whole)
              ∙ take_at (key_of h.us) rest next.start (sym count),
          code_is,
        ),
        omega arith,
      );
    }

-- `rest` doesn't begin with the code of a component with which a path may begin if `first` is true,
-- and which follows others otherwise
abbrev pub HasNoCode : Bool → List ℕ → Type 0
HasNoCode first s = (v : Value) → IsComponent first v → IsPrefixOf (code v) s → ⊥

-- if `rest` begins with no code, the components that were read are those of each path s with the
-- key, and `rest` is empty
walks_all : {key rest : List ℕ} {first : Bool} {last : Option LastCode}
    (h : WalksTo key rest first last) → HasNoCode first rest → (s : List ℕ)
    → key_of (values s) ≡ key → (h.us ≡ values s) × (rest ≡ [])
walks_all {key} {rest} h none s e =
    by (key_of-split true true h.us (values s) rest h.fit (values-fit s) (h.whole ∙ sym e))
  where
    by : (ws : List Value) × (h.us ++ ws ≡ values s) × (key_of ws ≡ rest)
        → (h.us ≡ values s) × (rest ≡ [])
    by ([], same, remain) = (sym (append-nil h.us) ∙ same, sym remain ∙ key_of-nil)
    by (w ∷ ws, same, remain) = absurd (none w (fits-component _ w
        (subst (λ b. Fits b w) (sym h.first_is)
        (AllFit-after true h.us (w ∷ ws) (subst (AllFit true) (sym same) (values-fit s))).0))
        (key_of ws, sym (key_of-cons w ws) ∙ remain))

-- if `rest` begins with no code, the last code that was read is that of the last component of each
-- path with the key
pub walks_some : {key rest : List ℕ} {first : Bool} (last : Option LastCode)
    → WalksTo key rest first last → HasNoCode first rest
    → IfSome last (λ last. (s : List ℕ) → key_of (values s) ≡ key
    → EndsIn key (values s) last.start (code_bytes last.code))
walks_some None h none = tt
walks_some {key} (Some last) h none = λ s e.
    subst (λ vs. EndsIn key vs last.start (code_bytes last.code)) (walks_all h none s e).0
    h.last_is.0

-- if no code was read, and `rest` begins with no code, each path with the key has no component
pub walks_empty : {key rest : List ℕ} {first : Bool} (last : Option LastCode)
    → WalksTo key rest first last → HasNoCode first rest → last ≡ None
    → (s : List ℕ) → key_of (values s) ≡ key → values s ≡ []
walks_empty None h none is s e = sym (walks_all h none s e).0 ∙ h.last_is
walks_empty (Some last) h none is s e = absurd (cc)

-- if `rest` is not empty and begins with no code, no path has the key
pub walks_no_key : {key rest : List ℕ} {first : Bool} (last : Option LastCode)
    → WalksTo key rest first last → HasNoCode first rest → 0 < length rest → IsKey key → ⊥
walks_no_key last h none some is =
    omega (arith, ap length (walks_all h none is.0 is.1).1, some)

-- if `rest` is empty, a path has the key: the canonical form of the components that were read
pub walks_key : {key rest : List ℕ} {first : Bool} (last : Option LastCode)
    → WalksTo key rest first last → length rest ≡ 0 → IsKey key
walks_key {key} {rest} last h empty = grind (arith, values-spelled, append-nil, nil_from_length)

-- if s has no component, it has no parent, so there is no key of a parent
pub no_parent : (s : List ℕ) → values s ≡ []
    → None ≡ option_map (λ parent. key_of (values parent)) (parent_of s)
no_parent s e =
    ap (option_map (λ parent. key_of (values parent))) (parent_of-none s e)

-- if v has the code of a root, v is a root
code_root : (v : Value) → code v ≡ code RootDir → v ≡ RootDir
code_root RootDir e = refl
code_root CurDir e = absurd (cc)
code_root ParentDir e = absurd (cc)
code_root (Normal name) e = absurd (no_mark_last (map raised name) 1 (omega arith) e)

-- if the last component of s has the code of a root, s has no parent, so there is no key of a
-- parent
pub root_parent : (key s : List ℕ) (start : ℕ) (bytes : List ℕ)
    → EndsIn key (values s) start bytes → bytes ≡ code RootDir
    → None ≡ option_map (λ parent. key_of (values parent)) (parent_of s)
root_parent key s start bytes (front, v, is, front_is, code_is) e =
    ap (option_map (λ parent. key_of (values parent))) (parent_of-root s front
    (is ∙ ap (λ v. front ++ v ∷ []) (code_root v (code_is ∙ e))))

-- if the last component of s doesn't have the code of a root, the bytes of the key before its code
-- are the key of the parent of s
pub front_parent : (key s : List ℕ) (start : ℕ) (bytes : List ℕ) → (bytes ≡ code RootDir → ⊥)
    → EndsIn key (values s) start bytes
    → Some (take start key) ≡ option_map (λ parent. key_of (values parent)) (parent_of s)
front_parent key s start bytes other (front, v, is, front_is, code_is) =
    by (λ e. other (sym code_is ∙ ap code e))
  where
    by : (v ≡ RootDir → ⊥)
        → Some (take start key) ≡ option_map (λ parent. key_of (values parent)) (parent_of s)
    by no_root = grind (arith, values-rest_push, parent_of-push)

-- if s has no component, it has no file name
pub no_name : (s : List ℕ) → values s ≡ []
    → None ≡ option_map (λ name. map raised name) (file_name_of (values s))
no_name s e = ap (option_map (λ name. map raised name)) (file_name_of-none s e)

-- if `name` is the raised name of a component with the code `bytes`, and the last component of s
-- has this code, `name` has the raised bytes of the file name of s, or is `None` if s has none
pub last_name : (key s : List ℕ) (start : ℕ) (bytes : List ℕ) (name : Option (List ℕ))
    → EndsIn key (values s) start bytes
    → ((v : Value) → code v ≡ bytes → name ≡ option_map (λ name. map raised name) (name_of v))
    → name ≡ option_map (λ name. map raised name) (file_name_of (values s))
last_name key s start bytes name (front, v, is, front_is, code_is) h =
    h v code_is
    ∙ ap (option_map (λ name. map raised name))
    (sym (file_name_of-last front v) ∙ ap file_name_of (sym is))
