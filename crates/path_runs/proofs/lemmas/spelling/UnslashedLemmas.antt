-- The components of a path, except its root, neither begin nor end with a slash.
use Rattle.std.proofs.Common.{◌≡◌, ℕ, true, false, List, [], ◌∷◌, refl, arith}
use Rattle.std.specs.List.{AllByRecursion}
use Rattle.std.specs.Str.{bytes_eq}
use Rattle.unix_path.specs.Parts.{Value, RootDir, value_bytes}
use Rattle.unix_path.specs.Parts.{is_rooted, values}
use Rattle.unix_path.specs.Joins.{needs_no_separator}
use Rattle.unix_bytes.proofs.lemmas.lists.ListLemmas.{by_test}
use Rattle.path_runs.proofs.lemmas.spelling.PieceValueLemmas.{HoldsOfPieces, NoSlash}
use Rattle.path_runs.proofs.lemmas.spelling.PieceValueLemmas.{values-hold_rooted}
use Rattle.path_runs.proofs.lemmas.spelling.PieceValueLemmas.{values-hold_rootless}

-- b isn't empty, and neither begins nor ends with a slash
pub record IsUnslashed (b : List ℕ) : Type 0 where
  pub rootless : is_rooted b ≡ false
  pub closed : needs_no_separator b ≡ false

needs_no_separator-no_slash : (x : ℕ) (p : List ℕ) → NoSlash (x ∷ p) → needs_no_separator (x ∷ p)
    ≡ false
needs_no_separator-no_slash x [] h = h.0
needs_no_separator-no_slash x (y ∷ p) h = needs_no_separator-no_slash y p h.1

-- if p has no slash and isn't empty, it neither begins nor ends with a slash
unslashed_piece : (p : List ℕ) → NoSlash p → bytes_eq p [] ≡ false → IsUnslashed p
unslashed_piece [] h e = absurd (let d : true ≡ false = e in cc)
unslashed_piece (x ∷ p) h e = record { rootless = h.0; closed = needs_no_separator-no_slash x p h }

-- v isn't the root, and its bytes aren't empty and neither begin nor end with a slash
pub record IsUnslashedValue (v : Value) : Type 0 where
  pub unslashed : IsUnslashed (value_bytes v)
  pub no_root : v ≡ RootDir → ⊥

unslashed_names : HoldsOfPieces IsUnslashedValue
unslashed_names p h e f = grind (arith, unslashed_piece)

-- the components vs are the root and then components that are unslashed and not the root, or they
-- are only such components
pub data Shape (vs : List Value) : Type 0 where
  Rooted : (ws : List Value) → vs ≡ RootDir ∷ ws → AllByRecursion IsUnslashedValue ws → Shape vs
  Rootless : AllByRecursion IsUnslashedValue vs → Shape vs

-- the components of s are the root and then components that are unslashed and not the root, or they
-- are only such components
pub values-shape : (s : List ℕ) → Shape (values s)
values-shape s = by_test (is_rooted s)
    (λ r. let behind = values-hold_rooted IsUnslashedValue unslashed_names s r in
    Rooted behind.0 behind.1 behind.2)
    (λ r. Rootless (values-hold_rootless IsUnslashedValue
    (record { unslashed = record { rootless = refl; closed = refl }; no_root = λ d. cc })
    unslashed_names s r))
