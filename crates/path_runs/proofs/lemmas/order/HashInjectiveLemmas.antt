-- The bytes that a path feeds a hasher determine its components.
use Rattle.std.proofs.Common.{◌≡◌, ℕ, false, cond, List, [], ◌∷◌, ◌++◌, length}
use Rattle.std.proofs.Common.{refl, sym, ap, ap₂, ◌∙◌, arith, append-nil, length-append}
use Rattle.std.specs.List.{AllByRecursion, slice_split, concat}
use Rattle.std.specs.Str.{bytes_eq}
use Rattle.std.proofs.lemmas.List.{append_cancel_left}
use Rattle.std.proofs.lemmas.List.Elements.{All-from_recursion}
use Rattle.std.proofs.lemmas.List.Splits.{slice_split_at}
use Rattle.unix_path.specs.Hashed.{hash_input_of}
use Rattle.unix_path.specs.Parts.{is_slash, slash, cur_dir, Value, RootDir, CurDir}
use Rattle.unix_path.specs.Parts.{value_of_piece, value_bytes, values}
use Rattle.unix_path.specs.Prefixes.{IsPrefixOf}
use Rattle.path_runs.proofs.lemmas.order.HashInputLemmas.{with_zeros, with_zeros-cancel}
use Rattle.path_runs.proofs.lemmas.order.HashInputLemmas.{concat-hash_input_of}
use Rattle.path_runs.proofs.lemmas.spelling.PieceValueLemmas.{HoldsOfPieces, NoSlash, values-hold}
use Rattle.unix_path.proofs.lemmas.parts.ValueLemmas.{value_bytes-piece}

-- the component that feeds a hasher the bytes b before the first slash
value_fed_by : List ℕ → Value
value_fed_by b = cond (bytes_eq b []) RootDir (cond (bytes_eq b cur_dir) CurDir (value_of_piece b))

-- the bytes that v feeds before the first slash, `piece`, determine v
record IsDetermined (v : Value) : Type 0 where
  piece : List ℕ
  after_slash : List ℕ
  no_slash : NoSlash piece
  fed : (x : List ℕ) → value_bytes v ++ slash ∷ x ≡ piece ++ slash ∷ (after_slash ++ x)
  determines : value_fed_by piece ≡ v

root_determined : IsDetermined RootDir
unfolding value_fed_by
root_determined = record {
  piece = [];
  after_slash = slash ∷ [];
  no_slash = tt;
  fed = λ x. refl;
  determines = refl;
}

dot_determined : IsDetermined CurDir
unfolding value_fed_by
dot_determined = record {
  piece = cur_dir;
  after_slash = [];
  no_slash = (refl, tt);
  fed = λ x. refl;
  determines = refl;
}

piece_determined : HoldsOfPieces IsDetermined
unfolding value_fed_by
piece_determined p h d e = grind (arith, value_bytes-piece)

-- the bytes that a component of a path feeds before the first slash determine the component
values-determined : (s : List ℕ) → AllByRecursion IsDetermined (values s)
values-determined s = values-hold IsDetermined root_determined dot_determined piece_determined s

-- if p and q have no slash, and p, a slash and x are the same bytes as q, a slash and y, then p is
-- q
same_piece : (p q x y : List ℕ) → NoSlash p → NoSlash q → p ++ slash ∷ x ≡ q ++ slash ∷ y → p ≡ q
same_piece p q x y h k e =
    let split : (r z : List ℕ) → NoSlash r → slice_split is_slash
    (r ++ slash ∷ z) ≡ r ∷ slice_split is_slash z = λ r z n. slice_split_at is_slash r slash z
    (All-from_recursion (λ b. is_slash b ≡ false) r n) refl in
    let both = sym (split p x h) ∙ ap (slice_split is_slash) e ∙ split q y k in
    cc

-- if v and w are determined by the bytes that they feed (`IsDetermined`), and the bytes that v
-- feeds, followed by x, are the bytes that w feeds, followed by y, then v is w and x is y
same_first : (v w : Value) (x y : List ℕ) → IsDetermined v → IsDetermined w
    → value_bytes v ++ slash ∷ with_zeros v x ≡ value_bytes w ++ slash ∷ with_zeros w y
    → (v ≡ w) × (x ≡ y)
same_first v w x y m n e =
    grind (arith, with_zeros, append_cancel_left, with_zeros-cancel, same_piece, value_fed_by)

-- if each component of vs and ws is determined by the bytes that it feeds (`IsDetermined`), and the
-- bytes that vs feeds, followed by x, are the bytes that ws feeds, then vs is a prefix of ws
begins-determined : (vs ws : List Value) → AllByRecursion IsDetermined vs
    → AllByRecursion IsDetermined ws
    → (x : List ℕ) → concat (hash_input_of vs) ++ x ≡ concat (hash_input_of ws) ++ []
    → IsPrefixOf vs ws
begins-determined [] ws m n x e = (ws, refl)
begins-determined (v ∷ vs) [] m n x e =
    let b = value_bytes v in
    let others = slash ∷ with_zeros v (concat (hash_input_of vs) ++ x) in
    let none : b ++ others ≡ [] = sym (concat-hash_input_of v vs x) ∙ e in
    absurd (omega (arith, ap length none, length-append b others))
begins-determined (v ∷ vs) (w ∷ ws) m n x e =
    let left = concat (hash_input_of vs) ++ x in
    let right = concat (hash_input_of ws) ++ [] in
    let first = same_first v w left right m.0 n.0
    (sym (concat-hash_input_of v vs x) ∙ e ∙ concat-hash_input_of w ws []) in
    let others = begins-determined vs ws m.1 n.1 x first.1 in
    (others.0, ap₂ (λ u us. u ∷ us) first.0 others.1)

-- if the bytes that s feeds, followed by x, are the bytes that t feeds, then the components of s
-- are a prefix of the components of t
pub bytes_fed-IsPrefixOf : (s t x : List ℕ)
    → concat (hash_input_of (values s)) ++ x ≡ concat (hash_input_of (values t))
    → IsPrefixOf (values s) (values t)
bytes_fed-IsPrefixOf s t x e = grind (arith, begins-determined, values-determined, append-nil)
