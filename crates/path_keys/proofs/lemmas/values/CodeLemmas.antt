-- Codes are in the order of their components, and no code is a prefix of another one.
use Rattle.std.proofs.Common.{◌≡◌, ◌<◌, ℕ, false, List, [], ◌∷◌, ◌++◌, length, Equal}
use Rattle.std.proofs.Common.{Ordering, refl, sym, ap, ◌∙◌, arith}
use Rattle.std.proofs.lemmas.Cmp.{tied_itself, nat_list_cmp_total}
use Rattle.std.specs.FinMap.{nat_cmp-IsAntisymmetric, slice_cmp-IsAntisymmetric}
use Rattle.std.specs.List.{AllByRecursion}
use Rattle.std.specs.Ordering.{ordering_then}
use Rattle.std.specs.Str.{bytes_eq}
use Rattle.unix_path.specs.Parts.{Value, RootDir, CurDir, ParentDir, Normal, parent_dir, values}
use Rattle.unix_path.specs.Order.{value_cmp}
use Rattle.unix_path.specs.OrderLaws.{value_cmp-equal}
use Rattle.unix_bytes.proofs.lemmas.lists.ListLemmas.{by_test}
use Rattle.path_runs.proofs.lemmas.spelling.PieceValueLemmas.{HoldsOfPieces, NoSlash, values-hold}
use Rattle.path_keys.specs.Keys.{code}
use Rattle.path_keys.specs.Ranges.{bytes_cmp}
use Rattle.path_keys.proofs.lemmas.values.ByteLemmas.{bytes_cmp-names, zero-raised, raised-zero}

-- if the component is a name, the name is not empty and has no slash
abbrev pub IsCoded : Value → Type 0
IsCoded RootDir = Unit {0}
IsCoded CurDir = Unit {0}
IsCoded ParentDir = Unit {0}
IsCoded (Normal name) = NoSlash name × (bytes_eq name [] ≡ false)

-- if a piece is neither empty nor `.`, its component is `IsCoded`
piece_coded : HoldsOfPieces IsCoded
piece_coded p h d e = by_test (bytes_eq p parent_dir) (λ e. rw e tt) (λ e. rw e (h, d))

-- each name among the components of s is not empty and has no slash
pub values-coded : (s : List ℕ) → AllByRecursion IsCoded (values s)
values-coded s = values-hold IsCoded tt tt piece_coded s

-- if v and w are `IsCoded`, their codes followed by x and y are in the order of v and w, or in the
-- order of x and y if v and w are equal
pub bytes_cmp-codes : (v w : Value) (x y : List ℕ) → IsCoded v → IsCoded w
    → bytes_cmp (code v ++ x) (code w ++ y) ≡ ordering_then (value_cmp v w) (bytes_cmp x y)
bytes_cmp-codes (Normal n) (Normal m) x y h k = bytes_cmp-names n m x y h.0 k.0
bytes_cmp-codes (Normal []) w x y h k = absurd (let d = h.1 in cc)
bytes_cmp-codes (Normal (b ∷ n)) RootDir x y h k = rw (raised-zero b h.0.0) refl
bytes_cmp-codes (Normal (b ∷ n)) CurDir x y h k = rw (raised-zero b h.0.0) refl
bytes_cmp-codes (Normal (b ∷ n)) ParentDir x y h k = rw (raised-zero b h.0.0) refl
bytes_cmp-codes v (Normal []) x y h k = absurd (let d = k.1 in cc)
bytes_cmp-codes RootDir (Normal (b ∷ m)) x y h k = rw (zero-raised b k.0.0) refl
bytes_cmp-codes CurDir (Normal (b ∷ m)) x y h k = rw (zero-raised b k.0.0) refl
bytes_cmp-codes ParentDir (Normal (b ∷ m)) x y h k = rw (zero-raised b k.0.0) refl
bytes_cmp-codes v w x y h k = refl

-- if `ordering_then p q` is `Equal`, p and q are both `Equal`
ordering_then-tied : (p q : Ordering) → ordering_then p q ≡ Equal → (p ≡ Equal) × (q ≡ Equal)
ordering_then-tied Equal q e = (refl, e)
ordering_then-tied p q e = absurd (cc)

-- if v and w are `IsCoded`, and the code of v followed by x is the code of w followed by y, then v
-- is w, and x is y
pub codes_split : (v w : Value) (x y : List ℕ) → IsCoded v → IsCoded w
    → code v ++ x ≡ code w ++ y → (v ≡ w) × (x ≡ y)
codes_split v w x y h k e =
    let tied : bytes_cmp (code v ++ x) (code w ++ y) ≡ Equal =
    ap (bytes_cmp (code v ++ x)) (sym e) ∙ tied_itself nat_list_cmp_total (code v ++ x) in
    let both = ordering_then-tied (value_cmp v w) (bytes_cmp x y)
    (sym (bytes_cmp-codes v w x y h k) ∙ tied) in
    (value_cmp-equal v w both.0, slice_cmp-IsAntisymmetric nat_cmp-IsAntisymmetric x y both.1)

-- the code of v is a byte b followed by the bytes x
pub code-some : (v : Value) → (b : ℕ) × (x : List ℕ) × (code v ≡ b ∷ x)
code-some RootDir = (_, _, refl)
code-some CurDir = (_, _, refl)
code-some ParentDir = (_, _, refl)
code-some (Normal []) = (_, _, refl)
code-some (Normal (b ∷ n)) = (_, _, refl)

-- a code is not empty
pub code-length : (v : Value) → 0 < length (code v)
code-length v = let some = code-some v in omega (arith, ap length some.2)
