-- A tree after the borrow of one of its values ends.
use Rattle.std.specs.Prelude.{◌≡◌, ℕ, List, Option, Result}
use Rattle.std.specs.Borrow.{Fml, LendsSo, LendsSoOk, MutBor, RattleType}
use Rattle.std.specs.BTreeMap.{is_at}
use Rattle.std.specs.Map.{set_value}
use Rattle.path_keys.specs.Ranges.{bytes_cmp}
use Rattle.path_tree.specs.Tree.{entries_of}
use Rattle.path_tree.specs.contracts.tree.PathTree.{the_row}
use Rattle.path_tree.specs.declared.tree.PathTree.{PathTree}

-- after the borrow, the tree that s referred to has at the key the last value that was written
-- through r; if r is `None`, the tree is unchanged
abbrev pub borrows_value : (V : RattleType) → MutBor (PathTree V.Denot) → List ℕ
    → Option (MutBor V.Denot) → Fml
borrows_value V s key r = LendsSo (the_row V) V s r
    (λ t x. entries_of t ≡ set_value (is_at (bytes_cmp key)) (entries_of s.now) x)
    (λ t. entries_of t ≡ entries_of s.now)

-- the same for a result: if r is an error, the tree is unchanged
abbrev pub borrows_found : {E : Type 0} (V : RattleType) → MutBor (PathTree V.Denot) → List ℕ
    → Result (MutBor V.Denot) E → Fml
borrows_found V s key r = LendsSoOk (the_row V) V s r
    (λ t x. entries_of t ≡ set_value (is_at (bytes_cmp key)) (entries_of s.now) x)
    (λ t. entries_of t ≡ entries_of s.now)
