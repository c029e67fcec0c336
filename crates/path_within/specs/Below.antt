-- Names that go down from a root: the names of a path that is resolved after `/`, so that a `..` at
-- the top stays at the top (POSIX.1-2017 section 4.13: `..` in the root directory is that
-- directory).
use Rattle.std.specs.Prelude.{◌≡◌, ℕ, Bool, false, ◌==◌, ◌&&◌, not, nat_lt, is_some, fold}
use Rattle.std.specs.Prelude.{List, ◌∷◌, length, drop, map}
use Rattle.std.specs.List.{list_any, position_or_len}
use Rattle.unix_path.specs.Joins.{join_of}
use Rattle.unix_path.specs.Names.{file_name_of}
use Rattle.unix_path.specs.Parts.{Value, RootDir, is_slash, value_bytes, values}
use Rattle.unix_path.specs.Prefixes.{IsPrefixOf, stripped_of}
use Rattle.unix_path.specs.Rest.{rest}
use Rattle.path_within.specs.Escapes.{has_root_or_parent_dir}
use Rattle.path_within.specs.Resolved.{resolved_of}

-- the names that remain of these components when they are resolved after a root
unfoldable pub names_below : List Value → List Value
names_below vs = drop 1 (resolved_of (RootDir ∷ vs))

-- the bytes contain a NUL, at which C ends a string
abbrev pub has_nul : List ℕ → Bool
has_nul s = list_any (λ b. b == 0) s

-- the bytes after the leading slashes
abbrev pub after_leading_slashes : List ℕ → List ℕ
after_leading_slashes s = drop (position_or_len (λ b. not (is_slash b)) s) s

-- the last component is a name, and bytes follow it
abbrev pub ends_in_slash : List ℕ → Bool
ends_in_slash s =
    is_some (file_name_of (values s)) && nat_lt (length (rest s 0 0)) (length s)

-- the root's bytes, with each name joined to them, one after the other
unfoldable pub below_of : List ℕ → List Value → List ℕ
below_of root names = fold join_of root (map value_bytes names)

-- `path` starts with the components of `root`, and the rest of `path` after them has neither a root
-- nor a `..`
pub record GoesDown (root path : List ℕ) : Type 0 where
  pub begins : IsPrefixOf (values root) (values path)
  pub names : has_root_or_parent_dir (values (stripped_of path root)) ≡ false

-- `path` goes down from `root`, and the rest of `path` after `root` has no NUL
pub record IsBelow (root path : List ℕ) : Type 0 where
  pub down : GoesDown root path
  pub no_nul : has_nul (stripped_of path root) ≡ false
