-- What a walk over a path and its ancestors has yet to yield (Rust's `Ancestors`).
use Rattle.std.specs.Prelude.{◌≡◌, ℕ, List, [], Option, IfSome}
use Rattle.std.specs.Iterator.{YieldsFirstBy}
use Rattle.std.specs.Option.{option_map_or}
use Rattle.unix_path.specs.Parents.{ancestors_of}
use Rattle.unix_path.specs.declared.path.Path.{Path}
use Rattle.unix_path.specs.declared.cursor.parents.Ancestors.{Ancestors}

-- the path that a walk over ancestors yields next; None if it has ended
abbrev pub coming_ancestor : Ancestors → Option Path
coming_ancestor walk = walk.next

-- the bytes of the paths that a walk over ancestors has yet to yield
abbrev pub remaining_ancestors : Ancestors → List (List ℕ)
remaining_ancestors walk = option_map_or (λ path. ancestors_of path.bytes.now) walk.next []

-- a call of `next` yields the coming ancestor, whose bytes are the first of `remaining_ancestors`,
-- if there is one; the ancestor that comes after it begins at the same address in memory
pub record GivesAncestor (old : Ancestors) (item : Option Path) (new : Ancestors) : Type 0 where
  pub item_is : YieldsFirstBy (λ path. path.bytes.now) remaining_ancestors old item new
  pub slice_is : item ≡ coming_ancestor old
  pub place_is : IfSome item (λ path. IfSome (coming_ancestor new) (λ parent.
      parent.bytes.ref_ptr ≡ path.bytes.ref_ptr))
