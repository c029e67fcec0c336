-- Definitions for contracts of boxed, shared and borrowed-or-owned paths.
use Rattle.std.specs.Prelude.{ℕ, List, ⊤}
use Rattle.std.specs.Rc.{rc_slice_items}
use Rattle.unix_bytes.specs.Owned.{owned_bytes}
use Rattle.unix_path.specs.Buffers.{path_bytes}
use Rattle.unix_path.specs.declared.kept.boxed.BoxedPath.{BoxedPath}
use Rattle.unix_path.specs.declared.kept.rc.RcPath.{RcPath}
use Rattle.unix_path.specs.declared.kept.cow.CowPath.{CowPath}
use Rattle.unix_path.specs.declared.kept.cow.CowPath.TheVariants.{Borrowed, Owned}

-- the bytes of a boxed path
abbrev pub boxed_bytes : BoxedPath → List ℕ
boxed_bytes path = owned_bytes path.bytes

-- the bytes of a shared path
abbrev pub rc_bytes : RcPath → List ℕ
rc_bytes path = rc_slice_items path.bytes

-- the bytes of a path that is borrowed or owned
abbrev pub cow_bytes : CowPath → List ℕ
cow_bytes (Borrowed path) = path.bytes.now
cow_bytes (Owned path) = path_bytes path

-- the path borrows its bytes
abbrev pub IsBorrowed : CowPath → Type 0
IsBorrowed (Borrowed path) = ⊤
IsBorrowed (Owned path) = ⊥
