-- Which components may be all components of a path, and which may follow others.
use Rattle.std.proofs.Common.{◌≡◌, ℕ, Bool, true, false, List, [], ◌∷◌}
use Rattle.std.specs.List.{AllByRecursion}
use Rattle.std.specs.Str.{bytes_eq}
use Rattle.unix_path.specs.Parts.{is_slash, cur_dir, parent_dir}
use Rattle.unix_path.specs.Parts.{Value, RootDir, CurDir, ParentDir, Normal}

-- the bytes are a name: they are not empty, have no slash, and are neither `.` nor `..`
pub record IsName (name : List ℕ) : Type 0 where
  pub some : bytes_eq name [] ≡ false
  pub no_slash : AllByRecursion (λ b. is_slash b ≡ false) name
  pub no_dot : bytes_eq name cur_dir ≡ false
  pub no_up : bytes_eq name parent_dir ≡ false

-- v may be the first component of a path if `first` is true, and a later one otherwise: only the
-- first may be a root or a `.`
abbrev pub Fits : Bool → Value → Type 0
Fits first RootDir = first ≡ true
Fits first CurDir = first ≡ true
Fits first ParentDir = Unit {0}
Fits first (Normal name) = IsName name

-- these may be all components of a path if `first` is true, and the components after others
-- otherwise
abbrev pub AllFit : Bool → List Value → Type 0
AllFit first [] = Unit {0}
AllFit first (v ∷ vs) = Fits first v × AllFit false vs
