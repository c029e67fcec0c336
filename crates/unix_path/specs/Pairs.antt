-- Definitions for comparing two paths. No public clause cites them.
use Rattle.std.specs.Prelude.{◌≡◌, ◌<◌, ℕ, List, [], false, length}
use Rattle.std.specs.Borrow.{Bor}
use Rattle.unix_path.specs.Slices.{IsTail}
use Rattle.unix_path.specs.Scan.{is_filler}
use Rattle.unix_path.specs.Steps.{AreApart, DiffersAtStart, SharesPrefix}
use Rattle.unix_path.specs.declared.pair.Difference.{Difference}
use Rattle.unix_path.specs.declared.pair.Difference.TheVariants.{Decided, FirstComponents}
use Rattle.unix_path.specs.declared.pair.Difference.TheVariants.{CutBefore}
use Rattle.unix_path.specs.declared.pair.Comparison.{Comparison}
use Rattle.unix_path.specs.declared.pair.Comparison.TheVariants.{Differs, StartsWith}

-- x and y are the rests of a and b after a cut; x is a suffix of a, in the same memory, and shorter
-- than a
pub record Cuts (a : Bor (List ℕ)) (b : List ℕ) (x : Bor (List ℕ)) (y : List ℕ) : Type 0 where
  pub shares : SharesPrefix a.now b x.now y
  pub shorter : length x.now < length a.now
  pub tail : IsTail x a

-- what a `Difference` says of a and b, whose first difference is at n
abbrev pub DifferenceShows : Bor (List ℕ) → List ℕ → ℕ → Difference → Type 0
DifferenceShows a b n (Decided order) = AreApart a.now b order
DifferenceShows a b n FirstComponents = DiffersAtStart a.now b n
DifferenceShows a b n (CutBefore x y) = Cuts a b x y.now

-- for any two paths whose rests after a cut are a and b, `rest_bytes` is the rest of the first path
-- after the second
pub record IsRest (a : Bor (List ℕ)) (b : List ℕ) (rest_bytes : Bor (List ℕ)) : Type 0 where
  pub shares : (s t : List ℕ) → SharesPrefix s t a.now b → SharesPrefix s t rest_bytes.now []
  pub tail : IsTail rest_bytes a

-- what the result of a comparison says of any two paths s and t whose rests after a cut are a and b
abbrev pub Compared : Bor (List ℕ) → List ℕ → Comparison → Type 0
Compared a b (Differs order) = (s t : List ℕ) → SharesPrefix s t a.now b → AreApart s t order
Compared a b (StartsWith rest_bytes) = IsRest a b rest_bytes × (is_filler rest_bytes.now 0 ≡ false)
