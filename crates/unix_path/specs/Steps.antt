-- Definitions for contracts of private functions. No public clause cites them.
use Rattle.std.specs.Prelude.{◌≡◌, ◌<◌, ◌≤◌, ℕ, ◌+◌, ◌-◌, ◌==◌, Bool, ◌||◌}
use Rattle.std.specs.Prelude.{List, ◌++◌, length, drop, map, slice_index}
use Rattle.std.specs.Prelude.{slice_index_or, slice_range, if◌then◌else◌}
use Rattle.std.specs.declared.cmp.Ordering.{Ordering}
use Rattle.std.proofs.Props.{props}
use Rattle.unix_path.specs.CommonDir.{inner_values}
use Rattle.unix_path.specs.Order.{values_cmp}
use Rattle.unix_path.specs.Parts.{slash, dot, Part, inner_parts, parts, values}
use Rattle.unix_path.specs.Prefixes.{IsPrefixOf}
use Rattle.unix_path.specs.Scan.{is_filler, EndsInPart}

-- the byte of s at i, plus 1; or 0 if s has a slash or its end at i, so that a piece ends there
abbrev pub piece_rank : List ℕ → ℕ → ℕ
piece_rank s i = let b = slice_index_or s i slash in if b == slash then 0 else 1 + b

-- a piece of s begins at i: i is 0, or the byte before i is a slash
abbrev pub is_piece_start : List ℕ → ℕ → Bool
is_piece_start s i = i == 0 || slice_index s (i - 1) == slash

-- the first difference of a and b, at byte n, is at the beginning of their first components: n is
-- 0, or n is 1 and both begin with a dot; and if both have the same `piece_rank` at n, n is 0
pub record DiffersAtStart (a b : List ℕ) (n : ℕ) : Type 0 where
  pub near : n ≤ 1
  pub dot : 0 < n → slice_index a 0 ≡ dot
  pub at_ends : piece_rank a n ≡ piece_rank b n → n ≡ 0

-- a and b begin with the same components, and x and y are their rests after these components; the
-- rests may begin with filler
pub record SharesPrefix (a b x y : List ℕ) : Type 0 where
  pub shared : List Part
  pub at : ℕ
  pub is : x ≡ drop at a
  pub first : parts a ≡ shared ++ inner_parts at x
  pub second : values b ≡ map (λ p. p.value) shared ++ inner_values y

-- a does not start with b, and `order` is the order of the paths a and b
pub record AreApart (a b : List ℕ) (order : Ordering) : Type 0 where
  pub order_is : order ≡ values_cmp (values a) (values b)
  pub no_prefix : IsPrefixOf (values b) (values a) → ⊥

-- how the fields of a walk are related: the bytes that remain lie between the two indices and end
-- in a component, and the flags show whether the source, and the bytes that remain, begin with the
-- root or a leading `.`
pub record WalkFields (source : List ℕ) (start end : ℕ) (has_lead lead_pending : Bool) : Type 0
  where
    pub in_order : start ≤ end
    pub in_range : end ≤ length source
    pub ends : EndsInPart (slice_range source start end)
    pub has_lead_is : has_lead ≡ is_filler source 0
    pub lead_pending_is : lead_pending ≡ is_filler (slice_range source start end) 0

-- how the fields of a walk are related, as one fact that the prover's search does not unfold
unfoldable pub IsWalk : List ℕ → ℕ → ℕ → Bool → Bool → Type 0
IsWalk source start end has_lead lead_pending = WalkFields source start end has_lead lead_pending

-- `IsWalk` has no more than one proof
pub IsWalk-prop : (source : List ℕ) (start end : ℕ) (has_lead lead_pending : Bool)
    → IsProp (IsWalk source start end has_lead lead_pending)
unfolding IsWalk
IsWalk-prop source start end has_lead lead_pending = hlevel props
