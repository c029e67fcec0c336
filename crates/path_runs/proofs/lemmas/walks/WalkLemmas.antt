-- The components that a walk has taken after some of its turns, and the rest.
use Rattle.std.proofs.Common.{◌≡◌, ℕ, ◌+◌, cond, length, List, [], ◌∷◌, ◌++◌, take, reverse, refl}
use Rattle.std.proofs.Common.{arith, length-append, Bool, not}
use Rattle.std.specs.List.{count_by}
use Rattle.std.proofs.lemmas.List.{length-reverse}
use Rattle.std.proofs.lemmas.List.Sums.{sum_by-cons}
use Rattle.unix_path.specs.Parts.{Value, values}
use Rattle.unix_path.specs.Rest.{rest}
use Rattle.path_runs.specs.Turns.{is_front, front_turns, back_turns}
use Rattle.path_runs.specs.declared.walk.Turn.{Turn}
use Rattle.path_runs.specs.declared.walk.Turn.TheVariants.{Front, Back}

-- the turn takes the last component of the rest
abbrev pub is_back : Turn → Bool
is_back turn = not (is_front turn)

-- the first i turns have taken the components `front` from the front of s, and `behind` from the
-- back, in the order taken; `remaining` is the rest of s
pub record HasWalked (s : List ℕ) (turns : List Turn) (i : ℕ) (front : List Value)
    (remaining : List ℕ)
    (behind : List Value) : Type 0 where
  pub whole : front ++ values remaining ++ reverse behind ≡ values s
  pub remaining_is : remaining ≡ rest s (length front) (length behind)
  pub fronts : length front ≡ front_turns (length (values s)) (take i turns)
  pub backs : length behind ≡ back_turns (length (values s)) (take i turns)

-- each turn is at the front or at the back
one_turn : (t : Turn) → cond (is_front t) 1 0 + cond (is_back t) 1 0 ≡ 1
one_turn Front = refl
one_turn Back = refl

-- the number of turns of ts at the front and the number at the back add up to the length of ts
turns_total : (ts : List Turn) → count_by is_front ts + count_by is_back ts ≡ length ts
turns_total [] = refl
turns_total (t ∷ ts) =
    let fronts = sum_by-cons (λ t. cond (is_front t) 1 0) t ts in
    let backs = sum_by-cons (λ t. cond (is_back t) 1 0) t ts in
    omega (arith, one_turn t, turns_total ts, fronts, backs)

-- if s has n components, the number of components that remain after the first i turns, plus the
-- number of these turns, or n if there are more than n, is n
pub length-remaining : {s : List ℕ} {ts : List Turn} {i : ℕ} {front behind : List Value}
    {remaining : List ℕ}
    → HasWalked s ts i front remaining behind
    → length (values remaining) + length (take (length (values s)) (take i ts)) ≡ length (values s)
length-remaining {s} {ts} {i} {front} {behind} {remaining} h =
    grind (arith, length-append, length-reverse, turns_total)
