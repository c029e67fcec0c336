-- One more turn of a walk.
use Rattle.std.proofs.Common.{◌≡◌, ℕ, ◌+◌, ◌<◌, length, List, [], ◌∷◌, ◌++◌, map}
use Rattle.std.proofs.Common.{take, get_or, refl, ap, arith}
use Rattle.std.proofs.Common.{length-append, append_assoc, add-zero, append-nil, Option}
use Rattle.std.proofs.Common.{Some, None, MatchOption}
use Rattle.std.specs.Iterator.{YieldsFirstBy, YieldsLastBy}
use Rattle.std.specs.Option.{option_to_list}
use Rattle.std.proofs.lemmas.List.{length-take, take-take, reverse-append}
use Rattle.unix_path.specs.Parts.{Value, values}
use Rattle.unix_path.specs.Rest.{rest}
use Rattle.unix_path.proofs.lemmas.parts.PartLemmas.{values-none}
use Rattle.unix_path.proofs.lemmas.rests.RestLemmas.{rest-rest}
use Rattle.path_runs.specs.declared.walk.Turn.{Turn}
use Rattle.path_runs.specs.declared.walk.Turn.TheVariants.{Front, Back}
use Rattle.path_runs.proofs.lemmas.walks.WalkLemmas.{HasWalked, length-remaining}
use Rattle.std.proofs.lemmas.Grind.{common_steps}

-- if a component remains after the first i of more than i turns, i is less than the number of
-- components of s
in_time : {s : List ℕ} {ts : List Turn} {i : ℕ} {front behind : List Value} {remaining : List ℕ}
    → HasWalked s ts i front remaining behind → i < length ts → 0 < length (values remaining)
    → i < length (values s)
in_time {s} {ts} {i} h l some =
    grind (arith, length-remaining h, length-take (length (values s)) (take i ts), length-take i ts)

-- if the first i turns have taken `front` and `behind` (`HasWalked`), turn i is at the front, and
-- its call of `next` returned `item` and left `after`, then the first i + 1 turns have taken
-- `front` followed by the component of `item`, if any, and `behind`, and have left `after`
pub HasWalked-front : {A : Type 0} (shows : A → Value) (s : List ℕ) (ts : List Turn) (i : ℕ)
    (front : List Value) (remaining : List ℕ) (behind : List Value) (item : Option A)
    (after : List ℕ)
    → HasWalked s ts i front remaining behind → i < length ts → get_or ts i Front ≡ Front
    → MatchOption item ((values remaining ≡ []) × (values after ≡ []))
    (λ x. values remaining ≡ shows x ∷ values after)
    → after ≡ rest remaining 1 0
    → HasWalked s ts (i + 1) (front ++ map shows (option_to_list item)) after behind
HasWalked-front shows s ts i front remaining behind None after h l turn gives leaves =
    grind (arith, common_steps, append-nil, length-remaining, length-take, take-take, values-none)
HasWalked-front shows s ts i front remaining behind (Some x) after h l turn gives leaves =
    grind (arith, common_steps, in_time, length-append, append_assoc, rest-rest, add-zero)

-- if the first i turns have taken `front` and `behind` (`HasWalked`), turn i is at the back, and
-- its call of `next_back` returned `item` and left `after`, then the first i + 1 turns have taken
-- `front`, and `behind` followed by the component of `item`, if any, and have left `after`
pub HasWalked-back : {A : Type 0} (shows : A → Value) (s : List ℕ) (ts : List Turn) (i : ℕ)
    (front : List Value) (remaining : List ℕ) (behind : List Value) (item : Option A)
    (after : List ℕ)
    → HasWalked s ts i front remaining behind → i < length ts → get_or ts i Front ≡ Back
    → MatchOption item ((values remaining ≡ []) × (values after ≡ []))
    (λ x. values remaining ≡ values after ++ shows x ∷ [])
    → after ≡ rest remaining 0 1
    → HasWalked s ts (i + 1) front after (behind ++ map shows (option_to_list item))
HasWalked-back shows s ts i front remaining behind None after h l turn gives leaves =
    grind (arith, common_steps, append-nil, length-remaining, length-take, take-take, values-none)
HasWalked-back shows s ts i front remaining behind (Some x) after h l turn gives leaves =
    let n = length (values s) in
    let v = shows x in
    let early =
    in_time h l (omega (arith, ap length gives, length-append (values after) (v ∷ []))) in
    let size = length-append behind (v ∷ []) in
    grind (arith, common_steps, reverse-append, append_assoc, rest-rest, add-zero)

-- if nothing remains of the walk s, a call of `next` returns no item
pub none_before : {S A V : Type 0} (shows : A → V) (remaining : S → List V) (s t : S)
    (item : Option A) → YieldsFirstBy shows remaining s item t → remaining s ≡ [] → item ≡ None
none_before shows remaining s t None h none = refl
none_before shows remaining s t (Some x) h none = cc

-- if nothing remains of the walk s, a call of `next_back` returns no item
pub none_after : {S A V : Type 0} (shows : A → V) (remaining : S → List V) (s t : S)
    (item : Option A) → YieldsLastBy shows remaining s item t → remaining s ≡ [] → item ≡ None
none_after shows remaining s t None h none = refl
none_after shows remaining s t (Some x) h none =
    grind (arith, length-append (remaining t) (shows x ∷ []))
