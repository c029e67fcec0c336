-- The results of a walk, as an answer.
use Rattle.std.proofs.Common.{◌≡◌, ℕ, false, true, ◌≤◌, List, [], ◌∷◌, ◌++◌, map, length}
use Rattle.std.proofs.Common.{refl, sym, ap, ap₂, ◌∙◌, append_assoc, take, reverse}
use Rattle.std.proofs.Common.{arith, is_some}
use Rattle.std.proofs.lemmas.List.{length-map, length-take-le, length-take}
use Rattle.std.proofs.lemmas.List.{take-map, map-append, reverse-append}
use Rattle.std.proofs.lemmas.List.{length-reverse}
use Rattle.std.proofs.lemmas.Simd.{map-map}
use Rattle.std.proofs.lemmas.List.Sums.{count_by-le-length}
use Rattle.std.specs.Fmt.{decimal}
use Rattle.std.specs.List.{filter_map, list_all}
use Rattle.unix_path.specs.Parts.{Value, values, value_bytes}
use Rattle.unix_path.specs.Rest.{rest}
use Rattle.unix_path.specs.Views.{value_of}
use Rattle.unix_path.specs.declared.cursor.component.Component.{Component}
use Rattle.path_runs.specs.Turns.{is_front, front_turns, back_turns}
use Rattle.path_runs.proofs.lemmas.walks.WalkLemmas.{is_back}
use Rattle.path_runs.specs.declared.walk.Turn.{Turn}
use Rattle.path_runs.specs.declared.walk.Walked.{Walked}
use Rattle.pathtool.specs.Fields.{tabs, bad_command}
use Rattle.pathtool.specs.Steps.{tab}
use Rattle.pathtool.specs.Walks.{part_bytes, turn_of, walk_items, walk_answer}

-- the bytes of each component
abbrev pub components_bytes : List Component → List (List ℕ)
components_bytes parts = map (λ part. value_bytes (value_of part)) parts

-- the results of a walk, as items: the two numbers of components taken, the components from the
-- front, the rest, and the components from the back
abbrev pub walked_items : Walked → List (List ℕ)
walked_items walked =
    decimal (length walked.front.items) ∷ decimal (length walked.behind.items)
    ∷ (components_bytes walked.front.items
    ++ walked.rest.bytes.now ∷ components_bytes walked.behind.items)

-- a list of two or more items, joined by tabs, is the first item, a tab, and the other items joined
-- by tabs
tabs-cons : (item : List ℕ) (xs : List (List ℕ)) (y : List ℕ) (ys : List (List ℕ))
    → tabs (item ∷ (xs ++ y ∷ ys)) ≡ item ++ tab ∷ tabs (xs ++ y ∷ ys)
tabs-cons item [] y ys = refl
tabs-cons item (x ∷ xs) y ys = refl

-- two counts, each followed by a tab, and then the other items joined by tabs, are all these items
-- joined by tabs
pub tabs-counted : (k m : List ℕ) (front : List (List ℕ)) (rest : List ℕ)
    (behind : List (List ℕ))
    → (((k ++ tab ∷ []) ++ m) ++ tab ∷ []) ++ tabs ((front ++ rest ∷ []) ++ behind)
    ≡ tabs (k ∷ m ∷ (front ++ rest ∷ behind))
tabs-counted k m front rest behind =
    let more = tabs (front ++ rest ∷ behind) in
    ap (λ items. (((k ++ tab ∷ []) ++ m) ++ tab ∷ []) ++ tabs items)
    (append_assoc front (rest ∷ []) behind)
    ∙ append_assoc ((k ++ tab ∷ []) ++ m) (tab ∷ []) more
    ∙ append_assoc (k ++ tab ∷ []) m (tab ∷ more) ∙ append_assoc k (tab ∷ []) (m ++ tab ∷ more)
    ∙ ap (λ more. k ++ tab ∷ more) (sym (tabs-cons m front rest behind))

-- if a count i and a tab were appended to `old`, and then a count j and a tab, all of this was
-- appended to `old`; i is n, and j is m
pub counts_after : {mid new : List ℕ} {i j n m : ℕ} (old : List ℕ) → i ≡ n → j ≡ m
    → mid ≡ (old ++ decimal i) ++ tab ∷ [] → new ≡ (mid ++ decimal j) ++ tab ∷ []
    → new ≡ old ++ (((decimal n ++ tab ∷ []) ++ decimal m) ++ tab ∷ [])
counts_after {mid} {new} {i} {j} {n} {m} old same other first second =
    second ∙ ap (λ bytes. (bytes ++ decimal j) ++ tab ∷ [])
    (first ∙ append_assoc old (decimal i) (tab ∷ []))
    ∙ ap (λ bytes. bytes ++ tab ∷ []) (append_assoc old (decimal i ++ tab ∷ []) (decimal j))
    ∙ append_assoc old ((decimal i ++ tab ∷ []) ++ decimal j) (tab ∷ [])
    ∙ ap₂ (λ i j. old ++ (((decimal i ++ tab ∷ []) ++ decimal j) ++ tab ∷ [])) same other

-- at most n of the first n turns are at the front
pub front_turns-le : (n : ℕ) (turns : List Turn) → front_turns n turns ≤ n
front_turns-le n turns =
    omega (arith, count_by-le-length is_front (take n turns), length-take n turns)

pub back_turns-le : (n : ℕ) (turns : List Turn) → back_turns n turns ≤ n
back_turns-le n turns =
    omega (arith, count_by-le-length is_back (take n turns), length-take n turns)

reverse-map : {X Y : Type 0} (f : X → Y) (xs : List X) → reverse (map f xs) ≡ map f (reverse xs)
reverse-map f [] = refl
reverse-map f (x ∷ xs) =
    reverse-append (f x ∷ []) (map f xs) ∙ ap (λ front. front ++ f x ∷ []) (reverse-map f xs)
    ∙ sym (ap (map f) (reverse-append (x ∷ []) xs) ∙ map-append f (reverse xs) (x ∷ []))

components_bytes-taken : (parts : List Component) (k : ℕ) (vs : List Value)
    → map value_of parts ≡ take k vs → components_bytes parts ≡ take k (map value_bytes vs)
components_bytes-taken parts k vs e =
    sym (map-map value_bytes value_of parts) ∙ ap (map value_bytes) e
    ∙ sym (take-map value_bytes k vs)

length-taken : (parts : List Component) (k : ℕ) (vs : List Value) → k ≤ length vs
    → map value_of parts ≡ take k vs → length parts ≡ k
length-taken parts k vs l e =
    sym (length-map parts value_of) ∙ ap length e ∙ length-take-le k vs l

-- if a walk over `path` took the components that `turns` take from each end, and left the rest that
-- they leave, the items of its results are the items of the answer to `turns`
pub walked_items-walk_items : (path : List ℕ) (turns : List Turn) (walked : Walked)
    → let n = length (values path) in
    map value_of walked.front.items ≡ take (front_turns n turns) (values path)
    → walked.rest.bytes.now ≡ rest path (front_turns n turns) (back_turns n turns)
    → map value_of walked.behind.items ≡ take (back_turns n turns) (reverse (values path))
    → walked_items walked ≡ walk_items path turns
walked_items-walk_items path turns walked f r b =
    let vs = values path in
    let n = length vs in
    let k = front_turns n turns in
    let m = back_turns n turns in
    let few = front_turns-le n turns in
    let few_behind : m ≤ length (reverse vs) =
    omega (arith, back_turns-le n turns, length-reverse vs) in
    let fronts = length-taken walked.front.items k vs few f in
    let backs = length-taken walked.behind.items m (reverse vs) few_behind b in
    let behind = components_bytes-taken walked.behind.items m (reverse vs) b
    ∙ ap (take m) (sym (reverse-map value_bytes vs)) in
    ap₂ (λ i j. decimal i ∷ decimal j ∷ (components_bytes walked.front.items
    ++ walked.rest.bytes.now ∷ components_bytes walked.behind.items)) fronts backs
    ∙ ap₂ (λ front left. decimal k ∷ decimal m ∷ (front ++ left
    ∷ components_bytes walked.behind.items)) (components_bytes-taken walked.front.items k vs f) r
    ∙ ap (λ behind. decimal k ∷ decimal m ∷ (take k (part_bytes path) ++ rest path k m ∷ behind))
    behind
    ∙ ap (λ n. let k = front_turns n turns in let m = back_turns n turns in
    decimal k ∷ decimal m ∷ (take k (part_bytes path) ++ rest path k m
    ∷ take m (reverse (part_bytes path)))) (sym (length-map vs value_bytes))

pub walk_answer-bad : (path letters : List ℕ)
    → list_all (λ letter. is_some (turn_of letter)) letters ≡ false
    → bad_command ≡ walk_answer path letters
walk_answer-bad path letters e = rw e refl

pub walk_answer-turns : (path letters : List ℕ)
    → list_all (λ letter. is_some (turn_of letter)) letters ≡ true
    → tabs (walk_items path (filter_map turn_of letters)) ≡ walk_answer path letters
walk_answer-turns path letters e = rw e refl
