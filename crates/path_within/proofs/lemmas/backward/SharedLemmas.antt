-- The components that two lists both begin with, found from the last to the first.
use Rattle.std.proofs.Common.{◌≡◌, ℕ, suc, ◌+◌, ◌-◌, min, Bool, cond, true, false, List, [], ◌∷◌}
use Rattle.std.proofs.Common.{◌++◌, length, drop, refl, sym, ap, ap₂, ◌∙◌, arith, append_assoc}
use Rattle.std.proofs.Common.{drop_at, length-append, eqb, eqb-true, ltb, ltb-true, ltb-false}
use Rattle.std.proofs.Common.{map, subst}
use Rattle.std.specs.Str.{bytes_eq}
use Rattle.std.proofs.lemmas.Bool.{false_from_ne_true, eqb-false}
use Rattle.std.proofs.lemmas.Slice.Eq.{bytes_eq-Decides}
use Rattle.unix_bytes.proofs.lemmas.lists.ListLemmas.{by_test, drop-suc_cons}
use Rattle.unix_path.proofs.lemmas.callers.CallerLemmas.{same_value-Decides, shares-common_dir}
use Rattle.std.proofs.lemmas.List.{get_or_default, get_or_past, map-append}
use Rattle.unix_path.specs.CommonDir.{common_dir_of, inner_values}
use Rattle.unix_path.specs.Parts.{dot, slash, Part, inner_parts, Value, Normal, value_bytes}
use Rattle.unix_path.specs.Parts.{values}
use Rattle.unix_path.specs.Scan.{is_filler}
use Rattle.unix_path.specs.Steps.{SharesPrefix}
use Rattle.unix_path.proofs.lemmas.filler.FillerLemmas.{is_filler-drop, values-not_filler}
use Rattle.unix_path.proofs.lemmas.parts.PlaceLemmas.{values-inner_parts}
use Rattle.path_within.specs.Backward.{last_names}
use Rattle.path_within.specs.Below.{names_below}
use Rattle.unix_path.specs.NameRunEnds.{no_name_starts_at}
use Rattle.path_within.proofs.lemmas.stack.PathOfLemmas.{ReadsAsItself-values}
use Rattle.unix_path.specs.Order.{same_value}
use Rattle.path_within.specs.WrittenBytes.{slashed_len}
use Rattle.path_within.proofs.lemmas.below.BoundLemmas.{slashed_len-cons}
use Rattle.path_within.proofs.lemmas.stack.BetweenLemmas.{shared_count, shared_count-behind}
use Rattle.std.proofs.Math.Seq.{drop-append-add}
use Rattle.path_within.proofs.lemmas.backward.PutLemmas.{slashed_len-push}

-- the state while `all_first` and `all_second` are compared from their ends. Of both lists as many
-- components remain, `remaining_count`: `first` and `second`. If these are equal, both lists begin
-- with `shared` equal components, and `len` is the length of the second list's components after
-- them. `behind` is the length of the components taken from the second list. Both lengths have a
-- slash for each component
pub record Shares (all_first all_second first second : List Value)
    (remaining_count shared behind len : ℕ)
    : Type 0 where
  pub first_taken : List Value
  pub second_taken : List Value
  pub first_is : all_first ≡ first ++ first_taken
  pub second_is : all_second ≡ second ++ second_taken
  pub first_size : length first ≡ remaining_count
  pub second_size : length second ≡ remaining_count
  pub shared_is : shared ≡ remaining_count + shared_count first_taken second_taken
  pub behind_is : behind ≡ slashed_len second_taken
  pub len_is : len ≡ slashed_len (drop (shared_count first_taken second_taken) second_taken)

-- the last `count` components of `all` are taken, and `rest` remain; `len` is the length of the
-- taken components, with a slash for each
pub record TakesLast (all rest : List Value) (count len : ℕ) : Type 0 where
  pub taken : List Value
  pub all_is : all ≡ rest ++ taken
  pub count_is : length taken ≡ count
  pub len_is : len ≡ slashed_len taken

-- the last n of the names that remain of vs are the names that are taken
pub takes_last_names : (vs : List Value) {rest : List Value} {count len : ℕ}
    → TakesLast (names_below vs) rest count len
    → (names_below vs ≡ rest ++ last_names count vs) × (len ≡ slashed_len (last_names count vs))
takes_last_names vs {rest} {count} h =
    let last : last_names count vs ≡ h.taken =
    ap (λ ns. drop (length ns - count) ns) h.all_is
    ∙ drop_at rest h.taken (length (rest ++ h.taken) - count)
    (omega (arith, length-append rest h.taken, h.count_is)) in
    (h.all_is ∙ ap (λ ns. rest ++ ns) (sym last), h.len_is ∙ ap slashed_len (sym last))

-- taking the last remaining component v too adds one to the number of components taken, and adds
-- the length of v and a slash to their length
pub takes_last : {all remaining vs : List Value} {count len : ℕ} (v : Value)
    → TakesLast all remaining count len → remaining ≡ vs ++ v ∷ []
    → TakesLast all vs (count + 1) (len + (1 + length (value_bytes v)))
takes_last {vs = vs} v h e = grind (arith, append_assoc, slashed_len-cons)

-- after v and w, the last remaining components of the two lists, are taken, `Shares` is still true:
-- if v and w are equal, `shared` and `len` stay, and otherwise only components before v and w can
-- be shared
pub shares_taken : {all_first all_second first second vs ws : List Value}
    {remaining_count shared behind len : ℕ} (b : Bool) (v w : Value)
    → Shares all_first all_second first second remaining_count shared behind len
    → first ≡ vs ++ v ∷ [] → second ≡ ws ++ w ∷ [] → same_value v w ≡ b
    → (let now = behind + (1 + length (value_bytes w)) in Shares all_first all_second vs ws
    (remaining_count - 1) (cond b shared (remaining_count - 1)) now (cond b len now))
shares_taken {vs = vs} {ws = ws} {remaining_count} {shared} {behind} {len} b v w h e f same =
    grind (arith, append_assoc, length-append, slashed_len-cons, drop-suc_cons)

-- two components that are equal if their bytes are equal can be compared by their bytes
by_bytes : (x y : Value) → (value_bytes x ≡ value_bytes y → x ≡ y)
    → same_value x y ≡ bytes_eq (value_bytes x) (value_bytes y)
by_bytes x y h = grind (arith, same_value-Decides, bytes_eq-Decides, false_from_ne_true)

-- names can be compared by their bytes
pub same_bytes : (a b : List ℕ) → same_value (Normal a) (Normal b) ≡ bytes_eq a b
same_bytes a b = by_bytes (Normal a) (Normal b) (ap Normal)

-- the first components of two paths are equal if and only if their bytes are equal
pub same_first : (s t : List ℕ) {x y : Value} {remaining other_remaining : List Value} → values s
    ≡ x ∷ remaining
    → values t ≡ y ∷ other_remaining → same_value x y ≡ bytes_eq (value_bytes x) (value_bytes y)
same_first s t {x} {y} e f = grind (arith, ReadsAsItself-values, by_bytes)

-- if two lists begin with the same component, the rests of the lists after their common prefix are
-- the rests of their tails after the common prefix of the tails
pub drop_shared : {v w remaining other_remaining : List Value} {x y : Value} → v ≡ x ∷ remaining → w
    ≡ y ∷ other_remaining
    → same_value x y ≡ true
    → (drop (shared_count remaining other_remaining) remaining ≡ drop (shared_count v w) v)
    × (drop (shared_count remaining other_remaining) other_remaining ≡ drop (shared_count v w) w)
drop_shared {remaining = remaining} {other_remaining = other_remaining} {x = x} {y = y} e f same =
    let n = shared_count remaining other_remaining in
    let more : shared_count (x ∷ remaining) (y ∷ other_remaining) ≡ suc n = rw same (omega arith) in
    grind arith

-- two lists that begin with different components share none
pub none_shared : {v w remaining other_remaining : List Value} {x y : Value} → v ≡ x ∷ remaining → w
    ≡ y ∷ other_remaining
    → same_value x y ≡ false → shared_count v w ≡ 0
none_shared {v} {w} e f other = ap₂ shared_count e f ∙ rw other refl

-- an empty list shares no component with another list
pub none_shared_if_first_empty : {v : List Value} (w : List Value) → v ≡ [] → shared_count v w ≡ 0
none_shared_if_first_empty w e = ap (λ v. shared_count v w) e

pub none_shared_if_second_empty : {w : List Value} (v : List Value) → w ≡ [] → shared_count v w ≡ 0
none_shared_if_second_empty v e = ap (shared_count v) e ∙ by v
  where
    by : (v : List Value) → shared_count v [] ≡ 0
    by [] = refl
    by (x ∷ v) = refl

-- ---- two paths that begin with the same bytes

-- if a name starts at index n of s, no filler starts there
not_filler_at_name : (s : List ℕ) (n : ℕ) → no_name_starts_at slash dot s n ≡ false
    → is_filler (drop n s) 0 ≡ false
not_filler_at_name s n h =
    grind (arith, is_filler-drop, get_or_default, ltb-true, get_or_past, ltb-false)

-- s and t both begin with the components `shared`; the further components of each string are those
-- of its bytes from `index` on
pub record SharePrefix (s t : List ℕ) (index : ℕ) : Type 0 where
  pub shared : List Value
  pub first : values s ≡ shared ++ values (drop index s)
  pub second : values t ≡ shared ++ values (drop index t)

-- if n is the end of the common directory of s and t, and a name starts at index n in both, then s
-- and t have the same components up to n
pub share_prefix : (s t : List ℕ) (n : ℕ) → n ≡ common_dir_of s t
    → no_name_starts_at slash dot s n ≡ false → no_name_starts_at slash dot t n ≡ false
    → SharePrefix s t n
unfolding values
share_prefix s t n e first second = by_test (eqb n 0)
    (λ z. subst (SharePrefix s t) (sym (eqb-true n 0 z))
    (record { shared = []; first = refl; second = refl }))
    (λ z.
    let cut = subst (λ k. SharesPrefix s t (drop k s) (drop k t)) (sym e)
    (shares-common_dir s t (omega (arith, e, eqb-false n 0 z))) in
    let own : (u : List ℕ) → no_name_starts_at slash dot u n ≡ false
    → inner_values (drop n u) ≡ values (drop n u) =
    λ u h. sym (values-not_filler (drop n u) (not_filler_at_name u n h)) in
    record {
      shared = map (λ (p : Part). p.value) cut.shared;
      first = ap (map (λ (p : Part). p.value)) cut.first
          ∙ map-append (λ (p : Part). p.value) cut.shared (inner_parts cut.at (drop n s))
          ∙ ap (λ vs. map (λ (p : Part). p.value) cut.shared ++ vs)
          (values-inner_parts cut.at (drop n s) ∙ own s first);
      second = cut.second ∙ ap (λ vs. map (λ (p : Part). p.value) cut.shared ++ vs) (own t second);
    })

-- if two paths have the same components up to index n, the rests of the paths after their common
-- prefix are the rests of their bytes from n on, after the common prefix of those bytes' components
pub after_shared_end : {u v : List ℕ} (s t : List ℕ) {n : ℕ} → SharePrefix s t n → u ≡ drop n s
    → v ≡ drop n t
    → (drop (shared_count (values u) (values v)) (values u)
    ≡ drop (shared_count (values s) (values t)) (values s))
    × (drop (shared_count (values u) (values v)) (values v)
    ≡ drop (shared_count (values s) (values t)) (values t))
after_shared_end {u} {v} s t h e f =
    grind (arith, shared_count-behind, drop-append-add)

pub ruleset skip_last_names_cases = (length-append, takes_last, takes_last_names, slashed_len-push)
