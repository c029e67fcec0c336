-- The last component of a string, by its last bytes.
use Rattle.std.proofs.Common.{◌≡◌, ℕ, zero, suc, ◌+◌, ◌-◌, ◌<◌, true, false, ◌||◌, ◌≤◌, take, subst}
use Rattle.std.proofs.Common.{eqb, ltb, List, [], ◌∷◌, length, get_or, drop, refl, ap}
use Rattle.std.proofs.Common.{ap₂, ◌∙◌, ⊎_elim, arith, eqb-true}
use Rattle.std.specs.Str.{bytes_eq}
use Rattle.std.proofs.lemmas.Bool.{or_cases, and_parts}
use Rattle.std.proofs.lemmas.List.{drop_all, drop_more}
use Rattle.std.proofs.lemmas.Slice.Eq.{bytes_eq-Decides}
use Rattle.std.proofs.lemmas.Grind.{common_steps}
use Rattle.unix_path.proofs.lemmas.steps.LastLemmas.{last_is_significant}
pub use Rattle.unix_path.proofs.lemmas.steps.LastLemmas.{IsLastStart}
use Rattle.unix_path.specs.Parts.{CurDir, ParentDir, Normal, cur_dir, parent_dir, parts}
use Rattle.unix_path.specs.Scan.{ends_with_parent_dir, EndsInPart, is_trailing}
use Rattle.unix_path.proofs.lemmas.steps.StepLemmas.{TakesLast}
use Rattle.unix_path.proofs.lemmas.parts.ValueLemmas.{first_value}
use Rattle.unix_path.proofs.lemmas.steps.StepLemmas.{takes_last}

-- if the last piece of s has two bytes, it is all of s or comes after a slash
is_piece_start : (s : List ℕ) (start : ℕ) → IsLastStart s start → length s ≡ start + 2
    → (eqb (length s) 2 || eqb (get_or s (length s - 3) 0) 47) ≡ true
is_piece_start s zero h n = rw n refl
is_piece_start s (suc k) h n = grind arith

-- if `ends_with_parent_dir s` is false, the last piece of s isn't `..`
no_parent_piece : (s : List ℕ) (start : ℕ) → IsLastStart s start → start < length s
    → ends_with_parent_dir s ≡ false → bytes_eq (drop start s) parent_dir ≡ false
no_parent_piece s start h l no_parent = grind (arith, common_steps)

-- if s ends in a component and isn't `.`, and the last piece of s is neither empty nor `..`, then
-- this piece is a name
pub last_name : (s : List ℕ) (start : ℕ) → IsLastStart s start → start < length s → EndsInPart s
    → bytes_eq s cur_dir ≡ false → ends_with_parent_dir s ≡ false
    → first_value (drop start s) ≡ Normal (drop start s)
last_name s start h l ends no_dot no_parent = grind (arith, no_parent_piece, last_is_significant)

-- if s ends in a component, its last piece is neither empty nor `.` nor `..`, and the first n bytes
-- of s are the bytes before this piece without trailing filler, then removing the last component of
-- s, a name, leaves these n bytes
pub takes_last_name : (s : List ℕ) (start n : ℕ) → IsLastStart s start → start < length s
    → EndsInPart s → bytes_eq s cur_dir ≡ false → ends_with_parent_dir s ≡ false → n ≤ start
    → parts (take n s) ≡ parts (take start s) → (0 < n → is_trailing s (n - 1) ≡ false)
    → TakesLast s (take n s) (Normal (drop start s))
takes_last_name s start n h l ends no_dot no_parent before same trimmed =
    subst (TakesLast s (take n s)) (last_name s start h l ends no_dot no_parent)
    (takes_last s start n h l ends before same trimmed)

-- if the last piece of s is `..`, s has at least two bytes
pub length-with_parent : (s : List ℕ) → ends_with_parent_dir s ≡ true → 1 < length s
length-with_parent s e = grind arith

-- if `ends_with_parent_dir s` is true, the last piece of s is `..`, and begins two bytes before the
-- end of s
pub starts_parent : (s : List ℕ) → ends_with_parent_dir s ≡ true
    → IsLastStart s (length s - 2) × (first_value (drop (length s - 2) s) ≡ ParentDir)
starts_parent s e =
    let n = length s in
    let all = and_parts (eqb (get_or s (n - 1) 0) 46) _ e in
    let more = and_parts (ltb 1 n) _ all.1 in
    let some : 1 < n = length-with_parent s e in
    let rest = and_parts (eqb (get_or s (n - 2) 0) 46) _ more.1 in
    let next : drop (n - 2) s ≡ get_or s (n - 2) 0 ∷ drop (n - 2 + 1) s =
    drop_more s (n - 2) 0 (omega arith) in
    let last : drop (n - 2 + 1) s ≡ get_or s (n - 1) 0 ∷ [] =
    ap (λ i. drop i s) {x = n - 2 + 1} {y = n - 1} (omega arith)
    ∙ drop_more s (n - 1) 0 (omega arith)
    ∙ ap (λ t. get_or s (n - 1) 0 ∷ t) (drop_all (n - 1 + 1) s (omega arith)) in
    let is : drop (n - 2) s ≡ 46 ∷ 46 ∷ [] = next
    ∙ ap₂ (λ b t. b ∷ t) (eqb-true _ 46 rest.0) (last ∙ ap (λ b. b ∷ []) (eqb-true _ 46 all.0)) in (
      record {
        in_range = omega arith;
        after_slash = λ l. ⊎_elim (λ two. absurd (omega (arith, eqb-true n 2 two)))
            (λ slash. ap (λ i. get_or s i 0) {x = n - 2 - 1} {y = n - 3} (omega arith)
            ∙ eqb-true _ 47 slash)
            (or_cases (eqb n 2) _ rest.1);
        no_slash = rw is refl;
      },
      ap first_value is,
    )

-- if s is `.`, its last piece begins at index 0 and is the component `.`
pub starts_dot : (s : List ℕ) → bytes_eq s cur_dir ≡ true
    → IsLastStart s 0 × (first_value (drop 0 s) ≡ CurDir)
starts_dot s e =
    let is = (bytes_eq-Decides s cur_dir).0 e in (
      record {
        in_range = omega arith;
        after_slash = λ l. absurd (omega arith);
        no_slash = rw is refl;
      },
      ap first_value is,
    )
