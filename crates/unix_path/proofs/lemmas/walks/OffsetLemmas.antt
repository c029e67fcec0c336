-- The range between two indices of a string, from which components are removed at either end.
use Rattle.std.proofs.Common.{◌≡◌, ℕ, ◌+◌, ◌-◌, ◌≤◌, ◌<◌, Bool, true, false, ◌&&◌}
use Rattle.std.proofs.Common.{ltb, List, [], ◌∷◌, ◌++◌, length, take, drop, map, refl, sym}
use Rattle.std.proofs.Common.{ap, subst, ◌∙◌, arith, drop-drop, take-take}
use Rattle.std.proofs.Common.{ltb-true, ltb-false}
use Rattle.std.specs.Prelude.{slice_range}
use Rattle.std.proofs.lemmas.List.{nil_from_length, drop-take}
use Rattle.std.proofs.lemmas.Grind.{common_steps}
use Rattle.unix_path.specs.Cursor.{cursor_rest}
use Rattle.unix_path.specs.declared.cursor.walk.Components.{Components}
use Rattle.unix_path.specs.Parts.{Value, RootDir, CurDir, parts, values}
use Rattle.unix_path.specs.Scan.{is_filler, EndsInPart}
use Rattle.unix_path.specs.Rest.{rest}
use Rattle.unix_path.specs.Steps.{IsWalk}
use Rattle.unix_path.proofs.lemmas.steps.LeadLemmas.{StepsFirst}
use Rattle.unix_path.proofs.lemmas.steps.StepLemmas.{TakesFirst, TakesLast}
use Rattle.unix_bytes.proofs.lemmas.lists.ListLemmas.{by_test, length-range}
use Rattle.unix_path.proofs.lemmas.names.ParentLemmas.{rest-whole_last, values-whole}
use Rattle.unix_path.proofs.lemmas.parts.PartLemmas.{parts-nil, parts-root, parts-name}
use Rattle.unix_path.proofs.lemmas.steps.SpanLemmas.{parts_end-whole}

-- the last component of s has the value v and ends at `end`, and the rest of s before this
-- component is the first `before` bytes
pub record HasLast (s : List ℕ) (before end : ℕ) (v : Value) : Type 0 where
  pub in_range : before ≤ length s
  pub value : values s ≡ values (take before s) ++ v ∷ []
  pub before_is : take before s ≡ rest s 0 1
  pub end_is : end ≡ length (rest s 0 0)

-- if n is at most b - a, the range of s from a to b, without its first n bytes, is the range from
-- `a + n` to b
range-drop : (s : List ℕ) (a b n : ℕ) → n ≤ b - a
    → drop n (slice_range s a b) ≡ slice_range s (a + n) b
range-drop s a b n l = grind (arith, drop-take n (b - (a + n)) (drop a s), drop-drop n a s)

-- if n is at most b - a, the first n bytes of the range of s from a to b are the range from a to
-- `a + n`
range-take : (s : List ℕ) (a b n : ℕ) → n ≤ b - a
    → take n (slice_range s a b) ≡ slice_range s a (a + n)
range-take s a b n l = grind (arith, take-take)

-- the range of s from 0 to n is the first n bytes of s
pub range-zero : (s : List ℕ) (n : ℕ) → slice_range s 0 n ≡ take n s
range-zero s n = ap (λ k. take k s) {x = n - 0} {y = n} (omega arith)

-- true if the first component is the root or a `.`
abbrev lead_first : List Value → Bool
lead_first (RootDir ∷ vs) = true
lead_first (CurDir ∷ vs) = true
lead_first _ = false

is_filler-first : (s : List ℕ) → is_filler s 0 ≡ lead_first (values s)
unfolding values
is_filler-first [] = ap (λ ps. lead_first (map (λ p. p.value) ps)) (sym parts-nil)
is_filler-first (b ∷ s) = grind (arith, common_steps, parts-root, parts-name)

-- if s and t have the same components at the same positions, both begin with the root or a leading
-- `.`, or neither does
pub is_filler-same : (s t : List ℕ) → parts s ≡ parts t → is_filler s 0 ≡ is_filler t 0
unfolding values
is_filler-same s t e = grind (arith, is_filler-first)

pub first_not_filler : (u : List ℕ) → (0 < length u → is_filler u 0 ≡ false) → false ≡ is_filler u 0
first_not_filler [] h = refl
first_not_filler (b ∷ u) h = sym (h (omega arith))

-- the first component of the range of s from a to b is v, and removing v leaves the range from
-- `a + n` to b, which doesn't begin with filler
pub record StepsForward (s : List ℕ) (a b n : ℕ) (v : Value) : Type 0 where
  pub in_order : a + n ≤ b
  pub takes : TakesFirst (slice_range s a b) (slice_range s (a + n) b) v
  pub lead : false ≡ is_filler (slice_range s (a + n) b) 0

-- if the range of s from a to b ends in a component, and its first component v and the filler after
-- v have n bytes, then removing v leaves the range from a + n to b (`StepsForward`)
pub steps_forward : (s : List ℕ) (a b n : ℕ) (v : Value) → a ≤ b → b ≤ length s
    → EndsInPart (slice_range s a b) → StepsFirst (slice_range s a b) n v → StepsForward s a b n v
steps_forward s a b n v in_order in_range ends step =
    let size = length-range s a b in_range in
    let l = step.in_range in
    let is = range-drop s a b n (omega arith) in
    record {
      in_order = omega arith;
      takes = subst (λ u. TakesFirst (slice_range s a b) u v) is (step.takes ends);
      lead = first_not_filler (slice_range s (a + n) b)
          (subst (λ u. 0 < length u → is_filler u 0 ≡ false) is step.not_filler);
    }

-- if the first component v of the rest of the walk c, and the filler after v, have n bytes, then a
-- step over v moves the `start` of c by n
pub walks_forward : {t : List ℕ} (c : Components) (n : ℕ) (v : Value) → t ≡ cursor_rest c
    → StepsFirst t n v → StepsForward c.source.now c.start c.end n v
unfolding cursor_rest IsWalk
walks_forward c n v e step =
    steps_forward c.source.now c.start c.end n v c.fields.in_order c.fields.in_range c.fields.ends
    (subst (λ t. StepsFirst t n v) e step)

-- the last component of the range of s from a to b is v, and removing v leaves the first n bytes of
-- the range; if n isn't 0, these begin with the root or a leading `.` if and only if the range does
pub record StepsBack (s : List ℕ) (a b n : ℕ) (v : Value) : Type 0 where
  pub in_order : a + n ≤ b
  pub takes : TakesLast (slice_range s a b) (slice_range s a (a + n)) v
  pub lead : (is_filler (slice_range s a b) 0 && ltb 0 n) ≡ is_filler (slice_range s a (a + n)) 0

-- if u has no trailing filler and no components, it is empty
no_values : (u : List ℕ) → EndsInPart u → values u ≡ [] → length u ≡ 0
unfolding values
no_values u ends e = grind (arith, parts_end-whole)

lead_first-push : (vs : List Value) (v : Value) → (vs ≡ [] → ⊥)
    → lead_first (vs ++ v ∷ []) ≡ lead_first vs
lead_first-push [] v some = absurd (some refl)
lead_first-push (RootDir ∷ vs) v some = refl
lead_first-push (x ∷ vs) v some = refl

-- if u is t without its last component v, then u begins with the root or a leading `.` if and only
-- if t does and u isn't empty
lead_before_last : (t u : List ℕ) (v : Value) (n : ℕ) → TakesLast t u v → length u ≡ n
    → (is_filler t 0 && ltb 0 n) ≡ is_filler u 0
lead_before_last t u v n h size = by_test (ltb 0 n)
    (λ e.
    let some : 0 < n = ltb-true _ _ e in
    rw e (and_true (is_filler t 0) ∙ is_filler-first t ∙ ap lead_first h.value
    ∙ lead_first-push (values u) v
    (λ none. let z = no_values u h.ends none in absurd (omega arith))
    ∙ sym (is_filler-first u)))
    (λ e. rw e (and_false (is_filler t 0)
    ∙ sym (ap (λ u. is_filler u 0) (nil_from_length u (omega (arith, ltb-false _ _ e))))))
  where
    and_true : (b : Bool) → (b && true) ≡ b
    and_true true = refl
    and_true false = refl

    and_false : (b : Bool) → (b && false) ≡ false
    and_false true = refl
    and_false false = refl

-- if removing the last component v of the rest of the walk c leaves its first n bytes, a step over
-- v moves the `end` of c to the `start` of c, plus n
pub walks_back : {t : List ℕ} (c : Components) (n : ℕ) (v : Value) → t ≡ cursor_rest c
    → n ≤ length t → TakesLast t (take n t) v → StepsBack c.source.now c.start c.end n v
unfolding cursor_rest IsWalk
walks_back c n v e l takes = grind (arith, length-range, range-take, lead_before_last)

-- if u is s without trailing filler and has `end` bytes, its last component is v, and the rest of u
-- before v is the first `before` bytes of s, then v is the last component of s, ends at `end`, and
-- comes after the same rest (`HasLast`)
pub has_last : {u w : List ℕ} (s : List ℕ) (before end : ℕ) (v : Value) → u ≡ rest s 0 0
    → values u ≡ values w ++ v ∷ [] → w ≡ rest u 0 1 → w ≡ take before s → length u ≡ end
    → before ≤ length s → HasLast s before end v
has_last {u} {w} s before end v whole is left at n l = grind (arith, values-whole, rest-whole_last)
