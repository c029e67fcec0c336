-- For a string that ends in a name: the index where the stem ends, found from the last dot or slash
-- of the string.
use Rattle.std.proofs.Common.{◌≡◌, ℕ, zero, suc, ◌+◌, ◌-◌, ◌<◌, ◌≤◌, true, false, not, eqb, ltb}
use Rattle.std.proofs.Common.{◌||◌, List, length, get_or, take, drop, Option, Some, None}
use Rattle.std.proofs.Common.{refl, sym, ap, ◌∙◌, arith, ltb-true, ltb-false}
use Rattle.std.proofs.Common.{length-take-le, length-drop, get_or-drop, subst}
use Rattle.std.proofs.lemmas.Bool.{true≢false}
use Rattle.std.proofs.lemmas.List.{get_or-take, length-take}
use Rattle.std.proofs.lemmas.List.Sums.{position_or_len_is}
use Rattle.std.proofs.lemmas.Option.{none-some, same_Some}
use Rattle.std.proofs.lemmas.Grind.{common_steps}
use Rattle.unix_path.specs.Parts.{is_slash, values}
use Rattle.unix_path.specs.Rest.{rest}
use Rattle.unix_path.specs.Names.{file_name_of, after_last, split_name}
use Rattle.unix_path.specs.Edits.{stem_end_of}
use Rattle.unix_path.specs.Extensions.{name_end_of}
use Rattle.unix_path.proofs.lemmas.steps.LastLemmas.{IsLastStart}
use Rattle.unix_bytes.proofs.lemmas.lists.ListLemmas.{by_test}
use Rattle.unix_path.proofs.lemmas.names.NameEndLemmas.{name_end_of-some}
use Rattle.unix_path.proofs.lemmas.names.NameLemmas.{is_dot, after_last-is, split_name-cut}
use Rattle.unix_path.proofs.lemmas.names.NameLemmas.{split_name-stem, split_name-whole}
use Rattle.unix_path.proofs.lemmas.names.NamedLemmas.{EndsInName, ends_in_name, last_start_same}
use Rattle.unix_path.proofs.lemmas.names.NamedLemmas.{parts-named, piece_slash}
use Rattle.unix_path.proofs.lemmas.names.StemLemmas.{length-name, length-rest_whole-le}
use Rattle.unix_path.proofs.lemmas.names.StemLemmas.{stem_end_of-none, stem_end_of-some}
use Rattle.unix_path.proofs.lemmas.names.NamedLemmas.{name_end_of-take}

-- each byte of s at index n or later is ordinary: neither a dot nor a slash
abbrev pub OrdinaryFrom : List ℕ → ℕ → Type 0
OrdinaryFrom s n = (i : ℕ) → n ≤ i → i < length s
    → (eqb (get_or s i 0) 46 || eqb (get_or s i 0) 47) ≡ false

-- no byte of s at index n or later is a dot
abbrev pub DotlessFrom : List ℕ → ℕ → Type 0
DotlessFrom s n = (i : ℕ) → n ≤ i → i < length s → eqb (get_or s i 0) 46 ≡ false

-- a byte that is neither a dot nor a slash is not a dot
no_dot : (b : ℕ) → (eqb b 46 || eqb b 47) ≡ false → eqb b 46 ≡ false
no_dot b e = by_test (eqb b 46) (λ t. absurd (true≢false (rw t at e))) (λ f. f)

-- a byte that is neither a dot nor a slash is not a slash
no_slash : (b : ℕ) → (eqb b 46 || eqb b 47) ≡ false → eqb b 47 ≡ false
no_slash b e = by_test (eqb b 46) (λ t. absurd (true≢false (rw t at e))) (λ f. rw f at e)

-- if s has no dot and no slash at index n or later, and m is at least n, s has no dot at index m or
-- later
Dotless-ordinary : (s : List ℕ) (n m : ℕ) → OrdinaryFrom s n → n ≤ m → DotlessFrom s m
Dotless-ordinary s n m ordinary l i from to = no_dot (get_or s i 0) (ordinary i (omega arith) to)

-- if s without its first n bytes has no dot and no slash at index `past` or later, s has neither at
-- index `n + past` or later
pub ordinary_behind : (s : List ℕ) (n past : ℕ) → n ≤ length s → OrdinaryFrom (drop n s) past
    → OrdinaryFrom s (n + past)
ordinary_behind s n past l ordinary i from to =
    grind (arith, get_or-drop n s (i - n) 0, length-drop)

-- if t, which is s without its first n bytes, has no dot and no slash at index `past` or later, and
-- `place` is `n + past`, then s has neither at index `place` or later
pub ordinary_from : (s t : List ℕ) (n past place : ℕ) → n ≤ length s → t ≡ drop n s
    → OrdinaryFrom t past
    → place ≡ n + past → OrdinaryFrom s place
ordinary_from s t n past place l is ordinary e i from to =
    ordinary_behind s n past l (subst (λ t. OrdinaryFrom t past) is ordinary) i (omega arith) to

-- t is s from index n on, so index `past` - 1 of t is index `place` of s: if t has a dot or a slash
-- there, and s has no slash there, then s has a dot there
pub dot_at : (s t : List ℕ) (n past place : ℕ) → t ≡ drop n s → 0 < past → place ≡ n + past - 1
    → (eqb (get_or t (past - 1) 0) 46 || eqb (get_or t (past - 1) 0) 47) ≡ true
    → (get_or s place 0 ≡ 47 → ⊥) → get_or s place 0 ≡ 46
dot_at s t n past place is some e stops no_slash = grind (arith, common_steps)

-- if the last piece of s is its file name, the stem ends at the start of this piece plus the length
-- of the stem
stem_end-named : (s : List ℕ) → (h : EndsInName s)
    → stem_end_of s ≡ Some (h.start + length (split_name (drop h.start s)).0)
stem_end-named s h =
    let y = drop h.start s in
    let to : h.start + length (split_name y).0 ≡ length s - length y + length (split_name y).0 =
    omega (arith, length-drop h.start s) in
    grind (arith, stem_end_of-some)

-- if s ends in a name, the byte of s at d is a dot, neither at index 0 nor after a slash, and no
-- dot and no slash follows it, then the stem ends at d
pub stem_end-cut : (s : List ℕ) (d : ℕ) → EndsInName s → d < length s → OrdinaryFrom s (d + 1)
    → get_or s d 0 ≡ 46 → 0 < d → eqb (get_or s (d - 1) 0) 47 ≡ false → stem_end_of s ≡ Some d
stem_end-cut s d h l ordinary dot some before =
    let k = h.start in
    let y = drop k s in
    let in_name : k < d = by_test (ltb k d) (λ t. ltb-true _ _ t)
    (λ f.
    let more = ltb-false _ _ f in
    let few = h.some in
    let some_k : 0 < k = omega arith in
    let slash = h.last.after_slash some_k in
    by_test (ltb d (k - 1))
    (λ t. absurd (true≢false (sym (ap (λ b. eqb b 47) slash)
    ∙ no_slash (get_or s (k - 1) 0)
    (ordinary (k - 1) (omega (arith, ltb-true _ _ t)) (omega arith)))))
    (λ u.
    by_test (ltb d k)
    (λ t.
    let here : k - 1 ≡ d = omega (arith, ltb-true _ _ t, ltb-false _ _ u) in
    absurd (omega (arith, sym slash ∙ ap (λ i. get_or s i 0) here ∙ dot)))
    (λ t.
    let here : k ≡ d = omega (arith, ltb-false _ _ t) in
    absurd (true≢false (sym (ap (λ b. eqb b 47) (ap (λ i. get_or s (i - 1) 0) (sym here) ∙ slash))
    ∙ before))))) in
    let n = d + 1 - k in
    let size = length-drop k s in
    let past : n ≡ after_last is_dot y = after_last-is is_dot y n (omega arith)
    (λ i from to. ap not (ap (λ b. eqb b 46) (get_or-drop k s i 0)
    ∙ no_dot (get_or s (k + i) 0) (ordinary (k + i) (omega arith) (omega arith))))
    (λ l. ap not (ap (λ b. eqb b 46) (get_or-drop k s (n - 1) 0
    ∙ ap (λ i. get_or s i 0) {x = k + (n - 1)} {y = d} (omega arith) ∙ dot))) in
    let cut = split_name-cut y n past (omega arith) in
    stem_end-named s h
    ∙ ap Some {x = k + length (split_name y).0} {y = d} (omega (
      arith,
      ap (λ r. length r.0) cut,
      length-take-le (n - 1) y (omega arith),
    ))

-- if s ends in a name that has no dot after its first byte, the stem ends where s ends
pub stem_end-whole : (s : List ℕ) → (h : EndsInName s) → DotlessFrom s (h.start + 1)
    → stem_end_of s ≡ Some (length s)
stem_end-whole s h none =
    let k = h.start in
    let y = drop k s in
    let l = h.some in
    let size = length-drop k s in
    let behind : (n : ℕ) → 1 ≤ n → (i : ℕ) → n ≤ i → i < length y
    → not (is_dot (get_or y i 0)) ≡ true =
    λ n some i from to. ap not (ap (λ b. eqb b 46) (get_or-drop k s i 0)
    ∙ none (k + i) (omega arith) (omega arith)) in
    let whole : split_name y ≡ (y, None) = by_test (is_dot (get_or y 0 0))
    (λ t. split_name-whole y 1
    (after_last-is is_dot y 1 (omega arith) (behind 1 (omega arith)) (λ _. ap not t)) (omega arith))
    (λ f. split_name-whole y 0
    (after_last-is is_dot y 0 (omega arith)
    (λ i from to. by_test (ltb 0 i) (λ t. behind 1 (omega arith) i (ltb-true _ _ t) to)
    (λ u. ap (λ j. not (is_dot (get_or y j 0))) {x = i} {y = 0} (omega (arith, ltb-false _ _ u))
    ∙ ap not f))
    (λ no. absurd (omega arith))) (omega arith)) in
    stem_end-named s h
    ∙ ap Some {x = k + length (split_name y).0} {y = length s} (omega (
      arith,
      ap (λ r. length r.0) whole,
    ))

-- `past` is the index just after the last dot among the first m bytes of s, or 0 if they contain no
-- dot
record LastDot (s : List ℕ) (m : ℕ) : Type 0 where
  past : ℕ
  in_range : past ≤ m
  none : (i : ℕ) → past ≤ i → i < m → eqb (get_or s i 0) 46 ≡ false
  dot : 0 < past → eqb (get_or s (past - 1) 0) 46 ≡ true

last_dot : (s : List ℕ) (m : ℕ) → LastDot s m
last_dot s zero = grind arith
last_dot s (suc m) = by_test (eqb (get_or s m 0) 46)
    (λ t. record {
      past = suc m;
      in_range = omega arith;
      none = λ i from to. absurd (omega arith);
      dot = λ _. ap (λ i. eqb (get_or s i 0) 46) {x = suc m - 1} {y = m} (omega arith) ∙ t;
    })
    (λ f.
    let h = last_dot s m in
    let l = h.in_range in record {
      past = h.past;
      in_range = omega arith;
      none = λ i from to. by_test (ltb i m) (λ t. h.none i from (ltb-true _ _ t))
          (λ u. ap (λ j. eqb (get_or s j 0) 46) {x = i} {y = m} (omega (arith, ltb-false _ _ u))
          ∙ f);
      dot = h.dot;
    })

-- if the stem of the name y is as long as y, y has no dot after its first byte
whole_dotless : (y : List ℕ) → length (split_name y).0 ≡ length y → DotlessFrom y 1
whole_dotless y e =
    let h = last_dot y (length y) in
    let l = h.in_range in
    let past : h.past ≡ after_last is_dot y = after_last-is is_dot y h.past l
    (λ i from to. ap not (h.none i from to)) (λ some. ap not (h.dot some)) in
    grind (arith, common_steps, split_name-cut)

-- s ends in a name that has no dot after its first byte
pub record EndsInStem (s : List ℕ) : Type 0 where
  pub named : EndsInName s
  pub dotless : DotlessFrom s (named.start + 1)

ends_in_stem_by : (s : List ℕ) (o : Option (List ℕ)) → o ≡ file_name_of (values s)
    → stem_end_of s ≡ Some (length s) → EndsInStem s
ends_in_stem_by s None is e = absurd (none-some (length s) (stem_end_of-none s is ∙ e))
ends_in_stem_by s (Some bytes) is e =
    let n = length (rest s 0 0) in
    let stem = (split_name bytes).0 in
    let at : n - length bytes + length stem ≡ length s =
    same_Some _ _ (stem_end_of-some s bytes n is refl refl ∙ e) in
    let short : length stem ≤ length bytes =
    omega (arith, ap length (split_name-stem bytes), length_take_le (length stem) bytes) in
    let in_rest = length-name s bytes n is refl in
    let all = length-rest_whole-le s in
    let end : n ≡ length s = omega arith in
    let h = ends_in_name s (sym (name_end_of-some s bytes n is refl) ∙ ap Some end) in
    let l = h.some in
    let same : drop h.start s ≡ bytes = same_Some _ _ (h.name ∙ sym is) in
    let size : length (split_name (drop h.start s)).0 ≡ length (drop h.start s) =
    ap (λ y. length (split_name y).0) same ∙ omega (arith, ap length same) in
    record {
      named = h;
      dotless = λ i from to.
          ap (λ b. eqb b 46) (ap (λ j. get_or s j 0) {x = i} {y = h.start + (i - h.start)}
          (omega arith) ∙ sym (get_or-drop h.start s (i - h.start) 0))
          ∙ whole_dotless (drop h.start s) size (i - h.start) (omega arith)
          (omega (arith, length-drop h.start s));
    }
  where
    length_take_le : (n : ℕ) (xs : List ℕ) → length (take n xs) ≤ length xs
    length_take_le n xs = omega (arith, length-take n xs)

-- if the stem of the file name of s ends where s ends, s ends in a name that has no dot after its
-- first byte
pub ends_in_stem : (s : List ℕ) → stem_end_of s ≡ Some (length s) → EndsInStem s
ends_in_stem s e = ends_in_stem_by s (file_name_of (values s)) refl e

-- if s ends in a name, the stem of its first n bytes ends at n, and s has no dot and no slash at n
-- or later, then the stem of s ends where s ends
pub stem_end-longer : (s : List ℕ) (n : ℕ) → n ≤ length s → EndsInName s
    → stem_end_of (take n s) ≡ Some n → OrdinaryFrom s n → stem_end_of s ≡ Some (length s)
stem_end-longer s n l h known ordinary =
    let t = take n s in
    let size : length t ≡ n = length-take-le n s l in
    let stem = ends_in_stem t (known ∙ ap Some (sym size)) in
    let k = stem.named.start in
    let few = stem.named.some in
    let last = stem.named.last in
    let here : (i : ℕ) → i < n → get_or t i 0 ≡ get_or s i 0 = λ i lt. get_or-take n s i 0 lt in
    let start : IsLastStart s k = record {
      in_range = omega arith;
      after_slash = λ some. sym (here (k - 1) (omega arith)) ∙ last.after_slash some;
      no_slash = position_or_len_is is_slash (drop k s) (length (drop k s)) 0 (omega arith)
          (λ i to.
          let left = length-drop k s in
          ap (λ b. eqb b 47) (get_or-drop k s i 0)
          ∙ by_test (ltb (k + i) n)
          (λ b. ap (λ b. eqb b 47) (sym (here (k + i) (ltb-true _ _ b)))
          ∙ piece_slash t k (k + i) last (omega arith) (omega (arith, ltb-true _ _ b)))
          (λ b. no_slash (get_or s (k + i) 0)
          (ordinary (k + i) (omega (arith, ltb-false _ _ b)) (omega arith))))
          (λ to. absurd (omega arith));
    } in
    let same : h.start ≡ k = omega (
      arith,
      last_start_same s h.start k h.last start,
      last_start_same s k h.start start h.last,
    ) in
    stem_end-whole s h
    (λ i from to. by_test (ltb i n)
    (λ b. ap (λ b. eqb b 46) (sym (here i (ltb-true _ _ b)))
    ∙ stem.dotless i (omega arith) (omega (arith, ltb-true _ _ b)))
    (λ b. no_dot (get_or s i 0) (ordinary i (omega (arith, ltb-false _ _ b)) to)))

-- if s ends in a name, and has no dot and no slash, the stem of s ends where s ends
pub stem_end-ordinary : (s : List ℕ) → EndsInName s → OrdinaryFrom s 0
    → stem_end_of s ≡ Some (length s)
stem_end-ordinary s h ordinary = stem_end-whole s h
    (Dotless-ordinary s 0 (h.start + 1) ordinary (omega arith))

-- if s ends in a name, n is 0 or the stem of the first n bytes ends at n, and s has no dot and no
-- slash at n or later, then the stem of s ends where s ends
pub stem_end-known : (s : List ℕ) (n : ℕ) → EndsInName s → n ≤ length s
    → (0 < n → stem_end_of (take n s) ≡ Some n) → OrdinaryFrom s n
    → stem_end_of s ≡ Some (length s)
stem_end-known s n h l known ordinary = by_test (ltb 0 n)
    (λ t. stem_end-longer s n l h (known (ltb-true _ _ t)) ordinary)
    (λ f. stem_end-ordinary s h (λ i from to. ordinary i (omega (arith, ltb-false _ _ f)) to))

-- if s ends in a name, the byte at d is a slash, and no dot and no slash follows it, the stem of s
-- ends where s ends
pub stem_end-slash : (s : List ℕ) (d : ℕ) → EndsInName s → d < length s → OrdinaryFrom s (d + 1)
    → get_or s d 0 ≡ 47 → stem_end_of s ≡ Some (length s)
stem_end-slash s d h l ordinary slash =
    let behind : d < h.start = by_test (ltb d h.start) (λ t. ltb-true _ _ t)
    (λ f. absurd (true≢false (sym (ap (λ b. eqb b 47) slash)
    ∙ piece_slash s h.start d h.last (ltb-false _ _ f) l))) in
    stem_end-whole s h (Dotless-ordinary s (d + 1) (h.start + 1) ordinary (omega arith))

-- if s ends in a name, d is 0 or just after a slash, and no dot and no slash follows the byte at d,
-- the stem of s ends where s ends
pub stem_end-lead : (s : List ℕ) (d : ℕ) → EndsInName s → d < length s → OrdinaryFrom s (d + 1)
    → (0 < d → eqb (get_or s (d - 1) 0) 47 ≡ true) → stem_end_of s ≡ Some (length s)
stem_end-lead s d h l ordinary before =
    let behind : d ≤ h.start = by_test (ltb h.start d)
    (λ t.
    let less = ltb-true _ _ t in
    absurd (true≢false (sym (before (omega arith))
    ∙ piece_slash s h.start (d - 1) h.last (omega arith) (omega arith))))
    (λ f. ltb-false _ _ f) in
    stem_end-whole s h (Dotless-ordinary s (d + 1) (h.start + 1) ordinary (omega arith))

-- if the file name of s ends at `end`, the stem of the first `end` bytes of s ends where the stem
-- of s ends
pub stem_end_of-take : (s : List ℕ) (end : ℕ) → name_end_of s ≡ Some end
    → stem_end_of (take end s) ≡ stem_end_of s
unfolding stem_end_of values
stem_end_of-take s end e = grind (arith, parts-named)

-- if there is no index where the file name of s ends, there is none where its stem ends
pub stem_end_of-nameless : (s : List ℕ) → name_end_of s ≡ None → None ≡ stem_end_of s
stem_end_of-nameless s e = grind (arith, stem_end_of-none, name_end_of-some)

-- where the stem of a string ends
pub ruleset stem_ends = (stem_end_of-nameless, stem_end_of-take, name_end_of-take)
