-- Where two paths can be cut, and what that shows about them.
use Rattle.std.proofs.Common.{◌≡◌, ℕ, ◌-◌, ◌≤◌, ◌<◌, ◌⊎◌, true, false, eqb, List, []}
use Rattle.std.proofs.Common.{◌++◌, length, get_or, take, drop, map, refl, sym, ap, ap₂, arith}
use Rattle.std.proofs.Common.{◌∙◌, subst}
use Rattle.std.proofs.Common.{inl, inr, take-append-drop}
use Rattle.std.specs.Borrow.{Bor}
use Rattle.std.proofs.Math.Seq.{drop-length}
use Rattle.std.proofs.lemmas.Bool.{eqb-false, or_parts}
use Rattle.std.proofs.lemmas.List.{get_or_past, map-append}
use Rattle.std.proofs.lemmas.List.Sums.{common_prefix_len-le}
use Rattle.std.proofs.lemmas.Grind.{common_steps}
use Rattle.unix_bytes.proofs.lemmas.vectors.CommonLemmas.{common_prefix_len-same}
use Rattle.unix_path.proofs.lemmas.order.ApartLemmas.{ranks_end}
use Rattle.unix_bytes.proofs.lemmas.lists.ListLemmas.{by_test}
use Rattle.unix_path.proofs.lemmas.order.CommonPrefixLemmas.{parts-past_slash, take-common}
use Rattle.unix_path.proofs.lemmas.order.KindLemmas.{first_parts-apart}
use Rattle.unix_path.proofs.lemmas.parts.PieceLemmas.{inner_parts-nil, inner_parts-slash}
use Rattle.unix_path.proofs.lemmas.parts.PlaceLemmas.{values-inner_parts}
use Rattle.unix_path.proofs.lemmas.filler.TrimLemmas.{parts-append, parts-slash}
use Rattle.unix_path.specs.Pairs.{Compared, DifferenceShows}
use Rattle.unix_path.specs.Parts.{Part, inner_parts, parts, slash, values}
use Rattle.unix_path.specs.Prefixes.{IsPrefixOf}
use Rattle.unix_path.specs.Steps.{is_piece_start, piece_rank, SharesPrefix}
use Rattle.std.specs.List.{common_prefix_len}
use Rattle.unix_path.specs.declared.pair.Comparison.{Comparison}
use Rattle.unix_path.specs.declared.pair.Comparison.TheVariants.{Differs, StartsWith}
use Rattle.unix_path.specs.declared.pair.Difference.{Difference}
use Rattle.unix_path.specs.declared.pair.Difference.TheVariants.{Decided, FirstComponents}
use Rattle.unix_path.specs.declared.pair.Difference.TheVariants.{CutBefore}
use Rattle.unix_path.proofs.lemmas.order.KindLemmas.{first_parts-cmp}
use Rattle.unix_path.proofs.lemmas.order.KindLemmas.{values_cmp-ranks}

-- if no piece of s begins at i, i is not 0
pub inside_piece : (s : List ℕ) (i : ℕ) → is_piece_start s i ≡ false → 0 < i
inside_piece s i e = omega (arith, eqb-false i 0 (or_parts (eqb i 0) _ e).0)

-- s can be cut at n: a piece begins or ends there
abbrev pub CanCut : List ℕ → ℕ → Type 0
CanCut s n = (is_piece_start s n ≡ true) ⊎ (piece_rank s n ≡ 0)

-- if the byte of s before index n is a slash, the components of s are those of its first n bytes,
-- and then the inner components of the bytes from n on
parts-after : (s : List ℕ) (n : ℕ) → 0 < n → n ≤ length s → get_or s (n - 1) 0 ≡ slash
    → parts s ≡ parts (take n s) ++ inner_parts n (drop n s)
parts-after s n some l is = grind (arith, common_steps, take-append-drop n s, parts-past_slash)

-- if n isn't 0, and the byte of s at n is a slash, the components of s are those of its first n
-- bytes, and then the inner components of the bytes from n on
parts-before : (s : List ℕ) (n : ℕ) → 0 < n → n < length s → get_or s n slash ≡ slash
    → parts s ≡ parts (take n s) ++ inner_parts n (drop n s)
parts-before s n some l is =
    grind (arith, common_steps, take-append-drop n s, parts-append, parts-slash, inner_parts-slash)

-- if n isn't 0, and s can be cut at n, the components of s are those of its first n bytes, and then
-- the inner components of the bytes from n on
parts-cut : (s : List ℕ) (n : ℕ) → 0 < n → n ≤ length s → CanCut s n
    → parts s ≡ parts (take n s) ++ inner_parts n (drop n s)
parts-cut s n some inside = grind (arith, common_steps, parts-after, parts-before, inner_parts-nil)

-- a and b have at least k bytes, and if k is not 0, the bytes of a and b from k on are their rests
-- after the same components
pub record CutsAt (a b : List ℕ) (k : ℕ) : Type 0 where
  pub in_first : k ≤ length a
  pub in_second : k ≤ length b
  pub shares : 0 < k → SharesPrefix a b (drop k a) (drop k b)

-- if the common prefix of a and b has n bytes, k is at most n, and a piece of a and a piece of b
-- begin or end at k, then a and b can be cut at k, after the same components (`CutsAt`)
pub cuts : (a b : List ℕ) (n k : ℕ) → n ≡ common_prefix_len eqb a b → k ≤ n → CanCut a k
    → CanCut b k → CutsAt a b k
unfolding values
cuts a b n k alike l first second =
    let range = common_prefix_len-le eqb a b in
    let in_first : k ≤ length a = omega (arith, alike, range.0, l) in
    let in_second : k ≤ length b = omega (arith, alike, range.1, l) in
    record {
      in_first = in_first;
      in_second = in_second;
      shares = λ some. record {
        shared = parts (take k a);
        at = k;
        is = refl;
        first = parts-cut a k some in_first first;
        second = ap (map (λ (p : Part). p.value)) (parts-cut b k some in_second second)
            ∙ map-append (λ (p : Part). p.value) (parts (take k b)) (inner_parts k (drop k b))
            ∙ ap₂ (λ t vs. map (λ (p : Part). p.value) (parts t) ++ vs)
            (sym (take-common a b k (omega (arith, alike, l))))
            (values-inner_parts k (drop k b));
      };
    }

-- if a and b have the same `piece_rank` at their first difference n, where a piece of each then
-- ends, a and b can be cut at n, after the same components (`CutsAt`)
pub cuts-ends : (a b : List ℕ) (n : ℕ) → n ≡ common_prefix_len eqb a b
    → piece_rank a n ≡ piece_rank b n → CutsAt a b n
cuts-ends a b n alike same =
    let end = ranks_end a b n alike same in
    cuts a b n n alike (omega arith) (inr end) (inr (sym same ∙ end))

-- if the common prefix of a and b has n bytes, k is at most n, and a piece of a, and so of b,
-- begins at k, then a and b can be cut at k, after the same components (`CutsAt`)
pub cuts-begins : (a b : List ℕ) (n k : ℕ) → n ≡ common_prefix_len eqb a b → k ≤ n
    → is_piece_start a k ≡ true → CutsAt a b k
cuts-begins a b n k alike l begins = cuts a b n k alike l (inl begins) (inl (by_test (eqb k 0)
    (λ e. rw e refl)
    (λ e.
    let some : 0 < k = omega (arith, eqb-false k 0 e) in
    let here : eqb (get_or a (k - 1) 0) 47 ≡ true = rw e at begins in
    let same = common_prefix_len-same a b (k - 1) (omega (arith, alike, l, some)) in
    rw e (ap (λ b. eqb b 47) (sym same) ∙ here))))

-- if b is not empty, a begins with the bytes of b, and a can be cut after them, then the bytes of a
-- after them are the rest of a after the components of b
pub shares-written : (a b : List ℕ) (n : ℕ) → n ≡ common_prefix_len eqb a b → 0 < length b
    → length b ≤ n → CanCut a (length b) → SharesPrefix a b (drop (length b) a) []
shares-written a b n alike some all first =
    let ends : CanCut b (length b) = inr (rw (get_or_past b (length b) 47 (omega arith)) refl) in
    subst (SharesPrefix a b (drop (length b) a)) (drop-length b)
    ((cuts a b n (length b) alike all first ends).shares some)

-- if the first difference of a and b, at n, does not show a `CutBefore`, and b isn't empty, a
-- doesn't start with b
pub apart-unless : (a : Bor (List ℕ)) (b : List ℕ) (n : ℕ) (said : Difference)
    → n ≡ common_prefix_len eqb a.now b
    → DifferenceShows a b n said → ((x y : Bor (List ℕ)) → said ≡ CutBefore x y → ⊥) → 0 < length b
    → IsPrefixOf (values b) (values a.now) → ⊥
apart-unless a b n (Decided order) alike h other some = h.no_prefix
apart-unless a b n FirstComponents alike h other some = grind (arith, first_parts-apart)
apart-unless a b n (CutBefore x y) alike h other some = absurd (other x y refl)

-- if a and b are the rests of s and t after the same components, and the result of comparing a and
-- b is not a `StartsWith`, s doesn't start with t
pub no_prefix-unless : (s t : List ℕ) (a : Bor (List ℕ)) (b : List ℕ) (said : Comparison)
    → Compared a b said → SharesPrefix s t a.now b
    → ((rest_bytes : Bor (List ℕ)) → said ≡ StartsWith rest_bytes → ⊥)
    → IsPrefixOf (values t) (values s) → ⊥
no_prefix-unless s t a b (Differs order) h cut other = (h s t cut).no_prefix
no_prefix-unless s t a b (StartsWith rest_bytes) h cut other = absurd (other rest_bytes refl)

-- the order of two strings whose first components differ
pub ruleset first_orders = (first_parts-cmp, values_cmp-ranks)
