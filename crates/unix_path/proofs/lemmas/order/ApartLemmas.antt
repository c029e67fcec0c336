-- Two strings whose order is decided by the bytes at their first difference. `AreApart` says that
-- the first string doesn't start with the second, and in which order they are.
use Rattle.std.proofs.Common.{◌≡◌, ℕ, zero, suc, ◌+◌, ◌-◌, ◌<◌, ◌≤◌, ◌||◌, true, false, eqb, List}
use Rattle.std.proofs.Common.{[], ◌∷◌, ◌++◌, length, get_or, take, drop, map, refl, sym, ap, ◌∙◌}
use Rattle.std.proofs.Common.{arith, take-append-drop, append_assoc, get_or-drop, length-drop}
use Rattle.std.proofs.Common.{length-take-le}
use Rattle.std.specs.FinMap.{nat_cmp-IsAntisymmetric}
use Rattle.std.specs.List.{common_prefix_len, position_or_len}
use Rattle.std.specs.Ordering.{nat_cmp}
use Rattle.std.specs.Str.{bytes_eq}
use Rattle.std.proofs.lemmas.Cmp.{tied_itself}
use Rattle.std.proofs.lemmas.List.{get_or-take, get_or_default}
use Rattle.std.proofs.lemmas.List.Sums.{common_prefix_len-le}
use Rattle.std.proofs.lemmas.Grind.{common_steps}
use Rattle.unix_path.specs.CommonDir.{inner_values}
use Rattle.unix_path.specs.Order.{value_cmp}
use Rattle.unix_path.specs.OrderLaws.{value_cmp-total}
use Rattle.unix_path.specs.Parts.{Part, Value, cur_dir, inner_parts, is_slash, value_of_piece}
use Rattle.unix_path.specs.Parts.{values}
use Rattle.unix_path.specs.Scan.{is_filler}
use Rattle.unix_path.specs.Steps.{is_piece_start, piece_rank, AreApart}
use Rattle.unix_path.proofs.lemmas.order.AfterCutLemmas.{begins_past}
use Rattle.unix_path.proofs.lemmas.order.CommonPrefixLemmas.{take-common, take-past_slash}
use Rattle.unix_path.proofs.lemmas.order.CommonPrefixLemmas.{values_cmp-common, values-past_slash}
use Rattle.unix_path.proofs.lemmas.order.DifferLemmas.{Counts, counts_from, head_rank-drop}
use Rattle.unix_path.proofs.lemmas.order.DifferLemmas.{value_cmp-pieces}
use Rattle.unix_path.proofs.lemmas.filler.FillerLemmas.{first_piece_dot, first_piece_empty}
use Rattle.unix_path.proofs.lemmas.filler.FillerLemmas.{inner_parts_not_filler, parts-not_filler}
use Rattle.unix_path.proofs.lemmas.steps.LastLemmas.{last_start, IsLastStart}
use Rattle.unix_path.proofs.lemmas.parts.PartLemmas.{values-nil}
use Rattle.unix_path.proofs.lemmas.parts.PieceLemmas.{first_piece, first_piece-other}
use Rattle.unix_path.proofs.lemmas.lists.PrefixLemmas.{begins_tail}

-- if a and b have the same `piece_rank` at their first difference n, a piece of each ends at n
pub ranks_end : (a b : List ℕ) (n : ℕ) → n ≡ common_prefix_len eqb a b
    → piece_rank a n ≡ piece_rank b n → piece_rank a n ≡ 0
ranks_end [] b n is same = refl
ranks_end (x ∷ a) [] n is same = same
ranks_end (x ∷ a) (y ∷ b) zero is same = grind arith
ranks_end (x ∷ a) (y ∷ b) (suc n) is same = grind (arith, ranks_end a b n)

-- if a has the components v, then s, then ss, b has the components v, then t, then ts, and s and t
-- are in the order of the different numbers x and y, then a doesn't start with b, and this is the
-- order of a and b
pub apart-values : {a b : List ℕ} (v : List Value) (s t : Value) (ss ts : List Value) (x y : ℕ)
    → values a ≡ v ++ s ∷ ss → values b ≡ v ++ t ∷ ts → value_cmp s t ≡ nat_cmp x y
    → (x ≡ y → ⊥) → AreApart a b (nat_cmp x y)
apart-values v s t ss ts x y first second order differs = record {
  order_is = rw (first, second, values_cmp-common v (s ∷ ss) (t ∷ ts), order) (grind arith);
  no_prefix = λ h.
      let same = (begins_tail t s ts ss
      (begins_past v (t ∷ ts) (s ∷ ss) (rw (first, second) at h))).0 in
      differs (nat_cmp-IsAntisymmetric x y (sym order ∙ ap (value_cmp s) same
      ∙ tied_itself value_cmp-total s));
}

-- if p has no slash, the first piece of `p ++ x` is p and then the first piece of x
pub first_piece-after : (p x : List ℕ) → position_or_len is_slash p ≡ length p
    → first_piece (p ++ x) ≡ p ++ first_piece x
first_piece-after [] x none = refl
first_piece-after (b ∷ p) x none = grind (arith, first_piece-other, first_piece-after p x)

-- the components of s after its first piece
abbrev later_values : List ℕ → List Value
later_values s =
    let n = position_or_len is_slash s in
    map (λ (p : Part). p.value) (inner_parts (0 + n) (drop n s))

-- if the first piece p of s is neither empty nor `.`, the components of s are the component of p
-- and then the components after it, and are the same as the inner components of s
values-first : (s p : List ℕ) → first_piece s ≡ p → (bytes_eq p [] || bytes_eq p cur_dir) ≡ false
    → (values s ≡ value_of_piece p ∷ later_values s) × (values s ≡ inner_values s)
unfolding values
values-first [] p is h = absurd (grind arith)
values-first (b ∷ s) p is h =
    let not_filler : is_filler (b ∷ s) 0 ≡ false =
    grind (arith, first_piece_empty (b ∷ s), first_piece_dot (b ∷ s)) in
    grind (arith, inner_parts_not_filler, parts-not_filler)

-- if the last piece of w, which begins at k, and the first piece of x together are a piece for
-- which `Counts` holds, the components of w followed by x are those of the first k bytes of w, then
-- the component of this piece, and then those after it
values-piece : (w x : List ℕ) (k : ℕ) → IsLastStart w k → Counts (drop k w) (first_piece x)
    → values (w ++ x) ≡ values (take k w)
    ++ value_of_piece (drop k w ++ first_piece x) ∷ later_values (drop k w ++ x)
values-piece w x zero start h =
    let first = values-first (w ++ x) (w ++ first_piece x)
    (first_piece-after w x start.no_slash) h.counts in
    rw values-nil first.0
values-piece w x (suc k) start h =
    let f = take (suc k) w in
    let p = drop (suc k) w in
    let first = values-first (p ++ x) (p ++ first_piece x)
    (first_piece-after p x start.no_slash) h.counts in
    let ends = take-past_slash w (suc k) (omega arith) start.in_range
    (start.after_slash (omega arith)) in
    let after : values (f ++ (p ++ x)) ≡ values f ++ inner_values (p ++ x) =
    rw ends (values-past_slash (take (suc k - 1) w) (p ++ x)) in
    ap values (ap (λ u. u ++ x) (sym (take-append-drop (suc k) w)) ∙ append_assoc f p x)
    ∙ after ∙ ap (λ v. values f ++ v) (sym first.1 ∙ first.0)

-- s has a byte at n, and this byte is neither a slash nor a dot
abbrev IsInName : List ℕ → ℕ → Type 0
IsInName s n = (piece_rank s n ≡ 0 → ⊥) × (piece_rank s n ≡ 47 → ⊥)

-- if a and b have different `piece_rank`s at their first difference n, and either both have a byte
-- at n that is neither a slash nor a dot, or the bytes of the piece before n are neither none nor a
-- single dot, then a doesn't start with b, and these ranks decide the order of a and b
apart-after : (a b : List ℕ) (n : ℕ) → n ≡ common_prefix_len eqb a b
    → (piece_rank a n ≡ piece_rank b n → ⊥)
    → ((k : ℕ) → is_piece_start a k ≡ true → k ≤ n → n ≤ k + 1 → (k < n → get_or a k 0 ≡ 46)
    → IsInName a n × IsInName b n)
    → AreApart a b (nat_cmp (piece_rank a n) (piece_rank b n))
apart-after a b n is differs in_name =
    let w = take n a in
    let start = last_start w in
    let k = start.0 in
    let p = drop k w in
    let range = common_prefix_len-le eqb a b in
    let size : length w ≡ n = length-take-le n a (omega (arith, is, range)) in
    let begins : is_piece_start a k ≡ true =
    grind (arith, start.1.after_slash, start.1.in_range, get_or-take n a (k - 1) 0) in
    let dot : k < n → get_or p 0 46 ≡ 46 → get_or a k 0 ≡ 46 =
    λ l e. grind (arith, get_or-drop k w 0 46, get_or-take n a k 46, get_or_default a k 46 0) in
    let names : length p ≤ 1 → get_or p 0 46 ≡ 46 → IsInName a n × IsInName b n =
    λ l e. in_name k begins (omega (arith, start.1.in_range, size))
    (omega (arith, length-drop k w, size, l)) (λ m. dot m e) in
    let first = counts_from p (first_piece (drop n a))
    (λ l e. rw (head_rank-drop a n) (names l e).0) in
    let second = counts_from p (first_piece (drop n b))
    (λ l e. rw (head_rank-drop b n) (names l e).1) in
    let common = take-common a b n (omega (arith, is)) in
    apart-values (values (take k w)) _ _ _ _ (piece_rank a n) (piece_rank b n)
    (ap values (sym (take-append-drop n a)) ∙ values-piece w (drop n a) k start.1 first)
    (ap values (sym (take-append-drop n b) ∙ ap (λ t. t ++ drop n b) (sym common))
    ∙ values-piece w (drop n b) k start.1 second)
    (rw (sym (head_rank-drop a n), sym (head_rank-drop b n)) (value_cmp-pieces p _ _ first second
    (rw (head_rank-drop a n, head_rank-drop b n) differs)))
    differs

-- if a and b both have a byte at their first difference n, and these bytes are neither slashes nor
-- dots, then a doesn't start with b, and these bytes decide the order of a and b
pub apart-here : (a b : List ℕ) (n : ℕ) → n ≡ common_prefix_len eqb a b
    → (piece_rank a n ≡ 0 → ⊥) → (piece_rank a n ≡ 47 → ⊥)
    → (piece_rank b n ≡ 0 → ⊥) → (piece_rank b n ≡ 47 → ⊥)
    → AreApart a b (nat_cmp (piece_rank a n) (piece_rank b n))
apart-here a b n is end_a dot_a end_b dot_b = grind (arith, common_steps, apart-after, ranks_end)

-- if a and b have different `piece_rank`s at their first difference n, and the bytes of the piece
-- before n are neither none nor a single dot, then a doesn't start with b, and these ranks decide
-- the order of a and b
pub apart-inside : (a b : List ℕ) (n : ℕ) → n ≡ common_prefix_len eqb a b
    → is_piece_start a n ≡ false → (get_or a (n - 1) 0 ≡ 46 → is_piece_start a (n - 1) ≡ false)
    → (piece_rank a n ≡ piece_rank b n → ⊥)
    → AreApart a b (nat_cmp (piece_rank a n) (piece_rank b n))
apart-inside a b n is inside no_dot differs =
    apart-after a b n is differs (λ k begins l near dot. absurd (grind arith))
