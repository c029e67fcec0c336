-- The rest of a path after the path without some of its last components.
use Rattle.std.proofs.Common.{◌≡◌, ◌∙◌, ◌+◌, ◌-◌, ◌<◌, ◌≤◌, ◌++◌, ℕ, false, eqb, List, length}
use Rattle.std.proofs.Common.{ap, arith, drop, eqb-true, get_or, inl, inr, refl, subst, sym}
use Rattle.std.proofs.Common.{[], take, take-append-drop}
use Rattle.std.proofs.lemmas.Bool.{eqb-false}
use Rattle.std.proofs.lemmas.List.{get_or-take, get_or_past, length-take}
use Rattle.std.specs.Borrow.{Bor}
use Rattle.std.specs.List.{common_prefix_len}
use Rattle.unix_bytes.proofs.lemmas.lists.ListLemmas.{by_test}
use Rattle.unix_bytes.proofs.lemmas.vectors.CommonLemmas.{common_prefix_len-is}
use Rattle.unix_bytes.proofs.lemmas.vectors.CommonLemmas.{common_prefix_len-same}
use Rattle.unix_path.proofs.lemmas.filler.TrimLemmas.{EndsInPart-drop}
use Rattle.unix_path.proofs.lemmas.order.AfterCutLemmas.{past-nil, rest-rest_bytes, shares-past}
use Rattle.unix_path.proofs.lemmas.order.ApartLemmas.{apart-inside}
use Rattle.unix_path.proofs.lemmas.order.KindLemmas.{first_parts-apart}
use Rattle.unix_path.proofs.lemmas.order.PairLemmas.{CanCut, shares-written}
use Rattle.unix_path.proofs.lemmas.rests.MiddleLemmas.{middle_of, rest-middle}
use Rattle.unix_path.proofs.lemmas.rests.RestLemmas.{rest-rest, take-rest, values-rest}
use Rattle.unix_path.proofs.lemmas.parts.PartLemmas.{values-nil}
use Rattle.unix_path.proofs.lemmas.rests.SourceLemmas.{IsTail-from, IsTail-trans}
use Rattle.unix_path.specs.Parts.{values}
use Rattle.unix_path.specs.Prefixes.{IsPrefixOf, stripped_of}
use Rattle.unix_path.specs.Rest.{rest}
use Rattle.unix_path.specs.Scan.{EndsInPart}
use Rattle.unix_path.specs.Slices.{IsTail}
use Rattle.unix_path.specs.Steps.{is_piece_start, piece_rank}
use Rattle.unix_path.proofs.lemmas.order.AfterCutLemmas.{AfterFiller}

-- s without its last m components is empty or ends where its last component ends
ends-rest : (s : List ℕ) (m : ℕ) → EndsInPart (rest s 0 m)
ends-rest s m =
    let h = middle_of s 0 m in subst EndsInPart (sym (rest-middle s 0 m h)) h.ends

-- the components of s without its last m components are a prefix of the components of s
begins-rest : (s : List ℕ) (m : ℕ) → IsPrefixOf (values (rest s 0 m)) (values s)
begins-rest s m =
    let vs = values s in
    let n = length vs - (0 + m) in
    (drop n vs, ap (λ us. us ++ drop n vs) (values-rest s 0 m) ∙ take-append-drop n vs)

-- if b is a prefix of s, has at least two bytes, and ends where its last component ends, and the
-- last byte of b is a dot, then no piece of s begins at this dot
dot_inside : (s b : List ℕ) → length b ≡ common_prefix_len eqb s b → EndsInPart b → 1 < length b
    → get_or s (length b - 1) 0 ≡ 46 → is_piece_start s (length b - 1) ≡ false
dot_inside s b alike ends some dot = grind (arith, common_prefix_len-same)

-- if b is a prefix of s, byte by byte and component by component, is not empty, and ends where its
-- last component ends, a piece of s ends or begins after b
can_cut : (s b : List ℕ) → length b ≡ common_prefix_len eqb s b → EndsInPart b → 0 < length b
    → IsPrefixOf (values b) (values s) → CanCut s (length b)
can_cut s b alike ends some begins =
    let n = length b in
    let none : piece_rank b n ≡ 0 = rw (get_or_past b n 47 (omega arith)) refl in
    by_test (eqb (piece_rank s n) 0)
    (λ e. inr (eqb-true _ 0 e))
    (λ e. by_test (is_piece_start s n)
    (λ starts. inl starts)
    (λ inside.
    let differs : piece_rank s n ≡ piece_rank b n → ⊥ = λ same. eqb-false _ 0 e (same ∙ none) in
    absurd (by_test (eqb n 1)
    (λ one. by_test (eqb (get_or s 0 0) 46)
    (λ dot. first_parts-apart s b n alike
    (record {
      near = omega (arith, eqb-true n 1 one);
      dot = λ _. eqb-true _ 46 dot;
      at_ends = λ same. absurd (differs same);
    }) some begins)
    (λ other. (apart-inside s b n alike inside
    (λ dot. absurd (eqb-false _ 46 other
    (ap (λ i. get_or s i 0) {x = 0} {y = n - 1} (omega (arith, eqb-true n 1 one)) ∙ dot)))
    differs).no_prefix begins))
    (λ more. (apart-inside s b n alike inside
    (dot_inside s b alike ends (omega (arith, some, eqb-false n 1 more))) differs).no_prefix
    begins))))

-- if s ends where its last component ends, b is s without its last m components and not empty, and
-- t is the bytes of s after b and after the filler that follows b, then t is the rest of s after b
pub rest-after : (s b t : List ℕ) (m : ℕ) (j : ℕ) → rest s 0 0 ≡ s → b ≡ rest s 0 m → 0 < length b
    → AfterFiller (drop (length b) s) t → j ≤ length s → t ≡ drop j s → t ≡ stripped_of s b
rest-after s b t m j trimmed is some past in_range t_is =
    let n = length b in
    let taken : take n s ≡ b = ap (λ w. take (length w) s) is ∙ take-rest s m ∙ sym is in
    let short : n ≤ length s = omega (arith, simp length-take at (ap length taken)) in
    let alike : n ≡ common_prefix_len eqb s b = common_prefix_len-is s b n short (omega arith)
    (λ k l. sym (get_or-take n s k 0 l) ∙ ap (λ w. get_or w k 0) taken)
    (λ _ l. absurd (omega (arith, l))) in
    let ends : EndsInPart b = subst EndsInPart (sym is) (ends-rest s m) in
    let begins : IsPrefixOf (values b) (values s) =
    subst (λ w. IsPrefixOf (values w) (values s)) (sym is) (begins-rest s m) in
    let shares = shares-past (shares-written s b n alike some (omega arith)
    (can_cut s b alike ends some begins)) past past-nil in
    let whole : EndsInPart s = subst EndsInPart trimmed (ends-rest s 0) in
    sym (rest-rest_bytes shares past.not_filler
    (subst EndsInPart (sym t_is) (EndsInPart-drop s j in_range whole)))

-- the rest of s after the empty path is s, if s ends where its last component ends
pub rest-none : (s b : List ℕ) → rest s 0 0 ≡ s → b ≡ [] → stripped_of s b ≡ s
rest-none s b trimmed none =
    ap (λ vs. rest s (length vs) 0) (ap values none ∙ values-nil) ∙ trimmed

-- s without its last m components is not longer than s
pub rest_short : (s : List ℕ) (m : ℕ) → length (rest s 0 m) ≤ length s
rest_short s m = omega (arith, simp length-take at (ap length (take-rest s m)))

-- if `from` is the slice `whole` from index n on, a suffix of `from` is a suffix of `whole`
pub tail_of_rest : (part from whole : Bor (List ℕ)) (n : ℕ) → n ≤ length whole.now
    → IsTail part from → from.now ≡ take (length whole.now - n) (drop n whole.now)
    → from.ref_ptr.0 ≡ whole.ref_ptr.0 → from.ref_ptr.1 ≡ whole.ref_ptr.1 + n
    → IsTail part whole
tail_of_rest part from whole n short tail bytes block place =
    IsTail-trans part from whole tail (IsTail-from from whole n short bytes block place)

-- the rest after b is the same for s and for s without its trailing filler
pub stripped-trimmed : (s b : List ℕ) → stripped_of (rest s 0 0) b ≡ stripped_of s b
stripped-trimmed s b = grind (arith, rest-rest)

-- s without its last m components is the same bytes if the trailing filler of s is removed first
pub prefix-trimmed : (s : List ℕ) (m : ℕ) → rest (rest s 0 0) 0 m ≡ rest s 0 m
prefix-trimmed s m = grind (arith, rest-rest)
