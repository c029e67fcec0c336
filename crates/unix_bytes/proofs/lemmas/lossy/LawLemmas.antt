-- Laws of fronts and of lossy forms.
use Rattle.std.proofs.Common.{◌≡◌, ℕ, ◌<◌, ◌≤◌, List, [], ◌∷◌, ◌++◌, length, take, drop, true}
use Rattle.std.proofs.Common.{⊎_elim, refl, sym, ◌∙◌, subst, arith, length-take-le}
use Rattle.std.proofs.Common.{length-append, take-append-drop, append-nil, map, zero, suc, ◌⊎◌}
use Rattle.std.proofs.Common.{le_refl}
use Rattle.std.specs.Prelude.{max}
use Rattle.std.specs.List.{All, list_all}
use Rattle.std.proofs.lemmas.Bool.{cases_lt}
use Rattle.std.proofs.lemmas.List.Concat.{concat_is}
use Rattle.std.proofs.lemmas.List.Elements.{All-nil, All-cons}
use Rattle.std.proofs.lemmas.List.Folds.{flat_map-map}
use Rattle.std.proofs.lemmas.List.Sums.{AllPass-from_list_all}
use Rattle.std.proofs.lemmas.Grind.{common_steps}
use Rattle.unix_bytes.specs.Utf8.{is_sequence, IsSequence, BeginsSequence, begins_sequence}
use Rattle.unix_bytes.specs.Lossy.{fronts_of, replacement, lossy_of}
use Rattle.unix_bytes.specs.Steps.{longest_len, longest_front_of}
use Rattle.unix_bytes.specs.IsPrefixOf.{IsLongest}
use Rattle.unix_bytes.specs.Laws.{FrontsBegin, FrontsOneByOne, FrontIsLongest, BeginsWithNoSequence}
use Rattle.unix_bytes.specs.Laws.{BrokenIsShort, LossyOfBroken, LossyIsText}
use Rattle.unix_bytes.proofs.lemmas.sequences.BeginLemmas.{begins_sequence-from}
use Rattle.unix_bytes.proofs.lemmas.sequences.BeginLemmas.{BeginsSequence-from}
use Rattle.unix_bytes.proofs.lemmas.sequences.SequenceLemmas.{sequence_len}
use Rattle.unix_bytes.proofs.lemmas.sequences.LongestLemmas.{longest_len-longest}
use Rattle.unix_bytes.proofs.lemmas.sequences.LongestLemmas.{longest_len-prefix}
use Rattle.unix_bytes.proofs.lemmas.sequences.FrontLemmas.{front_within}
use Rattle.unix_bytes.proofs.lemmas.sequences.GrowLemmas.{fronts_of-nil, fronts_of-some}
use Rattle.unix_bytes.proofs.lemmas.sequences.GrowLemmas.{front_of-longest}
use Rattle.unix_bytes.proofs.lemmas.lossy.LossyLemmas.{no_sequence, lossy_of-none, shown_front}
use Rattle.unix_bytes.proofs.lemmas.lossy.LossyLemmas.{length-drop-some}

-- the first front of a nonempty byte string begins a sequence, or is one byte
longest_front_begins : (b : ℕ) (bs : List ℕ)
    → BeginsSequence (longest_front_of (b ∷ bs)) ⊎ (length (longest_front_of (b ∷ bs)) ≡ 1)
unfolding longest_front_of
longest_front_begins b bs = grind (arith, BeginsSequence-from, longest_len-longest)

-- u begins a sequence, or is one byte
abbrev MayStand : List ℕ → Type 0
MayStand u = BeginsSequence u ⊎ (length u ≡ 1)

-- if s has at most n bytes, each of its fronts begins a sequence, or is one byte
may_stand_within : (n : ℕ) (s : List ℕ) → length s ≤ n → All MayStand (fronts_of s)
may_stand_within n [] le = subst (All MayStand) (sym fronts_of-nil) (All-nil MayStand)
may_stand_within zero (b ∷ bs) le = absurd (omega arith)
may_stand_within (suc n) (b ∷ bs) le =
    let s = b ∷ bs in
    let k = length (longest_front_of s) in
    subst (All MayStand) (sym (fronts_of-some b bs))
    (All-cons MayStand (longest_front_of s) (fronts_of (drop k s)) (longest_front_begins b bs)
    (may_stand_within n (drop k s) (length-drop-some n k b bs (front_within b bs).0 le)))

pub fronts_begin : FrontsBegin
fronts_begin s = may_stand_within (length s) s (le_refl (length s))

pub fronts_one_by_one : FrontsOneByOne
unfolding fronts_of
fronts_one_by_one [] = refl
fronts_one_by_one (b ∷ bs) = grind (arith, common_steps, fronts_of-some)

-- the first front of s is a prefix of s, and no prefix of s that begins a sequence is longer
longest_front_is_longest : (s : List ℕ) → IsLongest BeginsSequence (longest_front_of s) s
unfolding longest_front_of
longest_front_is_longest s =
    let n = longest_len begins_sequence s in
    let within = (longest_len-longest begins_sequence s).within in (
      (drop (max 1 n) s, take-append-drop (max 1 n) s),
      λ t b (v, e).
          let few = longest_len-prefix begins_sequence s t v (begins_sequence-from t b) (sym e) in
          ⊎_elim
          (λ (some : 0 < length s). omega (arith, length-take-le (max 1 n) s (omega arith)))
          (λ (none : length s ≤ 0). omega arith) (cases_lt 0 (length s)),
    )

pub front_is_longest : FrontIsLongest
front_is_longest s = grind (arith, front_of-longest s, longest_front_is_longest s)

-- if no prefix of s is a sequence (`BeginsWithNoSequence`), `longest_len is_sequence s` is 0
longest_len-BeginsWithNoSequence : (s : List ℕ) → BeginsWithNoSequence s
    → longest_len is_sequence s ≡ 0
longest_len-BeginsWithNoSequence s none =
    let n = longest_len is_sequence s in
    ⊎_elim (λ z. z) (λ t. absurd (none (take n s) t (drop n s, take-append-drop n s)))
    (longest_len-longest is_sequence s).passes

pub lossy_of_broken : LossyOfBroken
lossy_of_broken [] some none = absurd (omega arith)
lossy_of_broken (b ∷ bs) some none =
    grind (arith, lossy_of-none, longest_len-BeginsWithNoSequence, front_of-longest)

-- U+FFFD is a sequence
pub replacement_is_sequence : is_sequence replacement ≡ true
unfolding is_sequence
replacement_is_sequence = refl

-- the bytes that are shown for u as a front, either u itself or U+FFFD, are a sequence
shown_front_is_sequence : (u : List ℕ) → is_sequence (shown_front u) ≡ true
shown_front_is_sequence u = grind (arith, replacement_is_sequence)

-- if no prefix of s is a sequence, the longest prefix of s that begins a sequence has at most three
-- bytes
beginning_is_short : (s : List ℕ) → longest_len is_sequence s ≡ 0
    → max 1 (longest_len begins_sequence s) ≤ 3
beginning_is_short s z =
    let n = longest_len begins_sequence s in
    let h = longest_len-longest begins_sequence s in
    ⊎_elim (λ e. omega arith)
    (λ t. by (length-take-le n s h.within) (BeginsSequence-from (take n s) t)) h.passes
  where
    by : length (take (longest_len begins_sequence s) s) ≡ longest_len begins_sequence s
        → BeginsSequence (take (longest_len begins_sequence s) s)
        → max 1 (longest_len begins_sequence s) ≤ 3
    by e ([], is) =
        let n = longest_len begins_sequence s in
        let whole = subst IsSequence (append-nil (take n s)) is in
        absurd (no_sequence s (take n s) (drop n s) z (sym (take-append-drop n s)) whole)
    by e (x ∷ u, is) =
        let n = longest_len begins_sequence s in
        let four = (sequence_len (take n s ++ x ∷ u) is).1 in
        omega (arith, length-append (take n s) (x ∷ u))

-- if no prefix of s is a sequence, the first front of s has at most three bytes
pub longest_front_is_short : (s : List ℕ) → longest_len is_sequence s ≡ 0
    → length (longest_front_of s) ≤ 3
unfolding longest_front_of
longest_front_is_short s z = grind (arith, common_steps, beginning_is_short)

pub broken_is_short : BrokenIsShort
broken_is_short s none =
    grind (arith, front_of-longest, longest_front_is_short, longest_len-BeginsWithNoSequence)

-- for each u of us, the bytes that are shown for u as a front are a sequence
shown_fronts_are_sequences : (us : List (List ℕ))
    → list_all is_sequence (map shown_front us) ≡ true
shown_fronts_are_sequences [] = refl
shown_fronts_are_sequences (u ∷ us) =
    rw (shown_front_is_sequence u, shown_fronts_are_sequences us) refl

pub lossy_is_text : LossyIsText
unfolding lossy_of
lossy_is_text s =
    let us = map shown_front (fronts_of s) in
    let all = shown_fronts_are_sequences (fronts_of s) in (
      us,
      AllPass-from_list_all is_sequence us all,
      concat_is us ∙ flat_map-map (λ u. u) shown_front (fronts_of s),
    )
