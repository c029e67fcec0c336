-- Bytes cut into fronts, the test `is_text`, and lossy forms.
use Rattle.std.proofs.Common.{◌≡◌, ℕ, zero, suc, ◌≤◌, ◌<◌, List, [], ◌∷◌, ◌++◌, length, take, drop}
use Rattle.std.proofs.Common.{true, false, refl, sym, ap, ap₂, ◌∙◌, arith, le_refl, append_assoc}
use Rattle.std.proofs.Common.{length-drop, length-take-le, take-append-drop, append-nil}
use Rattle.std.proofs.Common.{if◌then◌else◌}
use Rattle.std.specs.List.{concat, flat_map, list_all}
use Rattle.std.proofs.lemmas.Bool.{and_parts, cond-true, false_from_ne_true}
use Rattle.std.proofs.lemmas.List.{drop_at}
use Rattle.std.proofs.lemmas.List.Concat.{flat_map-append}
use Rattle.std.proofs.lemmas.List.Sums.{AllPass-from_list_all, list_all-from_AllPass}
use Rattle.std.proofs.lemmas.Grind.{common_steps}
use Rattle.unix_bytes.specs.Utf8.{is_sequence, IsSequence, IsText}
use Rattle.unix_bytes.specs.Lossy.{fronts_of, replacement, lossy_of, is_text}
use Rattle.unix_bytes.specs.Steps.{longest_len, longest_front_of}
use Rattle.unix_bytes.proofs.lemmas.sequences.SequenceLemmas.{is_sequence-nil, sequence_len}
use Rattle.unix_bytes.proofs.lemmas.sequences.LongestLemmas.{longest_len-prefix}
use Rattle.unix_bytes.proofs.lemmas.sequences.FrontLemmas.{longest_front_of-sequence}
use Rattle.unix_bytes.proofs.lemmas.sequences.FrontLemmas.{longest_front_of-take}
use Rattle.unix_bytes.proofs.lemmas.sequences.FrontLemmas.{front_within}
use Rattle.unix_bytes.proofs.lemmas.sequences.GrowLemmas.{fronts_of-nil, fronts_of-some}

-- the bytes that are shown for u as a front: u if it is a sequence, and otherwise U+FFFD
abbrev pub shown_front : List ℕ → List ℕ
shown_front u = if is_sequence u then u else replacement

-- if u is a sequence, the fronts of u followed by s are u and then the fronts of s
fronts_of-sequence : (u s : List ℕ) → IsSequence u → fronts_of (u ++ s) ≡ u ∷ fronts_of s
fronts_of-sequence [] s h = let k = is_sequence-nil in cc
fronts_of-sequence (b ∷ u) s h =
    grind (arith, longest_front_of-sequence (b ∷ u) s h, fronts_of-some, drop_at)

-- if us are sequences, the byte string that is us, one after the other, and then s has the fronts
-- us and then the fronts of s
fronts_of-concat : (us : List (List ℕ)) (s : List ℕ) → list_all is_sequence us ≡ true
    → fronts_of (concat us ++ s) ≡ us ++ fronts_of s
fronts_of-concat [] s h = refl
fronts_of-concat (u ∷ us) s h =
    let k : IsSequence u × (list_all is_sequence us ≡ true) = and_parts _ _ h in
    grind (arith, append_assoc, fronts_of-sequence, fronts_of-concat us s k.1)

-- if at least one byte is dropped from a nonempty string of at most n + 1 bytes, at most n remain
pub length-drop-some : (n k b : ℕ) (bs : List ℕ) → 1 ≤ k → length (b ∷ bs) ≤ suc n
    → length (drop k (b ∷ bs)) ≤ n
length-drop-some n k b bs some le = omega (arith, length-drop k (b ∷ bs))

-- if s has at most n bytes, the fronts of s, one after the other, are s
concat-fronts_within : (n : ℕ) (s : List ℕ) → length s ≤ n → concat (fronts_of s) ≡ s
concat-fronts_within n [] le = ap concat fronts_of-nil
concat-fronts_within zero (b ∷ bs) le = absurd (omega arith)
concat-fronts_within (suc n) (b ∷ bs) le =
    let s = b ∷ bs in
    let k = length (longest_front_of s) in
    ap concat (fronts_of-some b bs)
    ∙ ap₂ (λ f t. f ++ t) (longest_front_of-take s)
    (concat-fronts_within n (drop k s) (length-drop-some n k b bs (front_within b bs).0 le))
    ∙ take-append-drop k s

-- the fronts of s, one after the other, are s
pub concat-fronts_of : (s : List ℕ) → concat (fronts_of s) ≡ s
concat-fronts_of s = concat-fronts_within (length s) s (le_refl (length s))

-- bytes that pass the test `is_text` are valid UTF-8
pub IsText-from_is_text : (s : List ℕ) → is_text s ≡ true → IsText s
unfolding is_text
IsText-from_is_text s h =
    (fronts_of s, AllPass-from_list_all is_sequence (fronts_of s) h, concat-fronts_of s)

-- if t is valid UTF-8, then t is some sequences us, one after the other, and the fronts of t
-- followed by s are us and then the fronts of s
pub fronts_of-text : (t s : List ℕ) → IsText t → (us : List (List ℕ))
    × (list_all is_sequence us ≡ true) × (concat us ≡ t) × (fronts_of (t ++ s) ≡ us ++ fronts_of s)
fronts_of-text t s (us, h, e) = grind (arith, list_all-from_AllPass, fronts_of-concat)

-- valid UTF-8 passes the test `is_text`
pub is_text-from_IsText : (s : List ℕ) → IsText s → is_text s ≡ true
unfolding is_text
is_text-from_IsText s t = grind (arith, fronts_of-text s [] t, append-nil, fronts_of-nil)

-- if t is valid UTF-8, and t followed by s is valid UTF-8, so is s
pub text_rest : (t s : List ℕ) → IsText t → IsText (t ++ s) → IsText s
unfolding is_text
text_rest t s h k =
    let (us, all, e, cut) = fronts_of-text t s h in
    let both : list_all is_sequence (us ++ fronts_of s) ≡ true =
    sym (ap (list_all is_sequence) cut) ∙ is_text-from_IsText (t ++ s) k in
    grind (arith, common_steps, IsText-from_is_text)

-- if us are sequences, the bytes that are shown for them as fronts are us, one after the other
flat_map-shown_front : (us : List (List ℕ)) → list_all is_sequence us ≡ true
    → flat_map shown_front us ≡ concat us
flat_map-shown_front [] h = refl
flat_map-shown_front (u ∷ us) h =
    let k : IsSequence u × (list_all is_sequence us ≡ true) = and_parts _ _ h in
    ap₂ (λ f t. f ++ t) (cond-true _ _ _ k.0) (flat_map-shown_front us k.1)

-- the lossy form of the empty byte string is empty
pub lossy_of-nil : lossy_of [] ≡ []
unfolding lossy_of
lossy_of-nil = ap (flat_map shown_front) fronts_of-nil

-- if t is valid UTF-8, the lossy form of t followed by s is t and then the lossy form of s
pub lossy_of-append : (t s : List ℕ) → IsText t → lossy_of (t ++ s) ≡ t ++ lossy_of s
unfolding lossy_of
lossy_of-append t s h = grind (arith, fronts_of-text t s h, flat_map-append, flat_map-shown_front)

-- valid UTF-8 is its own lossy form
pub lossy_of-text : (s : List ℕ) → IsText s → lossy_of s ≡ s
lossy_of-text s t = grind (arith, append-nil s, lossy_of-append s [] t, lossy_of-nil)

-- if `longest_len is_sequence s` is 0, no prefix u of s is a sequence
pub no_sequence : (s u v : List ℕ) → longest_len is_sequence s ≡ 0 → s ≡ u ++ v → IsSequence u → ⊥
no_sequence s u v z e h = grind (arith, longest_len-prefix is_sequence s u v h e, sequence_len)

-- if no prefix of s is a sequence, the first front of s is no sequence either
pub is_sequence-longest_front_of : (s : List ℕ) → longest_len is_sequence s ≡ 0
    → is_sequence (longest_front_of s) ≡ false
is_sequence-longest_front_of s z =
    let k = length (longest_front_of s) in
    let e : s ≡ longest_front_of s ++ drop k s =
    sym (take-append-drop k s) ∙ ap (λ f. f ++ drop k s) (sym (longest_front_of-take s)) in
    grind (arith, no_sequence)

-- if no prefix of a nonempty byte string is a sequence, its lossy form is U+FFFD and then the lossy
-- form of the bytes after its first front
pub lossy_of-none : (b : ℕ) (bs : List ℕ) → longest_len is_sequence (b ∷ bs) ≡ 0
    → lossy_of (b ∷ bs)
    ≡ replacement ++ lossy_of (drop (length (longest_front_of (b ∷ bs))) (b ∷ bs))
unfolding lossy_of
lossy_of-none b bs z = grind (arith, fronts_of-some, is_sequence-longest_front_of)

-- if no prefix of s is a sequence, no nonempty prefix of s is valid UTF-8
pub no_text : (s : List ℕ) (k : ℕ) → IsText (take k s) → 0 < k → k ≤ length s
    → longest_len is_sequence s ≡ 0 → ⊥
no_text s k (us, h, e) some within z =
    no_sequences us (list_all-from_AllPass is_sequence us h) e
  where
    no_sequences : (vs : List (List ℕ)) → list_all is_sequence vs ≡ true → concat vs ≡ take k s → ⊥
    no_sequences [] all f = absurd (omega (arith, ap length f, length-take-le k s within))
    no_sequences (v ∷ vs) all f =
        let front : s ≡ v ++ (concat vs ++ drop k s) =
        sym (take-append-drop k s) ∙ ap (λ t. t ++ drop k s) (sym f)
        ∙ append_assoc v (concat vs) (drop k s) in
        no_sequence s v (concat vs ++ drop k s) z front (and_parts _ _ all).0

-- invalid UTF-8 fails the test `is_text`
pub is_text-not : (s : List ℕ) → (IsText s → ⊥) → is_text s ≡ false
is_text-not s broken = false_from_ne_true (is_text s) (λ t. broken (IsText-from_is_text s t))
