-- Windows of UTF-8: consecutive bytes, each of which may follow the three bytes before it.
use Rattle.std.proofs.Common.{◌≡◌, ℕ, zero, suc, ◌+◌, ◌-◌, ◌<◌, ◌≤◌, List, [], ◌∷◌, ◌++◌, length}
use Rattle.std.proofs.Common.{take, drop, ⊎_elim, inl, inr, refl, sym, ap, ◌∙◌}
use Rattle.std.proofs.Common.{subst, arith, slice_index, length-append, length-take-le, le-leb}
use Rattle.std.proofs.Common.{le_refl}
use Rattle.std.proofs.lemmas.Bool.{cases_lt, lt-leb}
use Rattle.std.proofs.Math.Seq.{take-append-add}
use Rattle.std.proofs.lemmas.Grind.{common_steps}
use Rattle.unix_bytes.specs.Utf8.{IsSequence, IsText}
use Rattle.unix_bytes.specs.Windows.{min_second, max_second, unfinished_len, IsFinished}
use Rattle.unix_bytes.specs.Windows.{Fits, FitAfter, FitsWindow}
use Rattle.unix_bytes.proofs.lemmas.sequences.SequenceLemmas.{IsSequence-one, IsSequence-two}
use Rattle.unix_bytes.proofs.lemmas.sequences.SequenceLemmas.{IsSequence-three}
use Rattle.unix_bytes.proofs.lemmas.sequences.SequenceLemmas.{IsSequence-four}
use Rattle.unix_bytes.proofs.lemmas.text.TextLemmas.{IsText-nil, IsText-append, IsText-sequence}

-- of the bytes a, b, c and then those of the list: how many at the end belong to an unfinished
-- sequence
abbrev unfinished_after : ℕ → ℕ → ℕ → List ℕ → ℕ
unfinished_after a b c [] = unfinished_len a b c
unfinished_after a b c (d ∷ s) = unfinished_after b c d s

-- the bytes s, which come after a, b and c, are valid UTF-8 up to an unfinished sequence at the end
-- of s; `len` is the number of the valid bytes
record TextPrefix (a b c : ℕ) (s : List ℕ) : Type 0 where
  len : ℕ
  whole : len + unfinished_after a b c s ≡ length s
  text : IsText (take len s)

-- if a, b and c leave no sequence unfinished, none of these three bytes belongs to an unfinished
-- one
unfinished_len-finished : (a b c : ℕ) → IsFinished a b c → unfinished_len a b c ≡ 0
unfinished_len-finished a b c h = rw (lt-leb 0xC0 c h.2, lt-leb 0xE0 b h.1, lt-leb 0xF0 a h.0) refl

-- the upper bound of the byte after c is at most F4
max_bound : (c : ℕ) → max_second c ≤ 0xF4
max_bound c = grind arith

-- if all bytes of s, and none of a, b and c before them, belong to an unfinished sequence,
-- `TextPrefix a b c s` holds with an empty valid prefix
no_prefix : (a b c : ℕ) (s : List ℕ) → unfinished_after a b c s ≡ length s → TextPrefix a b c s
no_prefix a b c s e = record { len = 0; whole = omega (arith, e); text = IsText-nil }

-- if u is a sequence of n bytes, `TextPrefix x y z s` holds, and as many bytes are unfinished at
-- the end of a, b, c, u and s as at the end of x, y, z and s, then `TextPrefix a b c` holds of u
-- followed by s
more_prefix : (u s : List ℕ) (a b c x y z n : ℕ) → IsSequence u → length u ≡ n → TextPrefix x y z s
    → unfinished_after a b c (u ++ s) ≡ unfinished_after x y z s → TextPrefix a b c (u ++ s)
more_prefix u s a b c x y z n h l f e = record {
  len = n + f.len;
  whole = omega (arith, e, f.whole, length-append u s);
  text = subst IsText
      (sym (ap (λ k. take (k + f.len) (u ++ s)) (sym l) ∙ take-append-add u s f.len))
      (IsText-append u (take f.len s) (IsText-sequence u h) f.text);
}

-- if c is at least C0, then of a, b and c one byte belongs to an unfinished sequence
unfinished_len-one : (a b c : ℕ) → 0xC0 ≤ c → unfinished_len a b c ≡ 1
unfinished_len-one a b c h = rw (le-leb 0xC0 c h) refl

-- if e is within the bounds of the byte after d, e is at least A0 if d is E0, at most 9F if d is
-- ED, at least 90 if d is F0, and at most 8F if d is F4
second_bounds : (d e : ℕ) → min_second d ≤ e → e ≤ max_second d
    → (d ≡ 0xE0 → 0xA0 ≤ e) × (d ≡ 0xED → e ≤ 0x9F) × (d ≡ 0xF0 → 0x90 ≤ e) × (d ≡ 0xF4 → e ≤ 0x8F)
second_bounds d e l m = grind arith

-- for all a, b, c and s: if s has at most n bytes, a, b and c leave no sequence unfinished, and
-- each byte of s may follow the three bytes before it, then `TextPrefix a b c s` holds
abbrev HasPrefixUpTo : ℕ → Type 0
HasPrefixUpTo n =
    (a b c : ℕ) (s : List ℕ) → length s ≤ n → IsFinished a b c → FitAfter a b c s
    → TextPrefix a b c s

-- `HasPrefixUpTo` holds of n, and a, b and c leave no sequence unfinished
module _ (n : ℕ) (fewer : HasPrefixUpTo n) (a b c d : ℕ) (k : IsFinished a b c) where
  -- if d is from C2 to DF, s has at most n bytes, and after b, c and d each byte of s may follow
  -- the three bytes before it, then `TextPrefix a b c` holds of d followed by s
  two_byte_prefix : (s : List ℕ) → length s ≤ n → 0xC2 ≤ d → d ≤ 0xDF → FitAfter b c d s
      → TextPrefix a b c (d ∷ s)
  two_byte_prefix [] le g l hs = no_prefix _ _ _ _ (unfinished_len-one b c d (omega arith))
  two_byte_prefix (e ∷ s) le g l (h, hs) =
      let (lo, hi) = h.goes.within (inr (inr (omega arith))) in
      more_prefix (d ∷ e ∷ []) s a b c c d e 2 (IsSequence-two d e (g, l, lo, hi)) refl
      (fewer c d e s (omega arith) (omega arith, omega arith, omega arith) hs) refl

  -- if d is from E0 to EF, s has at most n bytes, and after b, c and d each byte of s may follow
  -- the three bytes before it, then `TextPrefix a b c` holds of d followed by s
  three_byte_prefix : (s : List ℕ) → length s ≤ n → 0xE0 ≤ d → d ≤ 0xEF → FitAfter b c d s
      → TextPrefix a b c (d ∷ s)
  three_byte_prefix [] le g l hs = no_prefix _ _ _ _ (unfinished_len-one b c d (omega arith))
  three_byte_prefix (e ∷ []) le g l (h, hs) = grind arith
  three_byte_prefix (e ∷ f ∷ s) le g l (h, (i, hs)) =
      let (lo, hi) = h.goes.within (inr (inr (omega arith))) in
      let (lo2, hi2) = i.goes.within (inr (inl g)) in
      let second = second_bounds d e h.min h.max in
      more_prefix (d ∷ e ∷ f ∷ []) s a b c d e f 3
      (IsSequence-three d e f (g, l, lo, hi, lo2, hi2, second.0, second.1)) refl
      (fewer d e f s (omega arith) (omega arith, omega arith, omega arith) hs) refl

  -- if d is from F0 to F4, s has at most n bytes, and after b, c and d each byte of s may follow
  -- the three bytes before it, then `TextPrefix a b c` holds of d followed by s
  four_byte_prefix : (s : List ℕ) → length s ≤ n → 0xF0 ≤ d → d ≤ 0xF4 → FitAfter b c d s
      → TextPrefix a b c (d ∷ s)
  four_byte_prefix [] le g l hs = no_prefix _ _ _ _ (unfinished_len-one b c d (omega arith))
  four_byte_prefix (e ∷ f ∷ x ∷ s) le g l (h, (i, (j, hs))) =
      let (lo, hi) = h.goes.within (inr (inr (omega arith))) in
      let (lo2, hi2) = i.goes.within (inr (inl (omega arith))) in
      let (lo3, hi3) = j.goes.within (inl g) in
      let second = second_bounds d e h.min h.max in
      more_prefix (d ∷ e ∷ f ∷ x ∷ []) s a b c e f x 4
      (IsSequence-four d e f x (g, l, lo, hi, lo2, hi2, lo3, hi3, second.2, second.3)) refl
      (fewer e f x s (omega arith) (omega arith, omega arith, omega arith) hs) refl
  four_byte_prefix s le g l hs = grind arith

  -- if d may follow a, b and c, s has at most n bytes, and after b, c and d each byte of s may
  -- follow the three bytes before it, then `TextPrefix a b c` holds of d followed by s
  any_prefix : (s : List ℕ) → length s ≤ n → Fits a b c d → FitAfter b c d s
      → TextPrefix a b c (d ∷ s)
  any_prefix s le h hs =
      let last = max_bound c in
      let max = h.max in
      ⊎_elim (λ (l : d < 0x80).
      more_prefix (d ∷ []) s a b c b c d 1 (IsSequence-one d (omega arith)) refl
      (fewer b c d s le (omega arith, omega arith, omega arith) hs) refl)
      (λ (g : 0xC2 ≤ d).
      ⊎_elim (λ (l : d < 0xE0). two_byte_prefix s le g (omega arith) hs)
      (λ (e : 0xE0 ≤ d). ⊎_elim (λ (l : d < 0xF0). three_byte_prefix s le e (omega arith) hs)
      (λ (f : 0xF0 ≤ d). four_byte_prefix s le f (omega arith) hs) (cases_lt d 0xF0))
      (cases_lt d 0xE0))
      (h.goes.begins k)

-- `HasPrefixUpTo` holds of every n
has_prefix : (n : ℕ) → HasPrefixUpTo n
has_prefix n a b c [] le k h = no_prefix _ _ _ _ (unfinished_len-finished a b c k)
has_prefix zero a b c (d ∷ s) le k h = absurd (omega arith)
has_prefix (suc n) a b c (d ∷ s) le k (h, hs) = grind (arith, any_prefix, has_prefix n)

-- if s has at least n bytes: of the bytes a, b, c and then the first n of s, the last three
-- determine how many at the end belong to an unfinished sequence (`unfinished_len`)
unfinished_after-take : (n a b c : ℕ) (s : List ℕ) → n ≤ length s
    → unfinished_after a b c (take n s)
    ≡ unfinished_len (slice_index (a ∷ b ∷ c ∷ s) n) (slice_index (a ∷ b ∷ c ∷ s) (suc n))
    (slice_index (a ∷ b ∷ c ∷ s) (suc (suc n)))
unfinished_after-take zero a b c s le = refl
unfinished_after-take (suc n) a b c [] le = absurd (omega arith)
unfinished_after-take (suc n) a b c (d ∷ s) le = unfinished_after-take n b c d s (omega arith)

-- if w has at least 19 bytes, the first three leave no sequence unfinished, and each of the next 16
-- may follow the three bytes before it, then these 16 are valid UTF-8 up to an unfinished sequence
-- at their end
pub window_text : (w : List ℕ) → 19 ≤ length w
    → IsFinished (slice_index w 0) (slice_index w 1) (slice_index w 2) → FitsWindow w
    → let last = slice_index w in
    IsText (take (16 - unfinished_len (last 16) (last 17) (last 18)) (drop 3 w))
window_text (a ∷ b ∷ c ∷ s) l k h =
    let f = has_prefix (length (take 16 s)) a b c (take 16 s) (le_refl _) k h in
    let sixteen : length (take 16 s) ≡ 16 = length-take-le 16 s (omega arith) in
    let last = slice_index (a ∷ b ∷ c ∷ s) in
    let e : f.len ≡ 16 - unfinished_len (last 16) (last 17) (last 18) =
    omega (arith, f.whole, unfinished_after-take 16 a b c s (omega arith)) in
    grind (arith, common_steps)
window_text w l k h = absurd (omega arith)
