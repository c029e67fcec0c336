-- A name split at its last dot.
use Rattle.std.proofs.Common.{◌≡◌, ◌≢◌, ℕ, ◌+◌, ◌-◌, ◌<◌, false, eqb, List, [], ◌∷◌, ◌++◌, length}
use Rattle.std.proofs.Common.{get_or, drop, Some, None, sym, ap, ap₂, ◌∙◌, arith, eqb-true, eq-eqb}
use Rattle.std.proofs.Common.{length-append, append_assoc}
use Rattle.std.proofs.Math.Seq.{get_or-append_seam}
use Rattle.std.proofs.lemmas.Bool.{both_ways}
use Rattle.std.proofs.lemmas.List.{take_at, drop_at, take-append-drop}
use Rattle.std.proofs.lemmas.List.Elements.{All-nil, All-cons}
use Rattle.std.specs.List.{position_or_len}
use Rattle.std.proofs.lemmas.List.Sums.{position_or_len_is}
use Rattle.unix_path.specs.Names.{after_last, split_name}
use Rattle.unix_bytes.proofs.lemmas.lists.ListLemmas.{by_test}
use Rattle.unix_path.proofs.lemmas.names.NameLemmas.{is_dot, after_last-byte, split_name-whole}
use Rattle.unix_path.proofs.lemmas.names.NameLemmas.{split_name-cut, split_name-stem}
use Rattle.path_runs.specs.EditLaws.{HasNoByte}

-- if no byte of s is b, and k is less than the length of s, byte k of s isn't b
none_at : (s : List ℕ) (b k : ℕ) → HasNoByte b s → k < length s → eqb (get_or s k 0) b ≡ false
none_at s b k h l = grind (arith, eqb-true)

-- if no byte of s is b, searching s for b yields the length of s
pub none_found : (s : List ℕ) (b : ℕ) → HasNoByte b s → position_or_len (λ c. eqb c b) s ≡ length s
none_found s b h = position_or_len_is (λ c. eqb c b) s (length s) 0 (omega arith)
    (λ k l. none_at s b k h l) (λ l. absurd (omega arith))

after_last-none : (s : List ℕ) → HasNoByte 46 s → 0 ≡ after_last is_dot s
after_last-none s h =
    after_last-byte 46 s 0 (omega arith) (λ l. absurd (omega arith)) (none_found s 46 h)

drop-past_dot : (f x : List ℕ) → drop (length f + 1) (f ++ 46 ∷ x) ≡ x
drop-past_dot f x = ap (drop (length f + 1)) (sym (append_assoc f (46 ∷ []) x))
    ∙ drop_at (f ++ 46 ∷ []) x (length f + 1) (length-append f (46 ∷ []))

-- if x has no dot, the last dot in f, a dot and x is the dot after f: the index just after this dot
-- is `length f + 1`
after_last-dot : (f x : List ℕ) → HasNoByte 46 x → length f + 1 ≡ after_last is_dot (f ++ 46 ∷ x)
after_last-dot f x h =
    let s = f ++ 46 ∷ x in
    after_last-byte 46 s (length f + 1) (omega (arith, length-append f (46 ∷ x)))
    (λ l. ap (λ i. get_or s i 0) {x = length f + 1 - 1} {y = length f} (omega arith)
    ∙ get_or-append_seam f 46 x 0)
    (rw (drop-past_dot f x) (none_found x 46 h))

-- s has no dot, or s is f, then the last dot of s, and then x
data LastDot (s : List ℕ) : Type 0 where
  NoDot : HasNoByte 46 s → LastDot s
  AtDot : (f x : List ℕ) → s ≡ f ++ 46 ∷ x → HasNoByte 46 x → LastDot s

last_dot-cons : (b : ℕ) (s : List ℕ) → LastDot s → LastDot (b ∷ s)
last_dot-cons b s (AtDot f x e h) = AtDot (b ∷ f) x (ap (λ z. b ∷ z) e) h
last_dot-cons b s (NoDot h) = by_test (eqb b 46)
    (λ e. AtDot [] s (ap (λ b. b ∷ s) (eqb-true b 46 e)) h)
    (λ e. NoDot (All-cons (λ c. c ≢ 46) b s (λ is. both_ways _ e (eq-eqb b 46 is)) h))

last_dot : (s : List ℕ) → LastDot s
last_dot [] = NoDot (All-nil (λ c. c ≢ 46))
last_dot (b ∷ s) = last_dot-cons b s (last_dot s)

-- if f isn't empty and x has no dot, f followed by a dot and x has the stem f and the extension x
pub split_name-dot : (f x : List ℕ) → 0 < length f → HasNoByte 46 x
    → split_name (f ++ 46 ∷ x) ≡ (f, Some x)
split_name-dot f x l h =
    let n = length f + 1 in
    split_name-cut (f ++ 46 ∷ x) n (after_last-dot f x h) (omega arith)
    ∙ ap₂ (λ a b. (a, Some b)) (take_at f (46 ∷ x) (n - 1) (omega arith)) (drop-past_dot f x)

-- either `name` has no extension and is its own stem, or it is its stem, which isn't empty, a dot
-- and its extension
pub data SplitCase (name : List ℕ) : Type 0 where
  Whole : split_name name ≡ (name, None) → SplitCase name
  Cut : (b : ℕ) (f x : List ℕ) → name ≡ b ∷ f ++ 46 ∷ x
      → split_name name ≡ (b ∷ f, Some x) → SplitCase name

pub split_case : (name : List ℕ) → SplitCase name
split_case name = by (last_dot name)
  where
    by : LastDot name → SplitCase name
    by (NoDot h) = Whole (split_name-whole name 0 (after_last-none name h) (omega arith))
    by (AtDot [] x e h) = Whole (split_name-whole name 1
        (after_last-dot [] x h ∙ ap (after_last is_dot) (sym e)) (omega arith))
    by (AtDot (b ∷ f) x e h) =
        Cut b f x e (ap split_name e ∙ split_name-dot (b ∷ f) x (omega arith) h)

-- a name begins with its stem
pub stem_prefix : (name : List ℕ) → (r : List ℕ) × (name ≡ (split_name name).0 ++ r)
stem_prefix name =
    let n = length (split_name name).0 in
    grind (arith, take-append-drop n name, split_name-stem name)
