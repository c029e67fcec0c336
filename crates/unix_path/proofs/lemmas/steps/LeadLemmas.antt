-- The first component of a string, by its first bytes.
use Rattle.std.proofs.Common.{◌≡◌, ℕ, ◌+◌, ◌≤◌, ◌<◌, true, false, ◌&&◌, eqb, List, [], ◌∷◌, length}
use Rattle.std.proofs.Common.{get_or, drop, sym, ap, ◌∙◌, arith}
use Rattle.std.proofs.Common.{length-drop, map}
use Rattle.std.proofs.lemmas.Bool.{or_parts}
use Rattle.std.proofs.lemmas.Grind.{common_steps}
use Rattle.unix_path.proofs.lemmas.filler.FillerLemmas.{is_filler-drop, parts-not_filler}
use Rattle.unix_path.proofs.lemmas.parts.PartLemmas.{parts-name}
use Rattle.unix_path.proofs.lemmas.parts.PieceLemmas.{first_piece}
use Rattle.unix_path.proofs.lemmas.steps.StepLemmas.{takes_first, TakesFirst}
use Rattle.unix_path.specs.Parts.{Value, CurDir, ParentDir, Normal}
use Rattle.unix_path.specs.Parts.{inner_parts, parts, values}
use Rattle.unix_path.proofs.lemmas.parts.PlaceLemmas.{values-inner_parts}
use Rattle.unix_path.specs.Scan.{starts_with_parent_dir, is_filler}
use Rattle.unix_path.specs.CommonDir.{inner_values}
use Rattle.unix_path.specs.Scan.{EndsInPart}
use Rattle.unix_path.proofs.lemmas.parts.ValueLemmas.{first_value}
use Rattle.unix_path.proofs.lemmas.parts.PartLemmas.{parts-root}
use Rattle.std.proofs.lemmas.List.{take_rest}

-- the first component of s has the value v, and with the filler after it this component has n bytes
pub record StepsFirst (s : List ℕ) (n : ℕ) (v : Value) : Type 0 where
  pub in_range : n ≤ length s
  pub value : values s ≡ v ∷ values (drop n s)
  pub takes : EndsInPart s → TakesFirst s (drop n s) v
  pub not_filler : 0 < length (drop n s) → is_filler (drop n s) 0 ≡ false

-- if s begins with filler that isn't a slash, which is a leading `.`, the components of s are this
-- `.`, and then the inner components of the bytes after it
pub parts-dot_first : (s : List ℕ) → 0 < length s → is_filler s 0 ≡ true
    → eqb (get_or s 0 0) 47 ≡ false
    → parts s ≡ record { start = 0; end = 1; value = CurDir } ∷ inner_parts 1 (drop 1 s)
parts-dot_first [] l e differs = absurd (omega arith)
parts-dot_first (b ∷ s) l e differs = grind (arith, common_steps, parts-name)

-- a string of one byte doesn't begin with `..`
one_byte_no_parent : (b : ℕ) → (eqb b 46 && false) ≡ true → ⊥
one_byte_no_parent b e = grind arith

-- if the first piece of s is `..`, the components of s are `..`, and then the inner components of
-- the bytes after it
pub parts-parent_first : (s : List ℕ) → starts_with_parent_dir s ≡ true
    → parts s ≡ record { start = 0; end = 2; value = ParentDir } ∷ inner_parts 2 (drop 2 s)
parts-parent_first [] e = cc
parts-parent_first (b ∷ []) e = absurd (one_byte_no_parent b e)
parts-parent_first (b ∷ c ∷ s) e = grind (arith, common_steps, parts-name)

-- if the first piece of s is `..`, the components of s, without positions, are `..`, and then the
-- inner components of the bytes after it
pub values-parent_first : (s : List ℕ) → starts_with_parent_dir s ≡ true
    → values s ≡ ParentDir ∷ inner_values (drop 2 s)
unfolding values
values-parent_first s e = grind (arith, parts-parent_first, values-inner_parts)

-- if the first piece of s is `..`, s has at least two bytes
pub length-parent_first : (s : List ℕ) → starts_with_parent_dir s ≡ true → 2 ≤ length s
length-parent_first [] e = cc
length-parent_first (b ∷ []) e = absurd (one_byte_no_parent b e)
length-parent_first (b ∷ c ∷ s) e = omega arith

-- a string that doesn't begin with filler doesn't begin with a slash
pub not_filler_no_slash : (s : List ℕ) → is_filler s 0 ≡ false → eqb (get_or s 0 0) 47 ≡ false
not_filler_no_slash s e = (or_parts (eqb (get_or s 0 0) 47) _ e).0

-- if s is not empty and begins with no filler, and its first piece isn't `..`, this piece is a name
pub first_value-name : (s : List ℕ) → 0 < length s → is_filler s 0 ≡ false
    → starts_with_parent_dir s ≡ false → first_value (first_piece s) ≡ Normal (first_piece s)
first_value-name s l not_filler e = grind (arith, common_steps)

-- the first component of t is v and ends at e, the filler after it ends at n, and the other
-- components are the inner components of the bytes from n on
pub record IsFirst (t : List ℕ) (e n : ℕ) (v : Value) : Type 0 where
  pub in_range : n ≤ length t
  pub parts_are : parts t ≡ record { start = 0; end = e; value = v } ∷ inner_parts n (drop n t)
  pub not_filler : n < length t → is_filler t n ≡ false

-- if the first component of t is v and ends at e, and exactly d bytes of filler follow it, then
-- `IsFirst` holds for t, e, `e + d` and v: this filler ends at `e + d`
pub is_first : (t : List ℕ) (e d : ℕ) (v : Value) → e ≤ length t
    → parts t ≡ record { start = 0; end = e; value = v } ∷ inner_parts e (drop e t)
    → d ≤ length (drop e t)
    → inner_parts e (drop e t) ≡ inner_parts (e + d) (drop d (drop e t))
    → (d < length (drop e t) → is_filler (drop e t) d ≡ false) → IsFirst t e (e + d) v
is_first t e d v l first m filler not_filler = grind (arith, common_steps)

-- if the first component of t is v, and the filler after it ends at n, a step over n bytes removes
-- v
pub steps_first : (t : List ℕ) (e n : ℕ) (v : Value) → IsFirst t e n v → StepsFirst t n v
unfolding values
steps_first t e n v h =
    let u = drop n t in
    let next : 0 < length u → is_filler u 0 ≡ false =
    λ some. is_filler-drop t n ∙ h.not_filler (omega (arith, length-drop n t)) in
    record {
      in_range = h.in_range;
      value = ap (map (λ p. p.value)) h.parts_are
          ∙ ap (λ vs. v ∷ vs) (values-inner_parts n u
          ∙ ap (map (λ p. p.value)) (sym (parts-not_filler u next)));
      takes = λ ends. takes_first t e n v ends h.in_range h.parts_are next;
      not_filler = next;
    }

-- the first component is the root or a leading `.`
pub ruleset leads = (parts-root, parts-dot_first)

-- the first component is a `..` or a name, and filler after it is skipped
pub ruleset first_steps = (
  is_first,
  length-parent_first,
  parts-parent_first,
  first_value-name,
  not_filler_no_slash,
  parts-name,
  take_rest,
)
