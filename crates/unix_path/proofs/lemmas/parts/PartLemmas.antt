-- The components of a whole string, by its first byte.
use Rattle.std.proofs.Common.{◌≡◌, ℕ, ◌<◌, Bool, true, false, cond, eqb, List, [], ◌∷◌}
use Rattle.std.proofs.Common.{length, get_or, drop, map, eqb-true, refl, sym, ap}
use Rattle.std.proofs.Common.{◌∙◌, arith}
use Rattle.std.specs.List.{position_or_len}
use Rattle.std.specs.Str.{bytes_eq}
use Rattle.std.proofs.lemmas.List.{nil_from_length}
use Rattle.std.proofs.lemmas.Grind.{common_steps}
use Rattle.unix_bytes.proofs.lemmas.lists.ListLemmas.{by_test}
use Rattle.unix_path.proofs.lemmas.parts.PieceLemmas.{inner_parts-first, inner_parts-slash}
use Rattle.unix_path.proofs.lemmas.parts.PieceLemmas.{first_piece}
use Rattle.unix_path.specs.Parts.{Value, parent_dir, is_rooted, CurDir, Part, RootDir, inner_parts}
use Rattle.unix_path.specs.Parts.{cur_dir, is_slash, leading_part, parts, values}
use Rattle.unix_path.specs.Rest.{rest}
use Rattle.unix_path.proofs.lemmas.parts.ValueLemmas.{first_value}

abbrev root : Part
root = record { start = 0; end = 1; value = RootDir }

-- if s begins with a slash, the components of s are the root, and then the inner components of the
-- bytes after the slash
pub parts-root : (s : List ℕ) → get_or s 0 0 ≡ 47
    → parts s ≡ record { start = 0; end = 1; value = RootDir } ∷ inner_parts 1 (drop 1 s)
unfolding parts leading_part
parts-root [] e = absurd (omega arith)
parts-root (b ∷ s) e = ap (λ b. parts (b ∷ s)) e ∙ ap (λ ps. root ∷ ps) (inner_parts-slash 0 s)

-- s is rooted if and only if it has a byte 0, and this byte is a slash
pub is_rooted-at : (s : List ℕ) → is_rooted s ≡ eqb (get_or s 0 0) 47
is_rooted-at [] = refl
is_rooted-at (b ∷ s) = refl

-- if s doesn't begin with a slash, it has a leading `.` if and only if its first piece is `.`
pub leading_part-name : (s : List ℕ) → eqb (get_or s 0 0) 47 ≡ false
    → leading_part s ≡ cond (bytes_eq (first_piece s) cur_dir)
    (record { start = 0; end = 1; value = CurDir } ∷ []) []
unfolding leading_part
leading_part-name s e = grind (arith, is_rooted-at)

-- if s begins with a byte other than a slash, the components of s are the component of its first
-- piece, and then the inner components of the bytes after this piece
pub parts-name : (s : List ℕ) → 0 < length s → eqb (get_or s 0 0) 47 ≡ false
    → parts s ≡ record {
      start = 0;
      end = position_or_len is_slash s;
      value = first_value (first_piece s);
    } ∷ inner_parts (position_or_len is_slash s)
    (drop (position_or_len is_slash s) s)
unfolding parts
parts-name s l e = grind (arith, common_steps, leading_part-name, inner_parts-first)

pub values-nil : values [] ≡ []
unfolding values parts leading_part inner_parts
values-nil = refl

pub rest-nil : (k m : ℕ) → rest [] k m ≡ []
unfolding rest parts leading_part inner_parts
rest-nil k m = grind arith

pub parts-nil : parts [] ≡ []
unfolding parts leading_part inner_parts
parts-nil = refl

-- if s is empty, it has no components
pub parts-none : (s : List ℕ) → length s ≡ 0 → parts s ≡ []
parts-none s e = ap parts (nil_from_length s e) ∙ parts-nil

-- if s is not empty, it has a component
pub some_values : (s : List ℕ) → 0 < length s
    → (v : Value) × (vs : List Value) × (values s ≡ v ∷ vs)
unfolding values
some_values s l = by_test (eqb (get_or s 0 0) 47)
    (λ e. (_, _, ap (map (λ (p : Part). p.value)) (parts-root s (eqb-true _ 47 e))))
    (λ e. (_, _, ap (map (λ (p : Part). p.value)) (parts-name s l e)))

-- if s has no components, it is empty
pub values-none : (s : List ℕ) → values s ≡ [] → s ≡ []
values-none [] none = refl
values-none (b ∷ s) none = let some = some_values (b ∷ s) (omega arith) in cc (some.2)

-- true if the first component is the root
abbrev pub root_first : List Value → Bool
root_first [] = false
root_first (RootDir ∷ vs) = true
root_first (_ ∷ vs) = false

-- the first component of s is the root if and only if byte 0 of s is a slash
pub root_first-values : (s : List ℕ) → root_first (values s) ≡ is_rooted s
unfolding values
root_first-values [] = ap (λ ps. root_first (map (λ p. p.value) ps)) parts-nil
root_first-values (b ∷ s) = by_test (eqb b 47)
    (λ e. rw (parts-root (b ∷ s) (eqb-true b 47 e)) (sym e))
    (λ e. rw (parts-name (b ∷ s) (omega arith) e) (no_root (first_piece (b ∷ s)) _ ∙ sym e))
  where
    no_root : (p : List ℕ) (vs : List Value) → root_first (first_value p ∷ vs) ≡ false
    no_root p vs = by_test (bytes_eq p cur_dir)
        (λ e. rw e refl)
        (λ e. by_test (bytes_eq p parent_dir) (λ f. rw (e, f) refl) (λ f. rw (e, f) refl))
