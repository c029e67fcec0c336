-- The filler between two components.
use Rattle.std.proofs.Common.{◌≡◌, ℕ, suc, ◌+◌, ◌≤◌, ◌<◌, true, false, ◌&&◌, eqb, List}
use Rattle.std.proofs.Common.{[], ◌∷◌, length, get_or, drop, refl, ap, ◌∙◌}
use Rattle.std.proofs.Common.{arith, get_or-drop}
use Rattle.std.specs.List.{position_or_len}
use Rattle.std.specs.Str.{bytes_eq}
use Rattle.std.proofs.lemmas.Grind.{common_steps}
use Rattle.unix_bytes.proofs.lemmas.lists.ListLemmas.{by_test}
use Rattle.unix_path.proofs.lemmas.parts.PieceLemmas.{inner_parts-dot, inner_parts-dot_slash}
use Rattle.unix_path.proofs.lemmas.parts.PieceLemmas.{inner_parts-first, inner_parts-nil}
use Rattle.unix_path.proofs.lemmas.parts.PieceLemmas.{inner_parts-slash, first_piece}
use Rattle.unix_path.specs.Parts.{inner_parts, cur_dir, is_slash, leading_part, parts}
use Rattle.unix_path.specs.Parts.{value_of_piece, values}
use Rattle.unix_path.specs.Scan.{is_filler}
use Rattle.unix_path.specs.CommonDir.{inner_values}
use Rattle.std.proofs.lemmas.List.{get_or_default}
use Rattle.std.proofs.lemmas.List.{get_or_past}

-- if the first byte of s is filler, removing it changes neither the inner components nor their
-- positions
inner_parts_filler : (at : ℕ) (s : List ℕ) → 0 < length s → is_filler s 0 ≡ true
    → inner_parts at s ≡ inner_parts (at + 1) (drop 1 s)
inner_parts_filler at [] l e = absurd (omega arith)
inner_parts_filler at (b ∷ s) l e =
    grind (
      arith,
      common_steps,
      inner_parts-slash,
      inner_parts-dot,
      inner_parts-nil,
      inner_parts-dot_slash,
    )

-- whether the byte of s at i is filler doesn't depend on the bytes before it
pub is_filler-drop : (s : List ℕ) (i : ℕ) → is_filler (drop i s) 0 ≡ is_filler s i
is_filler-drop s i = grind (arith, get_or-drop)

-- if the byte of s at i is a slash, `is_filler` is true for it
pub filler_slash : (s : List ℕ) (i : ℕ) → get_or s i 0 ≡ 47 → is_filler s i ≡ true
filler_slash s i e = rw e refl

-- if the byte of s at i is a `.` before a slash or the end of s, `is_filler` is true for it
pub filler_dot : (s : List ℕ) (i : ℕ) → get_or s i 0 ≡ 46 → get_or s (i + 1) 47 ≡ 47
    → is_filler s i ≡ true
filler_dot s i e next = rw (e, next) refl

-- if the byte of s at index i is filler, the inner components of s from i on are the inner
-- components of s from i + 1 on, at the same positions
pub inner_parts_filler_at : (at : ℕ) (s : List ℕ) (i : ℕ) → i < length s → is_filler s i ≡ true
    → inner_parts (at + i) (drop i s) ≡ inner_parts (at + (i + 1)) (drop (i + 1) s)
inner_parts_filler_at at s i l e = grind (arith, common_steps, inner_parts_filler)

-- the first piece of s is empty if and only if s is empty or begins with a slash
pub first_piece_empty : (s : List ℕ) → bytes_eq (first_piece s) [] ≡ eqb (get_or s 0 47) 47
first_piece_empty [] = refl
first_piece_empty (b ∷ s) = grind (arith, common_steps)

-- the first piece of s is `.` if and only if s is `.` or begins with `./`
pub first_piece_dot : (s : List ℕ)
    → bytes_eq (first_piece s) cur_dir ≡ (eqb (get_or s 0 0) 46 && eqb (get_or s 1 47) 47)
first_piece_dot [] = refl
first_piece_dot (b ∷ s) = grind (arith, common_steps)

-- if s is not empty and doesn't begin with filler, its inner components are the component of its
-- first piece, and then the inner components of the bytes after this piece
pub inner_parts_not_filler : (at : ℕ) (s : List ℕ) → 0 < length s → is_filler s 0 ≡ false
    → inner_parts at s ≡ record
    { start = at; end = at + length (first_piece s); value = value_of_piece (first_piece s) }
    ∷ inner_parts (at + position_or_len is_slash s) (drop (position_or_len is_slash s) s)
inner_parts_not_filler at s l e = grind (arith, common_steps, inner_parts-first at s)

-- if s is empty or doesn't begin with filler, it has neither a root nor a leading `.`, so its
-- components are its inner components
pub parts-not_filler : (s : List ℕ) → (0 < length s → is_filler s 0 ≡ false) → parts s
    ≡ inner_parts 0 s
unfolding parts leading_part
parts-not_filler [] h = refl
parts-not_filler (b ∷ s) h = grind (arith, common_steps)

-- if s doesn't begin with filler, it has the same components at the beginning of a path as after a
-- slash
pub values-not_filler : (s : List ℕ) → is_filler s 0 ≡ false → values s ≡ inner_values s
unfolding values
values-not_filler s not_filler = grind (arith, parts-not_filler)

-- the first `len` bytes of s are filler, and a component or the end of s follows them
pub record SkipsFiller (s : List ℕ) : Type 0 where
  pub len : ℕ
  pub in_range : len ≤ length s
  pub same : (at : ℕ) → inner_parts at s ≡ inner_parts (at + len) (drop len s)
  pub not_filler : 0 < length (drop len s) → is_filler (drop len s) 0 ≡ false

-- every string s begins with filler, possibly none, which a component or the end of s follows
pub skips_filler : (s : List ℕ) → SkipsFiller s
skips_filler [] = grind arith
skips_filler (b ∷ s) = by_test (is_filler (b ∷ s) 0)
    (λ e. let next = skips_filler s in record {
      len = suc next.len;
      in_range = omega (arith, next.in_range);
      same = λ at. inner_parts_filler at (b ∷ s) (omega arith) e ∙ next.same (at + 1)
          ∙ ap (λ n. inner_parts n (drop next.len s)) {x = at + 1 + next.len}
          {y = at + suc next.len}
          (omega arith);
      not_filler = next.not_filler;
    })
    (λ e. record {
      len = 0;
      in_range = omega arith;
      same = λ at. ap (λ n. inner_parts n (b ∷ s)) {x = at} {y = at + 0} (omega arith);
      not_filler = λ _. e;
    })

-- a slash, or a dot at the end or before a slash, is filler
pub ruleset filler_steps =
    (filler_dot, filler_slash, inner_parts_filler_at, get_or_default, get_or_past)
