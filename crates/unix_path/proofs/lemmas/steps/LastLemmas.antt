-- The last piece of a string, and its last component.
use Rattle.std.proofs.Common.{◌≡◌, ℕ, zero, suc, ◌+◌, ◌-◌, ◌<◌, false, eqb, List, [], ◌∷◌}
use Rattle.std.proofs.Common.{◌++◌, length, get_or, take, drop, refl, ap, ◌∙◌, arith, ◌≤◌}
use Rattle.std.proofs.Common.{eqb-true}
use Rattle.std.specs.List.{position_or_len}
use Rattle.std.specs.Str.{bytes_eq}
use Rattle.std.proofs.lemmas.Grind.{common_steps}
use Rattle.unix_bytes.proofs.lemmas.lists.ListLemmas.{by_test}
use Rattle.unix_path.proofs.lemmas.parts.PartLemmas.{parts-name, parts-nil, parts-root}
use Rattle.unix_path.proofs.lemmas.parts.PieceLemmas.{inner_parts-first, inner_parts-nil}
use Rattle.unix_path.proofs.lemmas.parts.PieceLemmas.{no_slash_head}
use Rattle.unix_path.proofs.lemmas.parts.PieceLemmas.{position_or_len-other}
use Rattle.unix_path.proofs.lemmas.filler.TrimLemmas.{parts-append}
use Rattle.unix_path.proofs.lemmas.parts.ValueLemmas.{first_value}
use Rattle.unix_path.specs.Parts.{RootDir, inner_parts, cur_dir, is_slash, parts, value_of_piece}
use Rattle.unix_path.specs.Scan.{EndsInPart}

-- the last piece of s begins at `start`
pub record IsLastStart (s : List ℕ) (start : ℕ) : Type 0 where
  pub in_range : start ≤ length s
  pub after_slash : 0 < start → get_or s (start - 1) 0 ≡ 47
  pub no_slash : position_or_len is_slash (drop start s) ≡ length (drop start s)

-- if the last piece of s begins at `start`, and `start` is not 0, s is its first `start` - 1 bytes,
-- a slash, and the piece
split_last : (s : List ℕ) (start : ℕ) → IsLastStart s start → 0 < start
    → s ≡ take (start - 1) s ++ 47 ∷ drop start s
split_last s start h some = grind (arith, common_steps)

-- if y is a single piece, and neither empty nor `.`, its only inner component is that of the piece
inner_parts_one : (at : ℕ) (y : List ℕ) → position_or_len is_slash y ≡ length y
    → bytes_eq y [] ≡ false
    → bytes_eq y cur_dir ≡ false
    → inner_parts at y ≡ record { start = at; end = at + length y; value = value_of_piece y } ∷ []
inner_parts_one at y e some no_dot = grind (arith, common_steps, inner_parts-first, inner_parts-nil)

-- if the last piece of s comes after a slash, and is neither empty nor `.`, the components of s are
-- those of the bytes before this piece, and then the component of the piece
last_after_slash : (s : List ℕ) (start : ℕ) → IsLastStart s start → 0 < start
    → bytes_eq (drop start s) [] ≡ false → bytes_eq (drop start s) cur_dir ≡ false
    → parts s ≡ parts (take start s) ++ record
    { start = start; end = length s; value = value_of_piece (drop start s) } ∷ []
last_after_slash s start h some named no_dot =
    grind (arith, common_steps, split_last s start h some, inner_parts_one, parts-append)

-- if s ends in a component, and its last piece has at least one byte and comes after a slash, this
-- piece is neither empty nor `.`
pub last_is_significant : (s : List ℕ) (start : ℕ) → IsLastStart s start → 0 < start
    → start < length s → EndsInPart s → (bytes_eq (drop start s) [] ≡ false)
    × (bytes_eq (drop start s) cur_dir ≡ false)
last_is_significant s start h some l ends = grind (arith, common_steps)

-- if s ends in a component, and its last piece isn't empty, the components of s are those of the
-- bytes before this piece, and then the component of the piece
pub last_part : (s : List ℕ) (start : ℕ) → IsLastStart s start → start < length s → EndsInPart s
    → (at : ℕ) × (parts s ≡ parts
    (take start s) ++ record { start = at; end = length s; value = first_value (drop start s) }
    ∷ [])
last_part s zero h l ends =
    grind (
      arith,
      common_steps,
      parts-name s l (no_slash_head s h.no_slash l),
      inner_parts-nil,
      parts-nil,
    )
last_part s (suc k) h l ends =
    let c = last_is_significant s (suc k) h (omega arith) l ends in
    let y = drop (suc k) s in
    let v : value_of_piece y ≡ first_value y = rw c.1 refl in (
      suc k,
      last_after_slash s (suc k) h (omega arith) c.0 c.1
          ∙ ap (λ v. parts (take (suc k) s) ++ record { start = suc k; end = length s; value = v }
          ∷ []) v,
    )

-- if s isn't empty, ends in a component, and its last byte is a slash, the only component of s is
-- the root
pub root_alone : (s : List ℕ) → 0 < length s → EndsInPart s → get_or s (length s - 1) 0 ≡ 47
    → parts s ≡ record { start = 0; end = length s; value = RootDir } ∷ []
root_alone [] l ends e = absurd (omega arith)
root_alone (b ∷ []) l ends e = grind (arith, parts-root, inner_parts-nil)
root_alone (b ∷ c ∷ s) l ends e = grind arith

-- if the last piece of s begins at some index k, the last piece of b followed by s begins at some
-- index j
start_more : (b : ℕ) (s : List ℕ) (k : ℕ) → IsLastStart s k → (j : ℕ) × IsLastStart (b ∷ s) j
start_more b s zero h = by_test (eqb b 47)
    (λ e. (
      1,
      record {
        in_range = omega arith;
        after_slash = λ _. eqb-true b 47 e;
        no_slash = h.no_slash;
      },
    ))
    (λ e. (
      0,
      record {
        in_range = omega arith;
        after_slash = λ l. absurd (omega arith);
        no_slash = position_or_len-other b s e ∙ omega (arith, h.no_slash);
      },
    ))
start_more b s (suc k) h =
    let l = h.in_range in (
      suc (suc k),
      record {
        in_range = omega arith;
        after_slash = λ _. ap (λ i. get_or (b ∷ s) i 0) {x = suc (suc k) - 1} {y = suc k}
            (omega arith) ∙ ap (λ i. get_or s i 0) {x = k} {y = suc k - 1} (omega arith)
            ∙ h.after_slash (omega arith);
        no_slash = h.no_slash;
      },
    )

-- the last piece of s begins at some index
pub last_start : (s : List ℕ) → (k : ℕ) × IsLastStart s k
last_start [] = (
  0,
  record
      { in_range = omega arith; after_slash = λ l. absurd (omega arith); no_slash = refl },
)
last_start (b ∷ s) = start_more b s (last_start s).0 (last_start s).1
