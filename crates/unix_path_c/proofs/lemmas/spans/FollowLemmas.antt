-- Components come one after another, each as long as its bytes.
use Rattle.std.proofs.Common.{◌≡◌, ℕ, ◌+◌, ◌≤◌, ◌<◌, false, eqb, ltb, List, [], ◌∷◌, ◌++◌, length}
use Rattle.std.proofs.Common.{get_or, take, drop, sym, ap, subst, ◌∙◌, arith, eqb-true}
use Rattle.std.proofs.Common.{ltb-true, ltb-false}
use Rattle.std.specs.List.{position_or_len, slice_split}
use Rattle.unix_path.specs.Parts.{Part, Value, RootDir, counts, inner_parts, is_slash}
use Rattle.unix_path.specs.Parts.{parts, parts_of_pieces, value_bytes}
use Rattle.unix_path.proofs.lemmas.parts.PlaceLemmas.{parts_end}
use Rattle.unix_bytes.proofs.lemmas.lists.ListLemmas.{by_test}
use Rattle.unix_path.proofs.lemmas.parts.PartLemmas.{parts-name, parts-none, parts-root}
use Rattle.unix_path.proofs.lemmas.parts.PieceLemmas.{first_piece, length-first_piece}
use Rattle.unix_path.proofs.lemmas.parts.ValueLemmas.{first_value, value_bytes-piece}
use Rattle.unix_path.proofs.lemmas.parts.ValueLemmas.{value_bytes-first}

-- these components begin at index `at` or later, one after another, and each is as long as its
-- bytes
abbrev pub Follow : ℕ → List Part → Type 0
Follow at [] = Unit {0}
Follow at (p ∷ ps) =
    (at ≤ p.start) × (p.end ≡ p.start + length (value_bytes p.value)) × Follow p.end ps

-- if components begin at index b or later, one after another, and a is at most b, they begin at
-- index a or later
Follow-earlier : (a b : ℕ) (ps : List Part) → a ≤ b → Follow b ps → Follow a ps
Follow-earlier a b [] l h = tt
Follow-earlier a b (p ∷ ps) l h = (omega (arith, l, h.0), h.1, h.2)

-- the components of pieces, the first of which begins at index `at`, follow one another from `at`
-- on
Follow-pieces : (at : ℕ) (ps : List (List ℕ)) → Follow at (parts_of_pieces at ps)
Follow-pieces at [] = tt
Follow-pieces at (p ∷ ps) =
    let next = Follow-pieces (at + length p + 1) ps in
    let tail = parts_of_pieces (at + length p + 1) ps in
    by_test (counts p)
    (λ e. rw e (
      omega arith,
      ap (λ b. at + length b) (sym (value_bytes-piece p)),
      Follow-earlier (at + length p) (at + length p + 1) tail (omega arith) next,
    ))
    (λ e. rw e (Follow-earlier at (at + length p + 1) tail (omega arith) next))

-- the inner components of s (all except a root or leading `.`), if s begins at index `at`, follow
-- one another from `at` on
Follow-inner : (at : ℕ) (s : List ℕ) → Follow at (inner_parts at s)
unfolding inner_parts
Follow-inner at s = Follow-pieces at (slice_split is_slash s)

-- the first piece of s, which ends at the first slash or at the end of s, is as long as the bytes
-- of its component
position_or_len-first_piece : (s : List ℕ)
    → position_or_len is_slash s ≡ length (value_bytes (first_value (first_piece s)))
position_or_len-first_piece s =
    sym (length-first_piece s) ∙ ap length (sym (value_bytes-first (first_piece s)))

-- the string begins with the bytes of its first component, and the other components come after it
pub record BeginsWith (s : List ℕ) : Type 0 where
  pub value : Value
  pub more : List Part
  pub is : parts s ≡ record
      { start = 0; end = length (value_bytes value); value = value } ∷ more
  pub stands : take (length (value_bytes value)) s ≡ value_bytes value
  pub follow : Follow (length (value_bytes value)) more

-- if the first byte of a string is a slash, the string's prefix of one byte is `/`
root_byte : (s : List ℕ) → get_or s 0 0 ≡ 47 → take 1 s ≡ 47 ∷ []
root_byte [] e = absurd (omega arith)
root_byte (b ∷ s) e = ap (λ b. b ∷ []) e

-- `BeginsWith` is true of a string with a root
begins_by_root : (s : List ℕ) → get_or s 0 0 ≡ 47 → BeginsWith s
begins_by_root s e = record {
  value = RootDir;
  more = inner_parts 1 (drop 1 s);
  is = parts-root s e;
  stands = root_byte s e;
  follow = Follow-inner 1 (drop 1 s);
}

-- `BeginsWith` is true of a string that is not empty and has no root
begins_by_name : (s : List ℕ) → 0 < length s → eqb (get_or s 0 0) 47 ≡ false → BeginsWith s
begins_by_name s l e =
    let n = position_or_len is_slash s in
    let v = first_value (first_piece s) in
    let tail = inner_parts n (drop n s) in
    let size = position_or_len-first_piece s in
    record {
      value = v;
      more = tail;
      is = parts-name s l e
          ∙ ap (λ n. record { start = 0; end = n; value = v } ∷ tail) size;
      stands = ap (λ n. take n s) (sym size) ∙ sym (value_bytes-first (first_piece s));
      follow = subst (λ n. Follow n tail) size (Follow-inner n (drop n s));
    }

-- `BeginsWith` is true of a string that is not empty
pub begins_with : (s : List ℕ) → 0 < length s → BeginsWith s
begins_with s l = by_test (eqb (get_or s 0 0) 47)
    (λ e. begins_by_root s (eqb-true _ 47 e)) (λ e. begins_by_name s l e)

-- the components of a string follow one another from index 0 on
pub Follow-parts : (s : List ℕ) → Follow 0 (parts s)
Follow-parts s = by_test (ltb 0 (length s))
    (λ e.
    let b = begins_with s (ltb-true _ _ e) in
    subst (Follow 0) (sym b.is) (omega arith, omega arith, b.follow))
    (λ e. subst (Follow 0) (sym (parts-none s (omega (arith, ltb-false _ _ e)))) tt)

-- p begins where the components ps end, or later, and is as long as its bytes
pub record EndsWith (ps : List Part) (p : Part) : Type 0 where
  pub before : parts_end ps ≤ p.start
  pub size : p.end ≡ p.start + length (value_bytes p.value)

-- if ps and then p follow one another from the end of q on, p comes after q and ps (`EndsWith`)
ends_after : (q : Part) (ps : List Part) (p : Part) → Follow q.end (ps ++ p ∷ [])
    → EndsWith (q ∷ ps) p
ends_after q [] p h = record { before = h.0; size = h.1 }
ends_after q (r ∷ ps) p h =
    let next = ends_after r ps p h.2 in
    record { before = next.before; size = next.size }

-- if ps and then p follow one another, p comes after ps (`EndsWith`)
pub ends_with : (at : ℕ) (ps : List Part) (p : Part) → Follow at (ps ++ p ∷ []) → EndsWith ps p
ends_with at [] p h = record { before = omega arith; size = h.1 }
ends_with at (q ∷ ps) p h = ends_after q ps p h.2
