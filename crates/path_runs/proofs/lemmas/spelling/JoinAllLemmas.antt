-- The bytes of a path's components, each joined to those before it, are the canonical form. A
-- string is open if it is empty or ends in a slash, and unslashed if it isn't empty and neither
-- begins nor ends with a slash.
use Rattle.std.proofs.Common.{◌≡◌, ℕ, true, false, List, [], ◌∷◌, ◌++◌, map, refl, sym, ap, ◌∙◌}
use Rattle.std.proofs.Common.{append_assoc, arith}
use Rattle.std.specs.List.{AllByRecursion, join_with_byte}
use Rattle.std.specs.Prelude.{fold}
use Rattle.unix_path.specs.Parts.{slash, Value, value_bytes, values}
use Rattle.unix_path.specs.Joins.{needs_no_separator, join_of}
use Rattle.unix_path.proofs.lemmas.edits.JoinLemmas.{join_of_rooted, join_of_separator}
use Rattle.path_runs.specs.Spelling.{slashed_bytes, spelling_of}
use Rattle.path_runs.proofs.lemmas.joins.AssociativeLemmas.{separator, join_of-separator}
use Rattle.path_runs.proofs.lemmas.spelling.SpellLemmas.{spelling_of-root}
use Rattle.path_runs.proofs.lemmas.spelling.UnslashedLemmas.{IsUnslashed, IsUnslashedValue, Shape}
use Rattle.path_runs.proofs.lemmas.spelling.UnslashedLemmas.{Rooted, Rootless, values-shape}

-- the strings x ++ b and then bs, with slashes between them, are x, followed by b and bs with
-- slashes between them
join_with_byte-onto : (x b : List ℕ) (bs : List (List ℕ))
    → join_with_byte slash ((x ++ b) ∷ bs) ≡ x ++ join_with_byte slash (b ∷ bs)
join_with_byte-onto x b [] = refl
join_with_byte-onto x b (c ∷ bs) = append_assoc x b (slash ∷ join_with_byte slash (c ∷ bs))

-- if b isn't empty and doesn't end in a slash, the same is true of a followed by b
needs_no_separator-append_closed : (a b : List ℕ) → needs_no_separator b ≡ false
    → needs_no_separator (a ++ b) ≡ false
needs_no_separator-append_closed [] b e = e
needs_no_separator-append_closed (x ∷ []) [] e = absurd (let d : true ≡ false = e in cc)
needs_no_separator-append_closed (x ∷ []) (y ∷ b) e = e
needs_no_separator-append_closed (x ∷ y ∷ a) b e = needs_no_separator-append_closed (y ∷ a) b e

-- each of these strings is unslashed: it isn't empty and neither begins nor ends with a slash
abbrev pub AllUnslashed : List (List ℕ) → Type 0
AllUnslashed bs = AllByRecursion IsUnslashed bs

-- if a isn't empty and doesn't end in a slash, and all paths bs are unslashed, a joined with each
-- of bs, one after the other, is a and bs with slashes between them
joins-closed : (a : List ℕ) (bs : List (List ℕ)) → needs_no_separator a ≡ false
    → AllUnslashed bs
    → fold join_of a bs ≡ join_with_byte slash (a ∷ bs)
joins-closed a [] o h = refl
joins-closed a (b ∷ bs) o h =
    ap (λ c. fold join_of c bs) (join_of_separator a b h.0.rootless o)
    ∙ joins-closed ((a ++ slash ∷ []) ++ b) bs
    (needs_no_separator-append_closed (a ++ slash ∷ []) b h.0.closed) h.1
    ∙ join_with_byte-onto (a ++ slash ∷ []) b bs
    ∙ append_assoc a (slash ∷ []) (join_with_byte slash (b ∷ bs))

-- if b and all paths bs are unslashed, a joined with each of them, one after the other, is a, a
-- slash unless a is empty or ends in one, and then b and bs with slashes between them
pub joins-some : (a b : List ℕ) (bs : List (List ℕ)) → AllUnslashed (b ∷ bs)
    → fold join_of a (b ∷ bs) ≡ (a ++ separator a) ++ join_with_byte slash (b ∷ bs)
joins-some a b bs h =
    ap (λ c. fold join_of c bs) (join_of-separator a b h.0.rootless)
    ∙ joins-closed ((a ++ separator a) ++ b) bs
    (needs_no_separator-append_closed (a ++ separator a) b h.0.closed) h.1
    ∙ join_with_byte-onto (a ++ separator a) b bs

joins-unslashed : (bs : List (List ℕ)) → AllUnslashed bs
    → fold join_of [] bs ≡ join_with_byte slash bs
joins-unslashed [] h = refl
joins-unslashed (b ∷ bs) h = joins-some [] b bs h

-- if all paths bs are unslashed, the root joined with each of bs, one after the other, is a slash,
-- followed by bs with slashes between them
joins-root : (bs : List (List ℕ)) → AllUnslashed bs
    → fold join_of [] ((slash ∷ []) ∷ bs) ≡ slash ∷ join_with_byte slash bs
joins-root [] h = join_of_rooted [] (slash ∷ []) refl
joins-root (b ∷ bs) h = grind (arith, join_of_rooted, joins-some)

pub unslashed_bytes : (vs : List Value) → AllByRecursion IsUnslashedValue vs
    → AllUnslashed (map value_bytes vs)
unslashed_bytes [] h = tt
unslashed_bytes (v ∷ vs) h = (h.0.unslashed, unslashed_bytes vs h.1)

-- if each of the components vs is unslashed and not the root, their canonical form is their bytes
-- with slashes between them
pub spelling_of-unslashed : (vs : List Value) → AllByRecursion IsUnslashedValue vs
    → spelling_of vs ≡ slashed_bytes vs
unfolding spelling_of
spelling_of-unslashed [] h = refl
spelling_of-unslashed (v ∷ vs) h = grind arith

-- the empty path, joined with the bytes of each component of s, one after the other, is the
-- canonical form of s
pub joins-values : (s : List ℕ)
    → fold join_of [] (map value_bytes (values s)) ≡ spelling_of (values s)
joins-values s = by (values-shape s)
  where
    by : Shape (values s) → fold join_of [] (map value_bytes (values s)) ≡ spelling_of (values s)
    by (Rooted ws e h) = ap (λ vs. fold join_of [] (map value_bytes vs)) e
        ∙ joins-root (map value_bytes ws) (unslashed_bytes ws h)
        ∙ sym (ap spelling_of e ∙ spelling_of-root ws)
    by (Rootless h) = joins-unslashed (map value_bytes (values s))
        (unslashed_bytes (values s) h)
        ∙ sym (spelling_of-unslashed (values s) h)
