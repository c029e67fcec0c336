-- A component that is appended to an open path and removed again. A string is open if it is empty
-- or ends in a slash.
use Rattle.std.proofs.Common.{◌≡◌, ℕ, ◌≤◌, true, List, [], ◌∷◌, ◌++◌, length, take, map, refl, sym}
use Rattle.std.proofs.Common.{ap, ◌∙◌, arith, append-nil}
use Rattle.std.proofs.lemmas.List.{map-append, take-append-le, append_cancel_left}
use Rattle.unix_path.specs.Parts.{Part, Value, parts, values}
use Rattle.unix_path.specs.Rest.{rest}
use Rattle.unix_path.proofs.lemmas.parts.PlaceLemmas.{parts_end}
use Rattle.unix_path.specs.Joins.{needs_no_separator}
use Rattle.unix_path.proofs.lemmas.order.CommonPrefixLemmas.{parts-past_slash}
use Rattle.unix_path.proofs.lemmas.parts.PartLemmas.{parts-nil}
use Rattle.unix_path.proofs.lemmas.steps.SpanLemmas.{length-rest_whole, rest-whole, span-parts}
use Rattle.unix_path.proofs.lemmas.steps.SpanLemmas.{rest-last}
use Rattle.unix_path.proofs.lemmas.names.StemLemmas.{length-rest_whole-le}
use Rattle.unix_path.proofs.lemmas.filler.TrimLemmas.{parts-slash}
use Rattle.path_runs.proofs.lemmas.joins.AssociativeLemmas.{separator}
use Rattle.path_runs.proofs.lemmas.joins.ValueLemmas.{ends_open, not_open}

-- the component of a part, without its position
abbrev value_of_part : Part → Value
value_of_part p = p.value

-- if u is empty or ends in a slash, the parts of u followed by b are the parts of u, and then more
-- parts
parts-open : (u b : List ℕ) → needs_no_separator u ≡ true
    → (more : List Part) × (parts (u ++ b) ≡ parts u ++ more)
parts-open [] b o = (parts b, sym (ap (λ ps. ps ++ parts b) parts-nil))
parts-open (x ∷ u) b o =
    let cut = ends_open (x ∷ u) o (omega arith) in
    grind (arith, parts-past_slash cut.0 b)

-- if the parts ps, without their positions, are the one component v, then ps is one part
single_part : (ps : List Part) (v : Value) → map value_of_part ps ≡ v ∷ []
    → (p : Part) × (ps ≡ p ∷ [])
single_part [] v e = absurd (let no : [] ≡ v ∷ [] = e in cc)
single_part (p ∷ []) v e = (p, refl)
single_part (p ∷ q ∷ ps) v e = cc

-- if u is empty or ends in a slash, and u followed by b has the components of u and then v, then u
-- followed by b has the parts of u and then one part
last_appended : (u b : List ℕ) (v : Value) → needs_no_separator u ≡ true
    → values (u ++ b) ≡ values u ++ v ∷ []
    → (p : Part) × (parts (u ++ b) ≡ parts u ++ p ∷ [])
unfolding values
last_appended u b v o e =
    let appended = parts-open u b o in
    let more = appended.0 in
    let one =
    single_part more v
    (append_cancel_left (map value_of_part (parts u)) (map value_of_part more) (v ∷ [])
    (sym (map-append value_of_part (parts u) more) ∙ ap (map value_of_part) (sym appended.1) ∙ e))
    in
    grind arith

parts_end-le : (s : List ℕ) → parts_end (parts s) ≤ length s
parts_end-le s = omega (arith, length-rest_whole s, length-rest_whole-le s)

-- u followed by b, cut where the last part of u ends, is u without trailing filler
take-parts_end : (u b : List ℕ) → take (parts_end (parts u)) (u ++ b) ≡ rest u 0 0
take-parts_end u b = simp (take-append-le, parts_end-le, rest-whole)

-- if u is empty or ends in a slash, and u followed by b has the components of u and then v, then u
-- followed by b, without its last component, is u without trailing filler
pub rest-appended : (u b : List ℕ) (v : Value) → needs_no_separator u ≡ true
    → values (u ++ b) ≡ values u ++ v ∷ [] → rest (u ++ b) 0 1 ≡ rest u 0 0
rest-appended u b v o e =
    grind (arith, last_appended u b v o e, rest-last, span-parts (u ++ b) u, take-parts_end u b)

pub values-separator : (r : List ℕ) → values (r ++ separator r) ≡ values r
unfolding values
values-separator r = grind (arith, append-nil, parts-slash, not_open)

pub rest-separator : (r : List ℕ) → rest (r ++ separator r) 0 0 ≡ rest r 0 0
rest-separator r = grind (arith, rest-whole, take-parts_end, append-nil, parts-slash, not_open)
