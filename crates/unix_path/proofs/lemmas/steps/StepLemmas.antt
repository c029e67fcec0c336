-- Removing one component, at either end.
use Rattle.std.proofs.Common.{◌≡◌, ℕ, ◌-◌, ◌≤◌, ◌<◌, false, List, [], ◌∷◌, ◌++◌, length}
use Rattle.std.proofs.Common.{get_or, take, drop, map, refl, sym, ap, ◌∙◌, arith, take_all}
use Rattle.std.proofs.Common.{length-take-le}
use Rattle.std.proofs.lemmas.List.{map-append}
use Rattle.std.proofs.lemmas.Grind.{common_steps}
use Rattle.unix_path.proofs.lemmas.filler.FillerLemmas.{inner_parts_not_filler, parts-not_filler}
use Rattle.unix_path.proofs.lemmas.steps.LastLemmas.{last_part, root_alone, IsLastStart}
use Rattle.unix_path.proofs.lemmas.parts.PartLemmas.{parts-nil}
use Rattle.unix_path.proofs.lemmas.parts.PieceLemmas.{inner_parts-nil}
use Rattle.unix_path.proofs.lemmas.parts.PlaceLemmas.{values-inner_parts, parts_end}
use Rattle.unix_path.proofs.lemmas.steps.SpanLemmas.{parts_end-whole, span-parts, rest-last}
use Rattle.unix_path.proofs.lemmas.filler.TrimLemmas.{EndsInPart-drop, EndsInPart-take}
use Rattle.unix_path.proofs.lemmas.parts.ValueLemmas.{first_value}
use Rattle.unix_path.specs.Parts.{Part, RootDir, Value, inner_parts, parts, values}
use Rattle.unix_path.specs.Rest.{rest, span_of}
use Rattle.unix_path.specs.Scan.{is_filler, is_trailing, EndsInPart}

-- the first value of s is v, and t is the rest of s after it
pub record TakesFirst (s t : List ℕ) (v : Value) : Type 0 where
  pub value : values s ≡ v ∷ values t
  pub rest : rest s 1 0 ≡ t
  pub ends : EndsInPart t

-- the last value of s is v, and t is the rest of s before it
pub record TakesLast (s t : List ℕ) (v : Value) : Type 0 where
  pub value : values s ≡ values t ++ v ∷ []
  pub rest : rest s 0 1 ≡ t
  pub ends : EndsInPart t

-- if the components of s are p and then ps, the rest of s after p is what ps span
rest-first : (s : List ℕ) (p : Part) (ps : List Part) → parts s ≡ p ∷ ps
    → rest s 1 0 ≡ span_of s ps
unfolding rest
rest-first s p ps e = rw e (ap (span_of s) (take_all (length (p ∷ ps) - 1) ps (omega arith)))

-- if u is t without its first i bytes and begins with no filler, and the last inner component of u
-- ends where t ends, the inner components of u span u in t
span_not_filler : (t u : List ℕ) (i : ℕ) → drop i t ≡ u → i ≤ length t
    → (0 < length u → is_filler u 0 ≡ false)
    → (0 < length u → parts_end (inner_parts i u) ≡ length t)
    → span_of t (inner_parts i u) ≡ u
span_not_filler t [] i is l not_filler end = ap (span_of t) (inner_parts-nil i)
span_not_filler t (b ∷ u) i is l not_filler end =
    grind (arith, common_steps, inner_parts_not_filler)

-- if t is empty or ends in a component, its components are v and then the inner components of the
-- bytes from n on, and the byte at n, if any, is not filler, then removing v leaves the bytes from
-- n on
pub takes_first : (t : List ℕ) (e n : ℕ) (v : Value) → EndsInPart t → n ≤ length t
    → parts t ≡ record { start = 0; end = e; value = v } ∷ inner_parts n (drop n t)
    → (0 < length (drop n t) → is_filler (drop n t) 0 ≡ false) → TakesFirst t (drop n t) v
unfolding values
takes_first t e n v ends l all not_filler =
    let u = drop n t in
    let end : 0 < length u
    → parts_end (inner_parts n u) ≡ length t = λ some. end_of n u some (not_filler some) e v
    ∙ sym (ap parts_end all) ∙ parts_end-whole t ends in
    record {
      value = ap (map (λ p. p.value)) all
          ∙ ap (λ vs. v ∷ vs) (values-inner_parts n u
          ∙ ap (map (λ p. p.value)) (sym (parts-not_filler u not_filler)));
      rest = rest-first t _ _ all ∙ span_not_filler t u n refl l not_filler end;
      ends = EndsInPart-drop t n l ends;
    }
  where
    end_of : (i : ℕ) (u : List ℕ) → 0 < length u → is_filler u 0 ≡ false → (e : ℕ) (v : Value)
        → parts_end (inner_parts i u) ≡ parts_end
        (record { start = 0; end = e; value = v } ∷ inner_parts i u)
    end_of i u some not_filler e v =
        let first = inner_parts_not_filler i u some not_filler in rw first refl

-- if the components of t are those of its first n bytes and then v, and these bytes are empty or
-- end in a component, then removing v from t leaves these bytes
takes_last_to : (t : List ℕ) (n at to : ℕ) (v : Value) → n ≤ length t
    → parts t ≡ parts (take n t) ++ record { start = at; end = to; value = v } ∷ []
    → EndsInPart (take n t) → TakesLast t (take n t) v
unfolding values
takes_last_to t n at to v l all ends =
    let u = take n t in
    record {
      value = ap (map (λ p. p.value)) all
          ∙ map-append (λ p. p.value) (parts u) (record { start = at; end = to; value = v } ∷ []);
      rest = rest-last t (parts u) _ all ∙ span-parts t u
          ∙ ap (λ k. take k t) (parts_end-whole u ends ∙ length-take-le n t l);
      ends = ends;
    }

-- if t ends in a component, its last piece begins at `start` and isn't empty, and the first n bytes
-- of t are the first `start` bytes without trailing filler, then removing the component of this
-- piece leaves these n bytes
pub takes_last : (t : List ℕ) (start n : ℕ) → IsLastStart t start → start < length t → EndsInPart t
    → n ≤ start → parts (take n t) ≡ parts (take start t) → (0 < n → is_trailing t (n - 1) ≡ false)
    → TakesLast t (take n t) (first_value (drop start t))
takes_last t start n h l ends m same trimmed =
    let last = last_part t start h l ends in
    takes_last_to t n last.0 (length t) (first_value (drop start t)) (omega arith)
    (last.1 ∙ ap (λ ps. ps ++ record
    { start = last.0; end = length t; value = first_value (drop start t) } ∷ []) (sym same))
    (EndsInPart-take t n (omega arith) trimmed)

-- if t isn't empty, ends in a component, and its last byte is a slash, its last component is the
-- root, and removing the root leaves nothing
pub takes_root : (t : List ℕ) → 0 < length t → EndsInPart t → get_or t (length t - 1) 0 ≡ 47
    → TakesLast t (take 0 t) RootDir
takes_root t l ends e =
    takes_last_to t 0 0 (length t) RootDir (omega arith)
    (root_alone t l ends e
    ∙ ap (λ ps. ps ++ record { start = 0; end = length t; value = RootDir } ∷ [])
    (sym parts-nil))
    (λ l. absurd (omega arith))
