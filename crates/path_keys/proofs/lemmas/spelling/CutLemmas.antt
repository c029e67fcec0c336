-- A path written run by run to a buffer in which its last slash doesn't fit.
use Rattle.std.proofs.Common.{◌≡◌, ◌≤◌, ◌+◌, ◌-◌, ℕ, List, [], ◌∷◌, ◌++◌}
use Rattle.std.proofs.Common.{length, take, drop, refl, sym, ap, ap₂, ◌∙◌, arith, ◌<◌}
use Rattle.std.proofs.Common.{length-append, length-take-le, take_all, append_assoc, append-nil}
use Rattle.std.proofs.Common.{⊎_elim, map}
use Rattle.std.proofs.lemmas.Bool.{cases_lt}
use Rattle.std.proofs.lemmas.List.{take_at, take-take, take-append-le}
use Rattle.std.proofs.lemmas.List.{drop-take, drop_all}
use Rattle.std.proofs.Math.Seq.{take-append-add}
use Rattle.unix_path.specs.Parts.{Value, slash, values}
use Rattle.path_runs.specs.Overlay.{overlay}
use Rattle.path_runs.specs.Spelling.{slash_each, slashed_bytes, spelling_of}
use Rattle.path_keys.proofs.lemmas.reading.TextLemmas.{text_of}
use Rattle.path_keys.specs.NameBytes.{decoded}
use Rattle.path_keys.specs.Runs.{lead_text, run_code, run_text, TakesRun}
use Rattle.path_keys.specs.Keys.{key_of}
use Rattle.unix_path.specs.CommonDir.{inner_values}
use Rattle.path_keys.proofs.lemmas.reading.FitLemmas.{inner_values-slashed}
use Rattle.path_keys.proofs.lemmas.spelling.RunTextLemmas.{none_known, run_known, BeginsLead}
use Rattle.path_keys.specs.declared.runs.Lead.{Lead}
use Rattle.path_keys.specs.declared.runs.Run.{Run}
use Rattle.path_keys.specs.declared.runs.Run.TheVariants.{Names}
use Rattle.path_keys.specs.declared.runs.Run.TheVariants as run_variants
use Rattle.path_keys.proofs.lemmas.reading.FitLemmas.{values-fit}
use Rattle.path_keys.proofs.lemmas.reading.KeyReadLemmas.{same_spelling, HasPath}
use Rattle.path_keys.proofs.lemmas.spelling.SpellLemmas.{SpellsOn, spells_lead, spells_fits}
use Rattle.path_keys.proofs.lemmas.spelling.SpellLemmas.{spells_one, spells_all}
use Rattle.path_keys.proofs.lemmas.spelling.SpellLemmas.{spells_long}
use Rattle.path_keys.proofs.lemmas.reading.TextLemmas.{IsText, lone, longer, text_is, text_of-each}

-- if `at + m` is at most the length of `old`, writing `bytes` at index `at` and then keeping the
-- first `at + m` bytes is the same as keeping these first and then writing only the first m of
-- `bytes`
overlay-take : (at m : ℕ) (bytes old : List ℕ) → at + m ≤ length old
    → take (at + m) (overlay at bytes old) ≡ overlay at (take m bytes) (take (at + m) old)
overlay-take at m bytes old l =
    let before = take at old in
    let tail = drop (at + length bytes) old in
    let near : length before ≡ at = length-take-le at old (omega arith) in
    let front : take at (take (at + m) old) ≡ before = take-take at (at + m) old (omega arith) in
    ap (take (at + m)) (append_assoc before bytes tail)
    ∙ ap (λ n. take (n + m) (before ++ (bytes ++ tail))) (sym near)
    ∙ take-append-add before (bytes ++ tail) m
    ∙ ⊎_elim
    (λ more.
    let cut : length (take m bytes) ≡ m = length-take-le m bytes (omega arith) in
    let whole : length (take (at + m) old) ≡ at + m = length-take-le (at + m) old l in
    ap (λ xs. before ++ xs) (take-append-le m bytes tail (omega arith))
    ∙ sym (append-nil (before ++ take m bytes))
    ∙ sym (ap₂ (λ xs ys. (xs ++ take m bytes) ++ ys) front
    (drop_all (at + length (take m bytes)) (take (at + m) old) (omega (arith, cut, whole)))))
    (λ few.
    let n = m - length bytes in
    let split : m ≡ length bytes + n = omega arith in
    let end : at + m ≡ (at + length bytes) + n = omega arith in
    ap (λ k. before ++ take k (bytes ++ tail)) split
    ∙ ap (λ xs. before ++ xs) (take-append-add bytes tail n)
    ∙ sym (append_assoc before bytes (take n tail))
    ∙ ap (λ xs. (before ++ bytes) ++ xs) (sym (ap (λ k. drop (at + length bytes) (take k old)) end
    ∙ drop-take (at + length bytes) n old))
    ∙ sym (ap₂ (λ xs ys. (xs ++ ys) ++ drop (at + length ys) (take (at + m) old)) front
    (take_all m bytes few)))
    (cases_lt m (length bytes))

-- if m is at most the length of `old`, writing `bytes` at the beginning and then keeping the first
-- m bytes is the same as keeping these first and then writing only the first m of `bytes`
cut_first : (m : ℕ) (bytes old : List ℕ) → m ≤ length old
    → take m (overlay 0 bytes old) ≡ overlay 0 (take m bytes) (take m old)
cut_first m bytes old l =
    let whole : 0 + m ≡ m = omega arith in
    ap (λ n. take n (overlay 0 bytes old)) (sym whole)
    ∙ overlay-take 0 m bytes old (omega arith)
    ∙ ap (λ n. overlay 0 (take m bytes) (take n old)) whole

-- `out` is the beginning of a buffer in which all text of the key's components fits, and in which
-- the text of the components before `rest` is written; that buffer is at most one byte longer than
-- `out`
pub record SpellsCut (key rest old : List ℕ) (at : ℕ) (out : List ℕ) : Type 0 where
  pub wide : List ℕ
  pub wide_out : List ℕ
  pub spells : SpellsOn key rest wide at wide_out
  pub few : length wide ≤ length old + 1
  pub enough : length old ≤ length wide
  pub cut : out ≡ take (length old) wide_out

-- if the canonical form of a path with the key is as long as `old`, and the key begins with `lead`,
-- writing the text of `lead`, as far as it fits, leaves the text of the rest to be written
pub cut_lead : {key rest old out : List ℕ} {lead : Lead} {at : ℕ} → HasPath key (length old)
    → BeginsLead key rest lead → out ≡ overlay 0 (take (length old) (lead_text lead)) old
    → at ≡ length (lead_text lead) → SpellsCut key rest old at out
cut_lead {key} {rest} {old} {out} {lead} {at} (s, key_is, spelled) k is_put ends =
    by (text_is (values s) (values-fit s))
  where
    within : (wide : List ℕ) → length wide ≡ length (text_of (values s))
        → length wide ≤ length old + 1 → length old ≤ length wide
        → old ≡ take (length old) wide → SpellsCut key rest old at out
    within wide long few enough front = record {
      wide = wide;
      wide_out = overlay 0 (lead_text lead) wide;
      spells = spells_lead s key_is long k refl ends;
      few = few;
      enough = enough;
      cut = is_put ∙ ap (overlay 0 (take (length old) (lead_text lead))) front
          ∙ sym (cut_first (length old) (lead_text lead) wide enough);
    }

    by : IsText (text_of (values s)) (spelling_of (values s)) → SpellsCut key rest old at out
    by (lone l e) = within old (spelled ∙ ap length (sym e)) (omega arith) (omega arith)
        (sym (take_all (length old) old (omega arith)))
    by (longer l e) =
        let wide = old ++ 0 ∷ [] in
        let long : length wide ≡ length old + 1 = length-append old (0 ∷ []) in
        within wide (omega (
          arith,
          long,
          spelled,
          ap length e,
          length-append (spelling_of (values s)) (slash ∷ []),
        )) (omega (arith, long)) (omega (arith, long))
        (sym (take_at old (0 ∷ []) (length old) refl))

-- the components of which `rest` is the key have, with a slash each, at most one byte more than
-- `old` has from index `at` on
pub cut_leaves : {key rest old out : List ℕ} {at : ℕ} → SpellsCut key rest old at out
    → (t : List ℕ) × (key_of (inner_values t) ≡ rest)
    × (length (slash_each (inner_values t)) ≤ length old + 1 - at)
cut_leaves {key} {rest} {old} {out} {at} h =
    let ws = h.spells.ws in
    let same : inner_values (slashed_bytes ws) ≡ ws = inner_values-slashed ws h.spells.inner in
    let written = h.spells.written in (
      slashed_bytes ws,
      ap key_of same ∙ sym h.spells.rest_is,
      omega (
        arith,
        ap (λ ws. length (slash_each ws)) same,
        ap length (text_of-each ws h.spells.inner),
        length-append (slash_each ws) (slash ∷ []),
        ap length written.whole_is,
        length-append written.start (text_of ws),
        written.at_is,
        h.spells.fits,
        h.few,
      ),
    )

-- if `rest` begins with `run`, the text of `run`, perhaps without the slash at its end, fits
-- between index `at` and the end of `old`
pub cut_fits : {key rest old out : List ℕ} {at : ℕ} {run : Run}
    → SpellsCut key rest old at out → TakesRun rest run
    → at + length (run_text run) ≤ length old + 1
cut_fits h k = omega (arith, h.few, spells_fits h.spells (run_known k))

-- the text of a run has at least one byte
text_some : (run : Run) → 0 < length (run_text run)
text_some run_variants.ParentDir = omega arith
text_some (Names bytes) = omega (arith, length-append (map decoded bytes.now) (slash ∷ []))

-- if `rest` begins with `run`, writing the text of `run` at index `at`, as far as it fits, leaves
-- the text of the rest after `run` to be written
pub cut_one : {key rest old out more new : List ℕ} {at end : ℕ} {run : Run}
    → SpellsCut key rest old at out → TakesRun rest run
    → more ≡ drop (length (run_code run)) rest
    → new ≡ overlay at (take (length old - at) (run_text run)) out
    → end ≡ at + length (run_text run) → SpellsCut key more old end new
cut_one {key} {rest} {old} {out} {more} {new} {at} {end} {run} h k e is_put ends =
    let n = length old in
    let in_room : at ≤ n = omega (arith, text_some run, cut_fits h k) in
    let whole : at + (n - at) ≡ n = omega arith in
    record {
      wide = h.wide;
      wide_out = overlay at (run_text run) h.wide_out;
      spells = spells_one h.spells (run_known k) e refl ends;
      few = h.few;
      enough = h.enough;
      cut = is_put ∙ ap (overlay at (take (n - at) (run_text run))) (h.cut
          ∙ ap (λ k. take k h.wide_out) (sym whole))
          ∙ sym (overlay-take at (n - at) (run_text run) h.wide_out
          (omega (arith, h.enough, spells_long h.spells)))
          ∙ ap (λ k. take k (overlay at (run_text run) h.wide_out)) whole;
    }

-- if no run remains in `rest`, and the canonical form of a path with the key is as long as the
-- buffer `old`, `out` is the canonical form of each path with the key
pub cut_all : {key rest old out : List ℕ} {at : ℕ} → SpellsCut key rest old at out
    → ((t : List ℕ) → key_of (inner_values t) ≡ rest → rest ≡ []) → HasPath key (length old)
    → (s : List ℕ) → key_of (values s) ≡ key → out ≡ spelling_of (values s)
cut_all {key} {rest} {old} {out} {at} h empty (p, key_is, count) s e =
    text ∙ by (text_is vs (values-fit s))
  where
    vs : List Value
    vs = values s

    text : out ≡ take (length old) (text_of vs)
    text = h.cut ∙ ap (take (length old))
        (spells_all h.spells (none_known empty) vs (values-fit s) e)

    spelled : length old ≡ length (spelling_of vs)
    spelled = count ∙ ap length (same_spelling p s key_is e)

    by : IsText (text_of vs) (spelling_of vs) → take (length old) (text_of vs) ≡ spelling_of vs
    by (lone l e) = take_all (length old) (text_of vs) (omega (arith, spelled, ap length e)) ∙ e
    by (longer l e) = ap (take (length old)) e
        ∙ take_at (spelling_of vs) (slash ∷ []) (length old) (sym spelled)
