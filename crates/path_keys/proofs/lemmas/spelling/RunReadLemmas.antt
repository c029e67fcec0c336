-- A key that is read run by run.
use Rattle.std.proofs.Common.{◌≡◌, ◌<◌, ◌≤◌, ◌+◌, ◌-◌, ◌*◌, ℕ, Some, true, false, List, [], ◌∷◌}
use Rattle.std.proofs.Common.{◌++◌}
use Rattle.std.proofs.Common.{append-nil, length, drop, sym, ap, ◌∙◌, arith, subst, append_assoc}
use Rattle.std.proofs.Common.{length-append, length-drop}
use Rattle.std.proofs.lemmas.Bool.{and_left}
use Rattle.std.proofs.lemmas.List.{nil_from_length}
use Rattle.path_runs.specs.Spelling.{spelling_of}
use Rattle.path_keys.proofs.lemmas.reading.KeyReadLemmas.{same_values, spelled_key}
use Rattle.path_keys.proofs.lemmas.reading.KeyReadLemmas.{spelled_lone, spelled_longer}
use Rattle.unix_path.specs.Parts.{Value, values}
use Rattle.path_keys.specs.Keys.{code, key_of, IsKey}
use Rattle.path_keys.proofs.lemmas.values.Fitting.{AllFit}
use Rattle.path_keys.proofs.lemmas.reading.TextLemmas.{slashed, text_of}
use Rattle.path_keys.specs.Runs.{lead_text, run_code, run_text, TakesRun}
use Rattle.unix_path.specs.CommonDir.{inner_values}
use Rattle.path_keys.proofs.lemmas.spelling.RunTextLemmas.{none_known, run_known, run_small}
use Rattle.path_keys.proofs.lemmas.spelling.RunTextLemmas.{BeginsLead, ReadsRun}
use Rattle.path_keys.specs.declared.runs.Run.{Run}
use Rattle.path_keys.specs.declared.runs.Lead.{Lead}
use Rattle.path_keys.proofs.lemmas.values.CodeLemmas.{code-length}
use Rattle.path_keys.proofs.lemmas.reading.FitLemmas.{AllFit-after, AllFit-any, AllFit-append}
use Rattle.path_keys.proofs.lemmas.reading.FitLemmas.{key_of-split, starts-more, values-fit}
use Rattle.path_keys.proofs.lemmas.values.KeyLemmas.{key_of-nil, key_of-cons, key_of-append}
use Rattle.path_keys.proofs.lemmas.reading.TextLemmas.{text_of-nil, text_of-cons, text_of-append}
use Rattle.path_keys.proofs.lemmas.reading.TextLemmas.{length-slashed}

-- if s begins with `run`, the code of `run` is not longer than s
run_within : {s : List ℕ} {run : Run} → ReadsRun s run
    → length (run_code run) ≤ length s
run_within {s} {run} h = omega (
  arith,
  ap length h.is,
  length-append (run_code run) (drop (length (run_code run)) s),
  length-drop (length (run_code run)) s,
)

-- the text of vs has at most twice as many bytes as the key of vs
text_short : (vs : List Value) → length (text_of vs) ≤ 2 * length (key_of vs)
text_short [] = omega (arith, ap length text_of-nil)
text_short (v ∷ vs) = omega (
  arith,
  text_short vs,
  length-slashed v,
  code-length v,
  ap length (text_of-cons v vs),
  ap length (key_of-cons v vs),
  length-append (slashed v) (text_of vs),
  length-append (code v) (key_of vs),
)

-- `rest` is the rest of the key after the codes of some components, which may be all components of
-- a path, and whose text has `len` bytes; if `key` is a path's key, `rest` is the key of components
-- that may follow others
pub record ReadsRuns (key rest : List ℕ) (len : ℕ) : Type 0 where
  pub us : List Value
  pub fit : AllFit true us
  pub inner : (ws : List Value) → AllFit true (us ++ ws) → key_of ws ≡ rest → AllFit false ws
  pub whole : key_of us ++ rest ≡ key
  pub len_is : len ≡ length (text_of us)
  pub small : len + 2 * length rest ≤ 2 * length key

-- if the key begins with `lead`, reading `lead` leads to `rest`, the bytes of the key after it, and
-- adds the text of `lead`
pub reads_lead : {key rest : List ℕ} {lead : Lead} {len : ℕ} → BeginsLead key rest lead
    → len ≡ length (lead_text lead) → ReadsRuns key rest len
reads_lead {key} {rest} {lead} {len} h count = record {
  us = h.vs;
  fit = h.fit;
  inner = h.inner;
  whole = h.key_is;
  len_is = count ∙ ap length (sym h.text_is);
  small = omega (
    arith,
    count,
    ap length h.text_is,
    text_short h.vs,
    ap length h.key_is,
    length-append (key_of h.vs) rest,
  );
}

-- if `rest` begins with `run`, reading this run leads to `more`, the bytes of `rest` after it, and
-- adds the text of `run`
pub reads_run : {key rest more : List ℕ} {len n : ℕ} {run : Run}
    → ReadsRuns key rest len → TakesRun rest run
    → more ≡ drop (length (run_code run)) rest
    → n ≡ len + length (run_text run) → ReadsRuns key more n
reads_run {key} {rest} {more} {len} {n} {run} h known e count = let k = run_known known in record {
  us = h.us ++ k.vs;
  fit = AllFit-append true h.us k.vs h.fit (AllFit-any _ k.vs k.fit);
  inner = λ ws fit _. subst (λ b. AllFit b ws)
      (and_left _ true (starts-more h.us k.vs k.some))
      (AllFit-after true (h.us ++ k.vs) ws fit);
  whole =
      ap (λ c. c ++ more) (key_of-append h.us k.vs ∙ ap (λ c. key_of h.us ++ c) k.code_is)
      ∙ append_assoc (key_of h.us) (run_code run) more
      ∙ ap (λ r. key_of h.us ++ (run_code run ++ r)) e
      ∙ ap (λ r. key_of h.us ++ r) (sym k.is) ∙ h.whole;
  len_is = omega (
    arith,
    count,
    h.len_is,
    ap length (text_of-append h.us k.vs),
    length-append (text_of h.us) (text_of k.vs),
    ap length k.text_is,
  );
  small = omega (
    arith,
    count,
    h.small,
    ap length e,
    length-drop (length (run_code run)) rest,
    run_within k,
    run_small run,
  );
}

-- if the key of us and then `rest` are `key`, and `rest` is empty, the key of us is `key`
all_read : (us : List Value) (key rest : List ℕ) → key_of us ++ rest ≡ key → length rest ≡ 0
    → key_of us ≡ key
all_read us key rest whole empty = sym (append-nil (key_of us))
    ∙ ap (λ r. key_of us ++ r) (sym (nil_from_length rest empty)) ∙ whole

-- if `rest` is not empty, and is not the key of one or more components that may follow others, no
-- path has the key
pub reads_no_run : {key rest : List ℕ} {len : ℕ} → ReadsRuns key rest len
    → ((t : List ℕ) → key_of (inner_values t) ≡ rest → rest ≡ []) → 0 < length rest → IsKey key
    → ⊥
reads_no_run {key} {rest} {len} h empty some is =
    by (key_of-split true true h.us (values is.0) rest h.fit (values-fit is.0) (h.whole ∙ sym is.1))
  where
    by : (ws : List Value) × (h.us ++ ws ≡ values is.0) × (key_of ws ≡ rest) → ⊥
    by ([], e, remain) = omega (arith, ap length remain, ap length key_of-nil)
    by (w ∷ ws, e, remain) = none_known empty w ws
        (h.inner (w ∷ ws) (subst (AllFit true) (sym e) (values-fit is.0)) remain) remain

-- if no byte of the key remains to be read, a path has the key
pub reads_key : {key rest : List ℕ} {len : ℕ} → ReadsRuns key rest len → length rest ≡ 0
    → IsKey key
reads_key {key} {rest} h empty =
    (spelling_of h.us, spelled_key h.us h.fit (all_read h.us key rest h.whole empty))

-- if no byte of the key remains to be read, and the text that was read has more than one byte, each
-- path with the key has a canonical form of one byte less
pub reads_longer : {key rest : List ℕ} {len : ℕ} → ReadsRuns key rest len → length rest ≡ 0
    → 1 < len → (s : List ℕ) → key_of (values s) ≡ key
    → Some (len - 1) ≡ Some (length (spelling_of (values s)))
reads_longer {key} {rest} h empty more s e = ap Some
    (spelled_longer h.us h.fit _ h.len_is more ∙ ap (λ vs. length (spelling_of vs))
    (same_values h.us s h.fit (all_read h.us key rest h.whole empty) e))

-- if no byte of the key remains to be read, and the text that was read has at most one byte, each
-- path with the key has a canonical form of as many bytes
pub reads_lone : {key rest : List ℕ} {len : ℕ} → ReadsRuns key rest len → length rest ≡ 0
    → len ≤ 1 → (s : List ℕ) → key_of (values s) ≡ key
    → Some len ≡ Some (length (spelling_of (values s)))
reads_lone {key} {rest} h empty few s e = ap Some
    (spelled_lone h.us h.fit _ h.len_is few ∙ ap (λ vs. length (spelling_of vs))
    (same_values h.us s h.fit (all_read h.us key rest h.whole empty) e))
