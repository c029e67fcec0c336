-- What a key's lead and runs are, by their components.
use Rattle.std.proofs.Common.{◌≡◌, ◌<◌, ◌≤◌, ◌*◌, ℕ, false, true, List, [], ◌∷◌, ◌++◌, length, drop}
use Rattle.std.proofs.Common.{map, refl, sym, ap, ◌∙◌, arith, subst, append-nil, length-append}
use Rattle.std.proofs.lemmas.List.{drop_at, length-map}
use Rattle.std.specs.List.{AllByRecursion}
use Rattle.unix_path.specs.CommonDir.{inner_values}
use Rattle.unix_path.specs.Parts.{slash, Value, RootDir, CurDir, values}
use Rattle.unix_path.specs.Parts.{parts, leading_part, inner_parts}
use Rattle.unix_path.proofs.lemmas.parts.PartLemmas.{values-nil}
use Rattle.unix_path.proofs.lemmas.order.CommonPrefixLemmas.{inner_values-nil}
use Rattle.path_runs.specs.Spelling.{slash_each, slashed_bytes, spelling_of}
use Rattle.path_runs.proofs.lemmas.spelling.PieceValueLemmas.{inner_values-pieces, values-rooted}
use Rattle.path_keys.specs.Keys.{code, key_of, IsKey}
use Rattle.path_keys.specs.NameBytes.{decoded}
use Rattle.path_keys.specs.Runs.{lead_text, run_code, run_text, TakesRun}
use Rattle.path_keys.specs.declared.runs.Lead.{Lead}
use Rattle.path_keys.specs.declared.runs.Lead.TheVariants.{Absent, Root, Dot}
use Rattle.path_keys.specs.declared.runs.Run.{Run}
use Rattle.path_keys.specs.declared.runs.Run.TheVariants.{Names}
use Rattle.path_keys.specs.declared.runs.Run.TheVariants as run_variants
use Rattle.path_keys.proofs.lemmas.values.CodeLemmas.{code-length, IsCoded}
use Rattle.path_keys.proofs.lemmas.values.Fitting.{AllFit}
use Rattle.path_keys.proofs.lemmas.values.KeyLemmas.{key_of-append, key_of-cons, key_of-nil}
use Rattle.path_keys.proofs.lemmas.values.OrderLemmas.{key_of-same}
use Rattle.path_keys.proofs.lemmas.reading.FitLemmas.{AllFit-coded, inner-fit}
use Rattle.path_keys.proofs.lemmas.reading.FitLemmas.{inner_values-slashed, key_of-split}
use Rattle.path_keys.proofs.lemmas.reading.FitLemmas.{values-fit, values-spelled}
use Rattle.path_keys.proofs.lemmas.reading.TextLemmas.{no_root, text_of, text_of-each, text_of-nil}
use Rattle.path_keys.proofs.lemmas.reading.TextLemmas.{text_of-one, text_of-slashed}
use Rattle.path_keys.proofs.lemmas.writing.RunLemmas.{inner_values-cut}

-- the text of a root has the root as its only component
pub root_values : RootDir ∷ [] ≡ values (lead_text Root)
root_values = sym (values-rooted [])

-- the text of a leading `.` has this `.` as its only component
pub dot_values : CurDir ∷ [] ≡ values (lead_text Dot)
unfolding values parts leading_part inner_parts
dot_values = refl

-- the text of a lead is the text of its components
lead_text-is : (lead : Lead) → text_of (values (lead_text lead)) ≡ lead_text lead
lead_text-is Absent = ap text_of values-nil ∙ text_of-nil
lead_text-is Root = ap text_of (sym root_values) ∙ text_of-one RootDir
lead_text-is Dot = ap text_of (sym dot_values) ∙ text_of-one CurDir

-- the key begins with the lead, whose components are vs, and `rest` follows it; if `key` is a
-- path's key, `rest` is the key of components that may follow others
pub record BeginsLead (key rest : List ℕ) (lead : Lead) : Type 0 where
  pub vs : List Value
  pub lead_is : vs ≡ values (lead_text lead)
  pub fit : AllFit true vs
  pub key_is : key_of vs ++ rest ≡ key
  pub text_is : text_of vs ≡ lead_text lead
  pub inner : (ws : List Value) → AllFit true (vs ++ ws) → key_of ws ≡ rest → AllFit false ws

-- s begins with the code of the run, and the run's components can come after others in a path
pub record ReadsRun (s : List ℕ) (run : Run) : Type 0 where
  pub vs : List Value
  pub some : 0 < length vs
  pub fit : AllFit false vs
  pub code_is : key_of vs ≡ run_code run
  pub text_is : text_of vs ≡ run_text run
  pub is : s ≡ run_code run ++ drop (length (run_code run)) s

-- s is not the key of any non-empty list of components that can come after others
abbrev pub HoldsNone : List ℕ → Type 0
HoldsNone s = (v : Value) (vs : List Value) → AllFit false (v ∷ vs) → key_of (v ∷ vs) ≡ s → ⊥

-- the code of a run has at least one byte, and its text has at most twice as many bytes as its code
pub run_small : (run : Run)
    → (0 < length (run_code run)) × (length (run_text run) ≤ 2 * length (run_code run))
run_small run_variants.ParentDir = (omega arith, omega arith)
run_small (Names bytes) =
    let code = length-append bytes.now (0 ∷ []) in
    let text = length-append (map decoded bytes.now) (slash ∷ []) in
    (omega (arith, code), omega (arith, code, text, length-map bytes.now decoded))

-- if vs may follow other components, they are the inner components of their text
inner_values-text : (vs : List Value) → AllFit false vs → inner_values (text_of vs) ≡ vs
inner_values-text [] h = ap inner_values text_of-nil ∙ inner_values-nil
inner_values-text (v ∷ vs) h =
    ap inner_values (text_of-slashed v vs (no_root v h.0) h.1)
    ∙ inner_values-cut (slashed_bytes (v ∷ vs)) []
    ∙ ap (λ ws. inner_values (slashed_bytes (v ∷ vs)) ++ ws) (inner_values-pieces (slash ∷ []))
    ∙ append-nil (inner_values (slashed_bytes (v ∷ vs)))
    ∙ inner_values-slashed (v ∷ vs) h

-- if s begins with the run, its components are those of its text
pub run_told : {s : List ℕ} {run : Run} → ReadsRun s run → TakesRun s run
run_told {s} {run} h =
    let same : inner_values (run_text run) ≡ h.vs =
    ap inner_values (sym h.text_is) ∙ inner_values-text h.vs h.fit in
    record {
      begins = (drop (length (run_code run)) s, sym h.is);
      code_is = ap key_of same ∙ h.code_is;
      text_is = ap (λ t. slash ∷ t) (sym h.text_is) ∙ text_of-each h.vs h.fit
          ∙ ap (λ ws. slash_each ws ++ slash ∷ []) (sym same);
    }

-- if two lists begin with a slash and are the same, so are the bytes after it
after_slash : {s t : List ℕ} → slash ∷ s ≡ slash ∷ t → s ≡ t
after_slash e = cc

-- if the code of a run is the key of vs, vs is not empty
values_some : (run : Run) (vs : List Value) → key_of vs ≡ run_code run → 0 < length vs
values_some run [] e = omega (arith, run_small run, ap length e, ap length key_of-nil)
values_some run (v ∷ vs) e = omega arith

-- if s begins with the run of the components of its text, these may follow others
pub run_known : {s : List ℕ} {run : Run} → TakesRun s run → ReadsRun s run
run_known {s} {run} h =
    let vs = inner_values (run_text run) in
    let fit : AllFit false vs = inner-fit (run_text run) in
    let code = run_code run in
    record {
      vs = vs;
      some = values_some run vs h.code_is;
      fit = fit;
      code_is = h.code_is;
      text_is = after_slash (text_of-each vs fit ∙ sym h.text_is);
      is = sym h.begins.1 ∙ ap (λ t. code ++ t)
          (sym (ap (drop (length code)) (sym h.begins.1) ∙ drop_at code h.begins.0 _ refl));
    }

-- if s is not the key of any non-empty list of components that may follow others, and the key of
-- inner components, it is empty
pub none_told : {s : List ℕ} → HoldsNone s → (t : List ℕ) → key_of (inner_values t) ≡ s → s ≡ []
none_told {s} none t e = by (inner_values t) (inner-fit t) e
  where
    by : (vs : List Value) → AllFit false vs → key_of vs ≡ s → s ≡ []
    by [] fit e = sym e ∙ key_of-nil
    by (v ∷ vs) fit e = absurd (none v vs fit e)

-- if s is empty wherever it is the key of inner components, it is not the key of any non-empty list
-- of components that may follow others
pub none_known : {s : List ℕ} → ((t : List ℕ) → key_of (inner_values t) ≡ s → s ≡ [])
    → HoldsNone s
none_known {s} empty v vs fit e = omega (
  arith,
  code-length v,
  ap length (empty (slashed_bytes (v ∷ vs))
      (ap key_of (inner_values-slashed (v ∷ vs) fit) ∙ e)),
  ap length e,
  ap length (key_of-cons v vs),
  length-append (code v) (key_of vs),
)

-- if the key begins with `lead`, and `rest` follows it, the components of the lead's text do
pub lead_told : {key rest : List ℕ} {lead : Lead} → BeginsLead key rest lead
    → key ≡ key_of (values (lead_text lead)) ++ rest
lead_told {key} {rest} {lead} h = sym h.key_is ∙ ap (λ vs. key_of vs ++ rest) h.lead_is

-- if the key begins with `lead`, and `rest` follows it, `rest` is the key of inner components if
-- `key` is a path's key
pub lead_inner : {key rest : List ℕ} {lead : Lead} → BeginsLead key rest lead
    → IsKey key → (t : List ℕ) × (key_of (inner_values t) ≡ rest)
lead_inner {key} {rest} {lead} h (s, e) =
    let (ws, same, after) =
    key_of-split true true h.vs (values s) rest h.fit (values-fit s) (h.key_is ∙ sym e) in
    let fit = h.inner ws (subst (AllFit true) (sym same) (values-fit s)) after in
    (slashed_bytes ws, ap key_of (inner_values-slashed ws fit) ∙ after)

-- if all components of us and ws are `IsCoded`, so are those of ws
coded_later : (us ws : List Value) → AllByRecursion IsCoded (us ++ ws) → AllByRecursion IsCoded ws
coded_later [] ws h = h
coded_later (u ∷ us) ws h = coded_later us ws h.1

-- if the key is the key of the components of the lead's text followed by `rest`, which is the key
-- of inner components if `key` is a path's key, the key begins with `lead`
pub lead_known : {key rest : List ℕ} {lead : Lead}
    → key ≡ key_of (values (lead_text lead)) ++ rest
    → (IsKey key → (t : List ℕ) × (key_of (inner_values t) ≡ rest)) → BeginsLead key rest lead
lead_known {key} {rest} {lead} is inner =
    let vs = values (lead_text lead) in
    record {
      vs = vs;
      lead_is = refl;
      fit = values-fit (lead_text lead);
      key_is = sym is;
      text_is = lead_text-is lead;
      inner = λ ws fit e.
          let all = vs ++ ws in
          let (t, after) = inner (
            spelling_of all,
            ap key_of (values-spelled all fit)
                ∙ key_of-append vs ws ∙ ap (λ k. key_of vs ++ k) e ∙ sym is,
          ) in
          subst (AllFit false) (key_of-same (inner_values t) ws
          (AllFit-coded false _ (inner-fit t)) (coded_later vs ws (AllFit-coded true all fit))
          (after ∙ sym e)) (inner-fit t);
    }
