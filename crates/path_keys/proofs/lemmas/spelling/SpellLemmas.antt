-- A key whose path is written run by run.
use Rattle.std.proofs.Common.{◌≡◌, ◌≤◌, ◌+◌, ℕ, true, false, List, [], ◌∷◌, ◌++◌}
use Rattle.std.proofs.Common.{length, drop, refl, sym, ap, ◌∙◌, arith, subst, append_assoc}
use Rattle.std.proofs.Common.{append-nil, length-append, length-drop}
use Rattle.std.proofs.lemmas.List.{drop_all}
use Rattle.unix_path.specs.Parts.{Value, values}
use Rattle.path_runs.specs.Overlay.{overlay}
use Rattle.path_runs.proofs.lemmas.lists.OverlayLemmas.{buffer_after-fits}
use Rattle.path_runs.proofs.lemmas.lists.WritingLemmas.{WritesOn, writes_first, writes_stretch}
use Rattle.path_runs.proofs.lemmas.lists.WritingLemmas.{writes_room}
use Rattle.path_runs.proofs.lemmas.lists.WritingLemmas.{writes_last}
use Rattle.path_keys.specs.Keys.{key_of}
use Rattle.path_keys.proofs.lemmas.values.Fitting.{AllFit}
use Rattle.path_keys.proofs.lemmas.reading.TextLemmas.{text_of}
use Rattle.path_keys.specs.Runs.{lead_text, run_code, run_text}
use Rattle.path_keys.proofs.lemmas.spelling.RunTextLemmas.{BeginsLead, HoldsNone, ReadsRun}
use Rattle.path_keys.specs.declared.runs.Lead.{Lead}
use Rattle.path_keys.specs.declared.runs.Run.{Run}
use Rattle.path_keys.proofs.lemmas.reading.FitLemmas.{AllFit-coded, AllFit-later, key_of-split}
use Rattle.path_keys.proofs.lemmas.reading.FitLemmas.{values-fit}
use Rattle.path_keys.proofs.lemmas.values.OrderLemmas.{key_of-same}
use Rattle.path_keys.proofs.lemmas.reading.TextLemmas.{text_of-append, text_of-nil}

-- `out` is `old` with the text of some components of the key written over its beginning, up to
-- index `at`; `rest` is the key of the remaining components, whose text fits too
pub record SpellsOn (key rest old : List ℕ) (at : ℕ) (out : List ℕ) : Type 0 where
  pub us : List Value
  pub ws : List Value
  pub fit : AllFit true (us ++ ws)
  pub inner : AllFit false ws
  pub key_is : key_of (us ++ ws) ≡ key
  pub rest_is : rest ≡ key_of ws
  pub fits : length (text_of (us ++ ws)) ≡ length old
  pub written : WritesOn (text_of (us ++ ws)) old at out (text_of ws)

-- if the text of a path with the key is as long as `old`, and the key begins with `lead`, writing
-- the text of `lead` at the beginning of `old` leaves the text of the rest to be written
pub spells_lead : {key rest old out : List ℕ} {lead : Lead} {at : ℕ} (s : List ℕ)
    → key_of (values s) ≡ key → length old ≡ length (text_of (values s))
    → BeginsLead key rest lead → out ≡ overlay 0 (lead_text lead) old
    → at ≡ length (lead_text lead) → SpellsOn key rest old at out
spells_lead {key} {rest} {old} {out} {lead} {at} s key_is long k is_put ends =
    let all = values-fit s in
    let (ws, e, after) =
    key_of-split true true k.vs (values s) rest k.fit all (k.key_is ∙ sym key_is) in
    let fit = subst (AllFit true) (sym e) all in
    record {
      us = k.vs;
      ws = ws;
      fit = fit;
      inner = k.inner ws fit after;
      key_is = ap key_of e ∙ key_is;
      rest_is = sym after;
      fits = ap (λ vs. length (text_of vs)) e ∙ sym long;
      written = writes_stretch (lead_text lead) (text_of ws)
          (writes_first (text_of (k.vs ++ ws)) old refl)
          (text_of-append k.vs ws ∙ ap (λ t. t ++ text_of ws) k.text_is) is_put
          (omega (arith, ends));
    }

-- the components ws begin with the components vs of the run, and the bytes of `rest` after the run
-- are the key of the remaining components
record NextIs (rest : List ℕ) (ws vs : List Value) (run : Run) : Type 0 where
  more : List Value
  is : ws ≡ vs ++ more
  after : drop (length (run_code run)) rest ≡ key_of more

-- if `rest` is the key of ws, and begins with `run`, then ws begins with the components of `run`
next_is : {rest : List ℕ} {run : Run} (ws : List Value) → AllFit false ws
    → rest ≡ key_of ws → (k : ReadsRun rest run) → NextIs rest ws k.vs run
next_is {rest} {run} ws h e k =
    let rests = drop (length (run_code run)) rest in
    let (more, is, after) = key_of-split false false k.vs ws rests k.fit h
    (ap (λ c. c ++ rests) k.code_is ∙ sym k.is ∙ e) in
    record { more = more; is = sym is; after = sym after }

-- if ws is vs and then `more`, and the text of vs is the text of `run`, the text of ws is the text
-- of `run` and then the text of `more`
text_remains : {ws : List Value} (vs more : List Value) (run : Run) → ws ≡ vs ++ more
    → text_of vs ≡ run_text run → text_of ws ≡ run_text run ++ text_of more
text_remains {ws} vs more run e text =
    ap text_of e ∙ text_of-append vs more ∙ ap (λ t. t ++ text_of more) text

-- if `rest` begins with `run`, the text of `run` fits between index `at` and the end of `old`
pub spells_fits : {key rest old out : List ℕ} {at : ℕ} {run : Run}
    → SpellsOn key rest old at out → ReadsRun rest run
    → at + length (run_text run) ≤ length old
spells_fits {key} {rest} {old} {out} {at} {run} h k =
    let next = next_is h.ws h.inner h.rest_is k in
    writes_room (run_text run) (text_of next.more) h.written
    (text_remains k.vs next.more run next.is k.text_is) (omega (arith, h.fits))

-- `out` is as long as `old`
pub spells_long : {key rest old out : List ℕ} {at : ℕ}
    → SpellsOn key rest old at out → length out ≡ length old
spells_long {key} {rest} {old} {out} {at} h = grind (arith, length-append, length-drop)

-- if `rest` begins with `run`, writing the text of `run` at index `at` leaves the text of the rest
-- after `run` to be written
pub spells_one : {key rest old out more new : List ℕ} {at end : ℕ} {run : Run}
    → SpellsOn key rest old at out → ReadsRun rest run
    → more ≡ drop (length (run_code run)) rest → new ≡ overlay at (run_text run) out
    → end ≡ at + length (run_text run) → SpellsOn key more old end new
spells_one {key} {rest} {old} {out} {more} {new} {at} {end} {run} h k e is_put ends =
    let next = next_is h.ws h.inner h.rest_is k in
    let all : h.us ++ h.ws ≡ (h.us ++ k.vs) ++ next.more =
    ap (λ ws. h.us ++ ws) next.is ∙ sym (append_assoc h.us k.vs next.more) in
    record {
      us = h.us ++ k.vs;
      ws = next.more;
      fit = subst (AllFit true) all h.fit;
      inner = AllFit-later k.vs next.more (subst (AllFit false) next.is h.inner);
      key_is = ap key_of (sym all) ∙ h.key_is;
      rest_is = e ∙ next.after;
      fits = ap (λ vs. length (text_of vs)) (sym all) ∙ h.fits;
      written = subst (λ vs. WritesOn (text_of vs) old end new (text_of next.more)) all
          (writes_stretch (run_text run) (text_of next.more) h.written
          (text_remains k.vs next.more run next.is k.text_is) is_put ends);
    }

-- if `rest` is the key of ws, which may follow other components, and isn't the key of one or more
-- such components, ws is empty
none_of_rest : {rest : List ℕ} (ws : List Value) → AllFit false ws → rest ≡ key_of ws
    → HoldsNone rest → ws ≡ []
none_of_rest [] h e none = refl
none_of_rest (w ∷ ws) h e none = absurd (none w ws h (sym e))

-- if no run remains in `rest`, `out` is the text of vs, the components whose key is `key`
pub spells_all : {key rest old out : List ℕ} {at : ℕ}
    → SpellsOn key rest old at out → HoldsNone rest
    → (vs : List Value) → AllFit true vs → key_of vs ≡ key → out ≡ text_of vs
spells_all {key} {rest} {old} {out} {at} h none vs fit e =
    let all = h.us ++ h.ws in
    let empty = none_of_rest h.ws h.inner h.rest_is none in
    let whole = writes_last h.written (ap text_of empty ∙ text_of-nil) (omega (arith, h.fits)) in
    let same : all ≡ vs =
    key_of-same all vs (AllFit-coded true all h.fit) (AllFit-coded true vs fit)
    (h.key_is ∙ sym e) in
    whole ∙ buffer_after-fits (text_of all) old (omega (arith, h.fits))
    ∙ ap (λ tail. text_of all ++ tail) (drop_all (length (text_of all)) old (omega (arith, h.fits)))
    ∙ append-nil (text_of all) ∙ ap text_of same
