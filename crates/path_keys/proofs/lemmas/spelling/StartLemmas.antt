-- The lead of a key.
use Rattle.std.proofs.Common.{◌≡◌, ◌≤◌, ℕ, true, false, List, [], ◌∷◌, ◌++◌}
use Rattle.std.proofs.Common.{length, drop, get_or, sym, ap, ◌∙◌}
use Rattle.unix_path.specs.Parts.{Value, RootDir, CurDir, ParentDir, Normal, values}
use Rattle.unix_path.proofs.lemmas.parts.PartLemmas.{values-nil}
use Rattle.unix_path.specs.CommonDir.{inner_values}
use Rattle.path_keys.specs.Keys.{code, key_of, IsKey}
use Rattle.path_keys.proofs.lemmas.values.Fitting.{AllFit, Fits}
use Rattle.path_keys.proofs.lemmas.reading.TextLemmas.{slashed}
use Rattle.path_keys.specs.Runs.{lead_text}
use Rattle.path_keys.specs.declared.runs.Lead.{Lead}
use Rattle.path_keys.specs.declared.runs.Lead.TheVariants.{Absent}
use Rattle.path_keys.proofs.lemmas.values.KeyLemmas.{key_of-nil, key_of-cons, key_of-one}
use Rattle.path_keys.proofs.lemmas.reading.TextLemmas.{text_of-nil, text_of-one}
use Rattle.path_keys.proofs.lemmas.reading.MarkLemmas.{two_first}
use Rattle.path_keys.proofs.lemmas.spelling.RunTextLemmas.{lead_inner, BeginsLead}

-- if s begins with a 0 and a mark m, which are the code of v, a first component with the text of
-- `lead`, the lead of s is `lead`, and the rest begins at index 2
pub mark_lead : (v : Value) (lead : Lead) (m : ℕ) → Fits true v → code v ≡ 0 ∷ m ∷ []
    → slashed v ≡ lead_text lead → v ∷ [] ≡ values (lead_text lead) → (s : List ℕ)
    → 2 ≤ length s → get_or s 0 0 ≡ 0
    → get_or s 1 0 ≡ m → BeginsLead s (drop 2 s) lead
mark_lead v lead m h code_is text_is lead_is s l e f = record {
  vs = v ∷ [];
  lead_is = lead_is;
  fit = (h, tt);
  key_is = ap (λ k. k ++ drop 2 s) (key_of-one v ∙ code_is) ∙ two_first s m l e f;
  text_is = text_of-one v ∙ text_is;
  inner = λ ws fit _. fit.1;
}

-- if s begins neither with 00 01 nor with 00 02, s has no lead, and the rest is s
no_lead : (s : List ℕ) → ((r : List ℕ) → 0 ∷ 1 ∷ r ≡ s → ⊥)
    → ((r : List ℕ) → 0 ∷ 2 ∷ r ≡ s → ⊥) → BeginsLead s s Absent
no_lead s root dot = record {
  vs = [];
  lead_is = sym values-nil;
  fit = tt;
  key_is = ap (λ k. k ++ s) key_of-nil;
  text_is = text_of-nil;
  inner = by;
}
  where
    by : (ws : List Value) → AllFit true ws → key_of ws ≡ s → AllFit false ws
    by [] fit e = tt
    by (RootDir ∷ ws) fit e = absurd (root (key_of ws) (sym (key_of-cons RootDir ws) ∙ e))
    by (CurDir ∷ ws) fit e = absurd (dot (key_of ws) (sym (key_of-cons CurDir ws) ∙ e))
    by (ParentDir ∷ ws) fit e = fit
    by (Normal name ∷ ws) fit e = fit

-- s is the key of no components followed by s
pub absent_lead : (s : List ℕ) → s ≡ key_of (values []) ++ s
absent_lead s = sym (ap (λ vs. key_of vs ++ s) values-nil ∙ ap (λ k. k ++ s) key_of-nil)

-- if s begins neither with 00 01 nor with 00 02, and s is a key, it is the key of inner components
pub no_lead_inner : (s : List ℕ) → ((r : List ℕ) → 0 ∷ 1 ∷ r ≡ s → ⊥)
    → ((r : List ℕ) → 0 ∷ 2 ∷ r ≡ s → ⊥) → IsKey s
    → (t : List ℕ) × (key_of (inner_values t) ≡ s)
no_lead_inner s root dot = lead_inner (no_lead s root dot)
