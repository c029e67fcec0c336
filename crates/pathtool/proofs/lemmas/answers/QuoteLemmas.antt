-- The JSON string of a path that is valid UTF-8, and the message for a path that isn't.
use Rattle.std.proofs.Common.{◌≡◌, ℕ, List, codes, refl, sym, ◌∙◌}
use Rattle.std.proofs.lemmas.Bool.{false≢true}
use Rattle.json.specs.Print.{quoted}
use Rattle.unix_bytes.specs.Lossy.{is_text}
use Rattle.unix_bytes.specs.Utf8.{IsText}
use Rattle.unix_bytes.proofs.lemmas.lossy.LossyLemmas.{is_text-from_IsText, IsText-from_is_text}
use Rattle.unix_bytes.proofs.lemmas.lists.ListLemmas.{by_test}
use Rattle.pathtool.specs.Quoted.{json_of}

-- if the path s is valid UTF-8, the answer of `json` is s as a JSON string
pub json_of-text : (s : List ℕ) → ((IsText s → ⊥) → ⊥) → json_of s ≡ quoted s
json_of-text s h = by_test (is_text s) (λ e. rw e refl)
    (λ e. absurd (h (λ text. absurd (false≢true (sym e ∙ is_text-from_IsText s text)))))

-- if the path s isn't valid UTF-8, the answer of `json` is the message that says so
pub json_of-other : (s : List ℕ) → (IsText s → ⊥)
    → json_of s ≡ codes "path contains invalid UTF-8 characters"
json_of-other s h = by_test (is_text s) (λ e. absurd (h (IsText-from_is_text s e)))
    (λ e. rw e refl)
