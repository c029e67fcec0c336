-- The bytes that the last step of a command appended are the command's answer. Each lemma is about
-- one kind of step.
use Rattle.std.proofs.Common.{◌≡◌, ℕ, Bool, List, ◌++◌, Option, Some, None, option_map, Result}
use Rattle.std.proofs.Common.{OnOk, Decides, codes, ap, sym, ◌∙◌}
use Rattle.std.specs.List.{starts_with, ends_with}
use Rattle.std.proofs.lemmas.Bool.Decides.{same_from_decides}
use Rattle.unix_bytes.specs.declared.bytes.UnixStr.{UnixStr}
use Rattle.unix_path.specs.Order.{same_value}
use Rattle.unix_path.specs.Parts.{values}
use Rattle.unix_path.specs.Prefixes.{IsPrefixOf, IsSuffixOf, stripped_of}
use Rattle.json.specs.Print.{quoted}
use Rattle.unix_bytes.specs.Utf8.{IsText}
use Rattle.pathtool.specs.Answers.{optional, strip_answer}
use Rattle.pathtool.specs.Fields.{bool_text}
use Rattle.pathtool.specs.Quoted.{json_of}
use Rattle.pathtool.proofs.lemmas.answers.PrefixTestLemmas.{starts_with-Decides, ends_with-Decides}
use Rattle.pathtool.proofs.lemmas.answers.PrefixTestLemmas.{strip_answer-ok, strip_answer-not_found}
use Rattle.pathtool.proofs.lemmas.answers.AddLemmas.{adds}
use Rattle.pathtool.proofs.lemmas.answers.QuoteLemmas.{json_of-text}

-- if the optional name `found` has the bytes `bytes`, the step that appended the answer for `found`
-- appended the answer for `bytes`
pub adds_found : {T E : Type 0} (r : Result T E) (new old : List ℕ) (found : Option UnixStr)
    (bytes : Option (List ℕ)) → option_map (λ name. name.bytes.now) found ≡ bytes
    → OnOk r (new ≡ old ++ optional (option_map (λ name. name.bytes.now) found))
    → OnOk r (new ≡ old ++ optional bytes)
adds_found r new old found bytes e h = adds r new old (ap optional e) h

-- if `found` is `bytes`, and `known` is `Some bytes`, the step that appended `+` and `found`
-- appended the answer for `known`
pub adds_some : {T E : Type 0} (r : Result T E) (new old found bytes : List ℕ)
    (known : Option (List ℕ)) → found ≡ bytes → Some bytes ≡ known
    → OnOk r (new ≡ old ++ optional (Some found)) → OnOk r (new ≡ old ++ optional known)
adds_some r new old found bytes known e k h = adds r new old (ap optional (ap Some e ∙ k)) h

-- if `known` is `None`, the step that appended `-` appended the answer for `known`
pub adds_none : {T E : Type 0} (r : Result T E) (new old : List ℕ) (known : Option (List ℕ))
    → None ≡ known → OnOk r (new ≡ old ++ optional None) → OnOk r (new ≡ old ++ optional known)
adds_none r new old known k h = adds r new old (ap optional k) h

-- if `is_so` says whether `path` starts with the components of `base`, the step that appended the
-- word for `is_so` appended the answer of `starts`
pub adds_starts : {T E : Type 0} (r : Result T E) (new old : List ℕ) (is_so : Bool)
    (path base : List ℕ) → Decides is_so (IsPrefixOf (values base) (values path))
    → OnOk r (new ≡ old ++ bool_text is_so)
    → OnOk r (new ≡ old ++ bool_text (starts_with same_value (values path) (values base)))
adds_starts r new old is_so path base d h = adds r new old
    (ap bool_text (same_from_decides is_so (starts_with same_value (values path) (values base)) d
    (starts_with-Decides (values path) (values base)))) h

-- if `is_so` says whether `path` ends with the components of `child`, the step that appended the
-- word for `is_so` appended the answer of `ends`
pub adds_ends : {T E : Type 0} (r : Result T E) (new old : List ℕ) (is_so : Bool)
    (path child : List ℕ) → Decides is_so (IsSuffixOf (values child) (values path))
    → OnOk r (new ≡ old ++ bool_text is_so)
    → OnOk r (new ≡ old ++ bool_text (ends_with same_value (values path) (values child)))
adds_ends r new old is_so path child d h = adds r new old
    (ap bool_text (same_from_decides is_so (ends_with same_value (values path) (values child)) d
    (ends_with-Decides (values path) (values child)))) h

-- if `path` starts with the components of `base`, and `found` is the rest of `path` after them, the
-- step that appended `+` and `found` appended the answer of `strip`
pub adds_rest : {T E : Type 0} (r : Result T E) (new old path base rest found : List ℕ)
    → IsPrefixOf (values base) (values path) → rest ≡ stripped_of path base → found ≡ rest
    → OnOk r (new ≡ old ++ optional (Some found)) → OnOk r (new ≡ old ++ strip_answer path base)
adds_rest r new old path base rest found starts e is h =
    adds r new old (strip_answer-ok path base found starts (is ∙ e)) h

-- if `path` doesn't start with the components of `base`, the step that appended `prefix not found`
-- appended the answer of `strip`
pub adds_error : {T E : Type 0} (r : Result T E) (new old path base : List ℕ)
    → (IsPrefixOf (values base) (values path) → ⊥) → OnOk r (new ≡ old ++ codes "prefix not found")
    → OnOk r (new ≡ old ++ strip_answer path base)
adds_error r new old path base h said =
    adds r new old (strip_answer-not_found path base h) said

-- if `path` is valid UTF-8, and `said` is its JSON string, the step that appended `said` appended
-- the answer of `json`
pub adds_quoted : {T E : Type 0} (r : Result T E) (new old path said : List ℕ)
    → ((IsText path → ⊥) → ⊥) → said ≡ quoted path → OnOk r (new ≡ old ++ said)
    → OnOk r (new ≡ old ++ json_of path)
adds_quoted r new old path said is_text e h =
    adds r new old (e ∙ sym (json_of-text path is_text)) h
