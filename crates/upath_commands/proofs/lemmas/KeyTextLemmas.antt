-- The paths of keys.
use Rattle.std.proofs.Common.{◌≡◌, ℕ, List, Some, None, refl, sym, ap, ◌∙◌}
use Rattle.std.proofs.lemmas.Option.{cond_some, option_and_then_some, same_Some}
use Rattle.unix_path.specs.Parts.{values}
use Rattle.path_runs.specs.Spelling.{spelling_of}
use Rattle.path_keys.specs.Keys.{key_of, IsKey}
use Rattle.path_keys.specs.KeyValues.{is_own, key_values}
use Rattle.path_keys.proofs.lemmas.reading.KeyValueLemmas.{key_values-values, own-is, own-key_of}
use Rattle.upath_commands.specs.Hex.{hex_value}
use Rattle.upath_commands.specs.KeyTexts.{key_path, unkeyed_path}
use Rattle.upath_commands.proofs.lemmas.RecordLemmas.{by_test}

-- the path of the key of s is s in canonical form
pub key_path-key_of : (s : List ℕ) → key_path (key_of (values s)) ≡ Some (spelling_of (values s))
unfolding key_path
key_path-key_of s =
    rw (own-key_of s) (ap (λ vs. Some (spelling_of vs)) (key_values-values s))

-- bytes that are no key have no path
pub key_path-none : (key : List ℕ) → (IsKey key → ⊥) → key_path key ≡ None
unfolding key_path
key_path-none key h =
    by_test (is_own key) (λ e. absurd (h (spelling_of (key_values key), own-is key e)))
    (λ e. rw e refl)

-- a path with this key in canonical form is its path
pub key_path-some : (key p : List ℕ) → key_of (values p) ≡ key
    → ((s : List ℕ) → key_of (values s) ≡ key → p ≡ spelling_of (values s))
    → Some p ≡ key_path key
key_path-some key p e h =
    ap Some (h p e) ∙ sym (key_path-key_of p) ∙ ap key_path e

-- bytes with a path are its key
pub key_path-is : (key p : List ℕ) → key_path key ≡ Some p → key_of (values p) ≡ key
unfolding key_path
key_path-is key p e =
    let both = cond_some (is_own key) (spelling_of (key_values key)) p e in
    ap (λ q. key_of (values q)) (sym both.1) ∙ own-is key both.0

-- a path that bytes have is in canonical form
pub key_path-spelled : (key p : List ℕ) → key_path key ≡ Some p → p ≡ spelling_of (values p)
key_path-spelled key p e =
    same_Some p (spelling_of (values p))
    (sym e ∙ ap key_path (sym (key_path-is key p e)) ∙ key_path-key_of p)

-- the key with this path in hexadecimal
pub unkeyed_path-key : (text p : List ℕ) → unkeyed_path text ≡ Some p
    → (key : List ℕ) × (hex_value text ≡ Some key) × (key_path key ≡ Some p)
unkeyed_path-key text p e =
    option_and_then_some key_path (hex_value text) p e (λ key h k. (key, h, k))
