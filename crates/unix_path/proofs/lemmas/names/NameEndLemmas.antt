-- Where a file name ends, and an extension appended there.
use Rattle.std.proofs.Common.{◌≡◌, ℕ, ◌+◌, List, [], ◌∷◌, ◌++◌, length, take, eqb, cond}
use Rattle.std.proofs.Common.{Option, Some, None, is_some, option_map, true, false, sym, ap, ◌∙◌}
use Rattle.std.proofs.Common.{arith, eq-eqb}
use Rattle.std.specs.Option.{option_map_or}
use Rattle.std.proofs.lemmas.Bool.{cond-true, cond-false}
use Rattle.unix_path.specs.Parts.{parts, values}
use Rattle.unix_path.specs.Rest.{rest}
use Rattle.unix_path.specs.Names.{file_name_of}
use Rattle.unix_path.specs.Edits.{last_start_of}
use Rattle.unix_path.specs.Extensions.{name_end_of, added_extension_of}
use Rattle.unix_path.proofs.lemmas.edits.EditLemmas.{is_some-option_map}
use Rattle.unix_path.proofs.lemmas.names.StemLemmas.{last_start_of-name}

-- the index where `name`, the file name of s, ends in s, or None if there is no name
abbrev pub name_end_by : List ℕ → Option (List ℕ) → Option ℕ
name_end_by s name = option_map (λ name. last_start_of (parts s) + length name) name

-- if s has no file name, there is no index where the file name ends
pub name_end_of-none : (s : List ℕ) → None ≡ file_name_of (values s) → None ≡ name_end_of s
unfolding name_end_of
name_end_of-none s e = ap (name_end_by s) e

-- if s has a file name, and s without its trailing filler has `end` bytes, the file name ends at
-- `end`
pub name_end_of-some : (s name : List ℕ) (end : ℕ) → Some name ≡ file_name_of (values s)
    → end ≡ length (rest s 0 0) → Some end ≡ name_end_of s
unfolding name_end_of
name_end_of-some s name end e at = grind (arith, last_start_of-name)

-- s up to index `end`, then a dot and the extension x; all of s if `end` is None or x is empty
abbrev pub added_extension_at : List ℕ → List ℕ → Option ℕ → List ℕ
added_extension_at s x end =
    cond (eqb (length x) 0) s (option_map_or (λ end. (take end s ++ 46 ∷ []) ++ x) end s)

-- if x is empty, adding the extension x leaves s unchanged
pub added_extension_of-nil : (s x : List ℕ) → length x ≡ 0 → added_extension_of s x ≡ s
unfolding added_extension_of
added_extension_of-nil s x e = cond-true _ _ _ (eq-eqb (length x) 0 e)

-- if there is no index where the file name of s ends, adding an extension leaves s unchanged
pub added_extension_of-none : (s x : List ℕ) → None ≡ name_end_of s → added_extension_of s x ≡ s
unfolding added_extension_of
added_extension_of-none s x e = grind arith

-- if the file name of s ends at `end`, and x is not empty, adding the extension x keeps the first
-- `end` bytes of s, and appends a dot and x
pub added_extension_of-some : (s x : List ℕ) (end : ℕ) → Some end ≡ name_end_of s
    → eqb (length x) 0 ≡ false → added_extension_of s x ≡ (take end s ++ 46 ∷ []) ++ x
unfolding added_extension_of
added_extension_of-some s x end e h = ap (added_extension_at s x) (sym e) ∙ cond-false _ _ _ h

-- there is an index where the file name of s ends if and only if s has a file name
is_some-name_end_of : (s : List ℕ) → is_some (name_end_of s) ≡ is_some (file_name_of (values s))
unfolding name_end_of
is_some-name_end_of s = is_some-option_map _ (file_name_of (values s))

-- if there is an index `end` where the file name of s ends, s has a file name
pub file_name_of-name_end : (s : List ℕ) (end : ℕ) → Some end ≡ name_end_of s
    → is_some (file_name_of (values s)) ≡ true
file_name_of-name_end s end e = sym (is_some-name_end_of s) ∙ ap is_some (sym e)

-- if there is no index where the file name of s ends, s has no file name
pub file_name_of-no_name_end : (s : List ℕ) → None ≡ name_end_of s
    → is_some (file_name_of (values s)) ≡ false
file_name_of-no_name_end s e = sym (is_some-name_end_of s) ∙ ap is_some (sym e)

pub ruleset added_cases = (
  added_extension_of-nil,
  added_extension_of-none,
  added_extension_of-some,
  file_name_of-name_end,
  file_name_of-no_name_end,
)
