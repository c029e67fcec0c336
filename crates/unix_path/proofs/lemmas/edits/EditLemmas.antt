-- What a pop, and setting an extension, keep of a path.
use Rattle.std.proofs.Common.{arith}
use Rattle.std.proofs.Common.{◌≡◌, ℕ, List, [], ◌∷◌, ◌++◌, length, take, refl, Option, Some, None}
use Rattle.std.proofs.Common.{is_some, option_map, unwrap_or, true, false, sym, ap, ◌∙◌}
use Rattle.std.proofs.Math.Dec.{eqb-suc-zero}
use Rattle.std.specs.Option.{option_map_or}
use Rattle.unix_path.specs.Parts.{values}
use Rattle.unix_path.specs.Parents.{parent_of}
use Rattle.unix_path.specs.Names.{file_name_of}
use Rattle.unix_path.specs.Edits.{popped_of, stem_end_of, dot_before, with_extension_of}

-- if s has no parent, a pop leaves s unchanged
pub popped_of-none : (s : List ℕ) → None ≡ parent_of s → popped_of s ≡ s
unfolding popped_of
popped_of-none s e = ap (λ o. unwrap_or o s) (sym e)

-- if the parent of s is its first `len` bytes, a pop of s keeps these bytes
pub popped_of-some : (s : List ℕ) (len : ℕ) → Some (take len s) ≡ parent_of s
    → popped_of s ≡ take len s
unfolding popped_of
popped_of-some s len e = ap (λ o. unwrap_or o s) (sym e)

-- s up to index `end`, then a dot unless the extension is empty, and then the extension; all of s
-- if `end` is None
abbrev pub with_extension_at : List ℕ → List ℕ → Option ℕ → List ℕ
with_extension_at s extension end =
    option_map_or (λ end. (take end s ++ dot_before extension) ++ extension) end s

pub dot_before-some : (b : ℕ) (extension : List ℕ) → dot_before (b ∷ extension) ≡ 46 ∷ []
dot_before-some b extension = rw (eqb-suc-zero (length extension)) refl

-- if there is no index where the stem of s ends, setting an extension leaves s unchanged
pub with_extension_of-none : (s extension : List ℕ) → None ≡ stem_end_of s
    → with_extension_of s extension ≡ s
unfolding with_extension_of
with_extension_of-none s extension e = ap (with_extension_at s extension) (sym e)

-- if the stem of s ends at index `end`, and `separator` is a dot, or nothing if the extension is
-- empty, setting the extension keeps the first `end` bytes of s and appends `separator` and the
-- extension
pub with_extension_of-some : (s extension separator : List ℕ) (end : ℕ) → Some end ≡ stem_end_of s
    → separator ≡ dot_before extension
    → with_extension_of s extension ≡ (take end s ++ separator) ++ extension
unfolding with_extension_of
with_extension_of-some s extension separator end e d = grind arith

-- mapping f over the option o yields `Some` if and only if o is `Some`
pub is_some-option_map : {A B : Type 0} (f : A → B) (o : Option A)
    → is_some (option_map f o) ≡ is_some o
is_some-option_map f None = refl
is_some-option_map f (Some x) = refl

-- there is an index where the stem of s ends if and only if s has a file name
is_some-stem_end_of : (s : List ℕ) → is_some (stem_end_of s) ≡ is_some (file_name_of (values s))
unfolding stem_end_of
is_some-stem_end_of s = grind arith

-- if there is an index `end` where the stem of s ends, s has a file name
pub file_name_of-stem : (s : List ℕ) (end : ℕ) → Some end ≡ stem_end_of s
    → is_some (file_name_of (values s)) ≡ true
file_name_of-stem s end e = sym (is_some-stem_end_of s) ∙ ap is_some (sym e)

-- if there is no index where the stem of s ends, s has no file name
pub file_name_of-no_stem : (s : List ℕ) → None ≡ stem_end_of s
    → is_some (file_name_of (values s)) ≡ false
file_name_of-no_stem s e = sym (is_some-stem_end_of s) ∙ ap is_some (sym e)

pub ruleset pop_cases = (popped_of-none, popped_of-some)

pub ruleset extension_cases = (
  with_extension_of-none,
  with_extension_of-some,
  file_name_of-stem,
  file_name_of-no_stem,
)
