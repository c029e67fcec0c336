-- Laws of edits (Rust's `PathBuf::push`, `PathBuf::pop`, `PathBuf::set_file_name`,
-- `PathBuf::set_extension`).
use Rattle.std.specs.Prelude.{◌≡◌, ◌≢◌, ℕ, true, List, [], ◌∷◌, Some, None, All}
use Rattle.std.specs.List.{AllZip, last_or}
use Rattle.unix_path.specs.Parts.{Normal, dot, slash, values, SameValues}
use Rattle.unix_path.specs.Parents.{parent_of}
use Rattle.unix_path.specs.Names.{file_name_of, stem_of, extension_of}
use Rattle.path_runs.specs.declared.edits.Answer.TheVariants.{Plain, Flag}
use Rattle.path_runs.specs.EditLists.{EditValue, Push, Pop, SetFileName, SetExtension}
use Rattle.path_runs.specs.EditLists.{edit_of, edits_of}

-- the two edits are the same, or they push equal paths
abbrev pub SameEdit : EditValue → EditValue → Type 0
SameEdit (Push b) (Push c) = SameValues b c
SameEdit d e = d ≡ e

-- if s and t are equal paths, and the lists ds and es have the same edits one by one (`SameEdit`),
-- applying ds to s returns the same answers as applying es to t
abbrev pub EqualPathsSameAnswers : Type 0
EqualPathsSameAnswers =
    (s t : List ℕ) (ds es : List EditValue) → SameValues s t → AllZip SameEdit ds es
    → (edits_of s ds).1 ≡ (edits_of t es).1

-- if s and t are equal paths, and the lists ds and es have the same edits one by one (`SameEdit`),
-- applying ds to s and applying es to t leaves equal paths
abbrev pub EqualPathsStayEqual : Type 0
EqualPathsStayEqual =
    (s t : List ℕ) (ds es : List EditValue) → SameValues s t → AllZip SameEdit ds es
    → SameValues (edits_of s ds).0 (edits_of t es).0

-- the only component of n is the name `name`
abbrev pub IsOneName : List ℕ → List ℕ → Type 0
IsOneName n name = values n ≡ Normal name ∷ []

-- if n is one name, a push of n to s has the answer `Plain`, and a pop after it the answer true
abbrev pub PopAnswersTrue : Type 0
PopAnswersTrue =
    (s n name : List ℕ) → IsOneName n name
    → (edits_of s (Push n ∷ Pop ∷ [])).1 ≡ Plain ∷ Flag true ∷ []

-- if n is one name, a push of n to s and then a pop leave a path equal to s
abbrev pub PopUndoesPush : Type 0
PopUndoesPush =
    (s n name : List ℕ) → IsOneName n name → SameValues (edits_of s (Push n ∷ Pop ∷ [])).0 s

-- if s has a file name, and n is one name, setting n as the file name of s leaves the bytes of the
-- parent of s unchanged
abbrev pub NewNameKeepsParent : Type 0
NewNameKeepsParent =
    (s old n name : List ℕ) → file_name_of (values s) ≡ Some old → IsOneName n name
    → parent_of (edit_of s (SetFileName n)).0 ≡ parent_of s

-- if s has a file name, and n is the one name `name`, then `name` is the last component after n is
-- set as the file name of s
abbrev pub NewNameIsLast : Type 0
NewNameIsLast =
    (s old n name : List ℕ) → file_name_of (values s) ≡ Some old → IsOneName n name
    → last_or None (values (edit_of s (SetFileName n)).0) ≡ Some (Normal name)

-- no byte of s is b
abbrev pub HasNoByte : ℕ → List ℕ → Type 0
HasNoByte b s = All (λ c. c ≢ b) s

-- the extension x is not empty, and has neither a dot nor a slash
pub record IsSimpleExtension (x : List ℕ) : Type 0 where
  pub some : x ≢ []
  pub no_dot : HasNoByte dot x
  pub no_slash : HasNoByte slash x

-- x is simple, and setting it as the extension turns s into t, with the answer true
abbrev pub SetsExtension : List ℕ → List ℕ → List ℕ → Type 0
SetsExtension s x t = IsSimpleExtension x × (edit_of s (SetExtension x) ≡ (t, Flag true))

-- if x is simple, and setting it as the extension turns s into t, with the answer true, then t has
-- the stem of s
abbrev pub NewExtensionKeepsStem : Type 0
NewExtensionKeepsStem =
    (s x t : List ℕ) → SetsExtension s x t → stem_of (values t) ≡ stem_of (values s)

-- if x is simple, and setting it as the extension turns s into t, with the answer true, then x is
-- the extension of t
abbrev pub NewExtensionIsSet : Type 0
NewExtensionIsSet = (s x t : List ℕ) → SetsExtension s x t → extension_of (values t) ≡ Some x

-- if x is simple, and setting it as the extension turns s into t, with the answer true, then the
-- parents of s and t have the same bytes
abbrev pub NewExtensionKeepsParent : Type 0
NewExtensionKeepsParent = (s x t : List ℕ) → SetsExtension s x t → parent_of t ≡ parent_of s
