-- The type `Component`, and components as values.
use Rattle.std.proofs.Common.{◌≡◌, List, ℕ, [], ◌∷◌, ◌++◌, Some, None, refl, sym, ap, ◌∙◌}
use Rattle.unix_bytes.specs.declared.bytes.UnixStr.{UnixStr}
use Rattle.unix_path.specs.Views.{value_of}
use Rattle.unix_path.specs.Parts.{values}
use Rattle.unix_path.specs.Parts as parts
use Rattle.unix_path.specs.Names.{name_of, file_name_of}
use Rattle.unix_path.proofs.lemmas.names.ParentLemmas.{file_name_of-push}
use Rattle.unix_path.specs.declared.cursor.component.Component.{Component}
use Rattle.unix_path.specs.declared.cursor.component.Component.TheVariants.{RootDir}
use Rattle.unix_path.specs.declared.cursor.component.Component.TheVariants.{Normal}
use Rattle.unix_path.proofs.lemmas.names.ParentLemmas.{file_name_of-none}
use Rattle.unix_path.proofs.lemmas.names.ParentLemmas.{parent_of-none}
use Rattle.unix_path.proofs.lemmas.names.ParentLemmas.{parent_of-root}
use Rattle.unix_path.proofs.lemmas.names.ParentLemmas.{parent_of-push}

-- a `Component` that is not `Normal` has no name
name_of-other : (x : Component) → ((name : UnixStr) → x ≡ Normal name → ⊥)
    → None ≡ name_of (value_of x)
name_of-other (Normal name) h = absurd (h name refl)
name_of-other x h = refl

-- if a `Component` isn't `RootDir`, its value isn't the root
pub value_of-other : (x : Component) → (x ≡ RootDir → ⊥) → value_of x ≡ parts.RootDir → ⊥
value_of-other RootDir h e = h refl
value_of-other x h e = cc

-- if the last component of s is `Normal`, its name is the file name of s
pub file_name_of-normal : {x : Component} {name : UnixStr} (s w : List ℕ)
    → values s ≡ values w ++ value_of x ∷ [] → x ≡ Normal name
    → Some name.bytes.now ≡ file_name_of (values s)
file_name_of-normal {x} s w last is =
    ap (λ x. name_of (value_of x)) (sym is) ∙ file_name_of-push s w (value_of x) last

-- if the last component of s is not `Normal`, s has no file name
pub file_name_of-other : (s w : List ℕ) (x : Component)
    → values s ≡ values w ++ value_of x ∷ [] → ((name : UnixStr) → x ≡ Normal name → ⊥)
    → None ≡ file_name_of (values s)
file_name_of-other s w x last differs =
    name_of-other x differs ∙ file_name_of-push s w (value_of x) last

-- the file name of a string, found from its last component
pub ruleset file_names = (file_name_of-none, file_name_of-normal, file_name_of-other)

-- the parent of a string, found from its last component
pub ruleset parents = (parent_of-none, parent_of-root, parent_of-push, value_of-other)
