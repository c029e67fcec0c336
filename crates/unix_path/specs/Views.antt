-- The values of components.
use Rattle.unix_path.specs.Parts.{Value}
use Rattle.unix_path.specs.Parts as parts
use Rattle.unix_path.specs.declared.cursor.component.Component.{Component}
use Rattle.unix_path.specs.declared.cursor.component.Component.TheVariants.{RootDir, CurDir}
use Rattle.unix_path.specs.declared.cursor.component.Component.TheVariants.{ParentDir, Normal}

-- the value of a component
abbrev pub value_of : Component → Value
value_of RootDir = parts.RootDir
value_of CurDir = parts.CurDir
value_of ParentDir = parts.ParentDir
value_of (Normal name) = parts.Normal name.bytes.now
