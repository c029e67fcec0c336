-- The components that a `Names` and a `Layout` represent. No public clause cites these definitions.
use Rattle.std.specs.Prelude.{List, ◌∷◌, ◌++◌, replicate, if◌then◌else◌}
use Rattle.unix_path.specs.Parts.{Value, RootDir, ParentDir, values}
use Rattle.path_within.specs.Backward.{last_names}
use Rattle.path_within.specs.declared.write.Layout.{Layout}
use Rattle.path_within.specs.declared.write.Names.{Names}

-- the names that a `Names` represents
abbrev pub names_in : Names → List Value
names_in n = last_names n.count (values n.path.bytes.now)

-- all names of a layout
abbrev pub layout_names : Layout → List Value
layout_names l = names_in l.names ++ names_in l.more

-- the components of a layout: the root if it has one, and otherwise its `..`, and then its names
abbrev pub layout_values : Layout → List Value
layout_values l =
    if l.has_root then RootDir ∷ layout_names l
    else replicate l.parent_dirs ParentDir ++ layout_names l
