-- The bytes of a result in a buffer. No public clause cites this definition.
use Rattle.std.specs.Prelude.{ℕ, List, ◌++◌}
use Rattle.std.specs.Option.{option_to_list}
use Rattle.unix_path_c.specs.declared.joins.Layout.{Layout}

-- a layout's bytes: the beginning, then the separator if there is one, then the end
abbrev pub layout_bytes : Layout → List ℕ
layout_bytes layout = (layout.beginning.now ++ option_to_list layout.separator) ++ layout.end.now
