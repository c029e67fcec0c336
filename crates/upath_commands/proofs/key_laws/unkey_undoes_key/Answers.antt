use Rattle.std.proofs.Common.{ap, ◌∙◌}
use Rattle.std.specs.Option.{option_and_then}
use Rattle.unix_path.specs.Parts.{values}
use Rattle.path_keys.specs.Keys.{key_of}
use Rattle.upath_commands.specs.KeyTexts.{key_path}
use Rattle.upath_commands.proofs.lemmas.KeyLawLemmas.{hex_value-hex_of, key-AreBytes}
use Rattle.upath_commands.proofs.lemmas.KeyTextLemmas.{key_path-key_of}
use Rattle.upath_commands.proofs.key_laws.unkey_undoes_key.Goals as goal

pub returns : goal.returns
returns c = λ s bytes.
    ap (option_and_then key_path) (hex_value-hex_of (key_of (values s)) (key-AreBytes s bytes))
    ∙ key_path-key_of s
