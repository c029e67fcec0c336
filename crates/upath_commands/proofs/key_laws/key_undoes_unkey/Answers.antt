use Rattle.std.proofs.Common.{ap, ◌∙◌}
use Rattle.upath_commands.specs.Hex.{hex_of}
use Rattle.upath_commands.proofs.lemmas.HexLemmas.{hex_of-hex_value}
use Rattle.upath_commands.proofs.lemmas.KeyTextLemmas.{key_path-is, key_path-spelled}
use Rattle.upath_commands.proofs.lemmas.KeyTextLemmas.{unkeyed_path-key}
use Rattle.upath_commands.proofs.key_laws.key_undoes_unkey.Goals as goal

pub returns-clause-canonical : goal.returns-clause-canonical
returns-clause-canonical c = λ text p e.
    let (key, value, path) = unkeyed_path-key text p e in key_path-spelled key p path

pub returns-clause-text : goal.returns-clause-text
returns-clause-text c = λ text p e.
    let (key, value, path) = unkeyed_path-key text p e in
    ap hex_of (key_path-is key p path) ∙ hex_of-hex_value text key value
