use Rattle.std.proofs.Common.{◌+◌, ◌*◌, ap₂, arith, rules}
use Rattle.upath_commands.specs.Hex.{byte_of}
use Rattle.upath_commands.proofs.lemmas.HexLemmas.{read_all, read_first, read_more}
use Rattle.upath_commands.proofs.hex.hex_value.Goals as goal

pub loop-rest-init : goal.loop-rest-init
loop-rest-init c = read_first c.args.text.now c.new-bytes.result.items c.new-bytes.ensures.items

pub loop-rest-preserved : goal.loop-rest-preserved
loop-rest-preserved c =
    let byte = c.in-Some-Some in
    read_more c.args.text.now c.loop-rest.bytes.items c.loop-rest.rest.now _
    (16 * byte.high + byte.low) c.loop-rest.invariant (omega arith)
    (ap₂ byte_of byte.ensures byte.ensures') (search rules)

pub returns-in-empty : goal.returns-in-empty
returns-in-empty c =
    read_all c.args.text.now c.loop-rest.bytes.items c.loop-rest.rest.now c.loop-rest.invariant
    (omega arith)
