use Rattle.std.proofs.Common.{ap, ◌∙◌, take}
use Rattle.upath_commands.proofs.lemmas.RecordLemmas.{first_piece_at}
use Rattle.upath_commands.proofs.records.first_record.Goals as goal

pub returns : goal.returns
returns c =
    ap (λ n. take n c.args.input.now) c.find_byte-len.ensures.value
    ∙ first_piece_at c.args.end c.args.input.now
