use Rattle.std.proofs.Common.{◌≡◌, ◌<◌, ◌∙◌, ap, arith, length, drop, None, rules}
use Rattle.std.proofs.lemmas.List.{length-drop}
use Rattle.path_archive.specs.Records.{entries_of}
use Rattle.path_archive.proofs.lemmas.records.FieldLemmas.{cut_off}
use Rattle.path_archive.proofs.records.record_at.Goals as goal

pub returns-in_err-kind_end-clause-none : goal.returns-in_err-kind_end-clause-none
returns-in_err-kind_end-clause-none c = λ is.
    let none : c.field_end.result ≡ None = search rules in
    let size = length-drop c.args.at c.args.records.now in
    let some : 0 < length (drop c.args.at c.args.records.now) = omega arith in
    ap entries_of (c.field_end.ensures.none none) ∙ cut_off (drop c.args.at c.args.records.now) some
