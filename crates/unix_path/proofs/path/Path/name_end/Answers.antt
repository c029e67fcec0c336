use Rattle.std.proofs.Common.{length, sym, ap, ◌∙◌, arith, take_all}
use Rattle.std.proofs.lemmas.Bool.{true≢false}
use Rattle.unix_path.specs.Parts.{parts}
use Rattle.unix_path.proofs.lemmas.names.NamedLemmas.{name_end_of-ended, name_end_of-unnamed}
use Rattle.unix_path.proofs.lemmas.filler.TrimLemmas.{EndsInPart-take}
use Rattle.unix_path.proofs.path.Path.name_end.Goals as goal

pub returns-then-not-ends_in_name-clause-value : goal.returns-then-not-ends_in_name-clause-value
returns-then-not-ends_in_name-clause-value c =
    let s = c.args.self.now.bytes.now in
    let end = c.trimmed_len-end in
    name_end_of-unnamed s end.result
    (end.ensures.same ∙ ap parts (take_all (length s) s (omega arith)))
    (EndsInPart-take s end.result end.ensures.in_range end.ensures.ends)
    (λ is. true≢false (sym (c.ends_in_name.ensures.1 is) ∙ c.if-not-ends_in_name.true))

pub returns-clause-value : goal.returns-clause-value
returns-clause-value c =
    let s = c.args.self.now.bytes.now in
    let end = c.trimmed_len-end in
    name_end_of-ended s end.result end.ensures.in_range
    (end.ensures.same ∙ ap parts (take_all (length s) s (omega arith)))
    (c.ends_in_name.ensures.0 c.if-not-ends_in_name.false)
