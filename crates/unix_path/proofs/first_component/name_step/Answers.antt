use Rattle.std.proofs.Common.{◌∷◌, take, drop, ap, ◌∙◌, sym}
use Rattle.std.specs.List.{position_or_len}
use Rattle.std.proofs.lemmas.List.{take_rest}
use Rattle.unix_path.specs.Parts.{inner_parts, is_slash, Normal}
use Rattle.unix_path.proofs.lemmas.steps.LeadLemmas.{not_filler_no_slash, first_value-name}
use Rattle.unix_path.proofs.lemmas.steps.LeadLemmas.{is_first}
use Rattle.unix_path.proofs.lemmas.parts.PartLemmas.{parts-name}
use Rattle.unix_path.proofs.first_component.name_step.Goals as goal

pub returns-clause-parts : goal.returns-clause-parts
returns-clause-parts c =
    let path = c.args.bytes.now in
    let end = c.find_byte-end in
    let filler = simp take_rest at c.filler_len.ensures in
    let n = position_or_len is_slash path in
    let name = first_value-name path c.requires.some c.requires.not_filler c.requires.no_parent in
    (is_first path end.result c.filler_len.result (Normal (take end.result path))
    end.ensures.in_range
    (parts-name path c.requires.some (not_filler_no_slash path c.requires.not_filler)
    ∙ ap (λ v. record { start = 0; end = n; value = v } ∷ inner_parts n (drop n path)) name
    ∙ ap (λ n. record { start = 0; end = n; value = Normal (take n path) }
    ∷ inner_parts n (drop n path)) (sym end.ensures.value))
    filler.in_range (filler.filler end.result) filler.not_filler).parts_are
