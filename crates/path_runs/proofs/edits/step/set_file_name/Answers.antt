use Rattle.std.proofs.Common.{◌≡◌, length, sym, ap, ◌∙◌, arith}
use Rattle.unix_path.specs.Buffers.{path_bytes}
use Rattle.unix_path.specs.Edits.{with_name_of}
use Rattle.path_runs.proofs.lemmas.edits.EditStepLemmas.{keeps-name}
use Rattle.path_runs.proofs.edits.step.set_file_name.Goals as goal

pub returns-then-not-is_empty-clause-cache : goal.returns-then-not-is_empty-clause-cache
returns-then-not-is_empty-clause-cache c =
    let v = c.bytes_of.result.now in
    let name = c.args.name.bytes.now in
    let t = path_bytes c.set_file_name.new.self in
    let n = c.saturating_sub.result in
    let made : t ≡ with_name_of v name = c.in_ok-set_file_name.ensures.ok
    ∙ ap (λ s. with_name_of s name) (sym c.bytes_of.ensures) in
    let kept = keeps-name v t name n made
    (omega (arith, c.saturating_sub.ensures, ap length c.bytes_of-len.ensures, c.len.ensures)) in
    c.truncate.ensures v t c.is_nameless_with_filler.ensures.cache kept.in_range kept.same
