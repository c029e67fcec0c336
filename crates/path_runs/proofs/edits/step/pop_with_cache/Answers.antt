use Rattle.std.proofs.Common.{◌≡◌, length, sym, ap, ◌∙◌, arith}
use Rattle.unix_path.specs.Buffers.{path_bytes}
use Rattle.unix_path.specs.Edits.{popped_of}
use Rattle.unix_path.proofs.lemmas.edits.EditLemmas.{popped_of-none}
use Rattle.path_runs.proofs.lemmas.edits.EditStepLemmas.{keeps-pop}
use Rattle.path_runs.proofs.edits.step.pop_with_cache.Goals as goal

pub returns-then-is_root_with_filler-clause-bytes :
    goal.returns-then-is_root_with_filler-clause-bytes
returns-then-is_root_with_filler-clause-bytes c = grind (arith, popped_of-none)

pub returns-clause-cache : goal.returns-clause-cache
returns-clause-cache c =
    let v = c.bytes_of.result.now in
    let t = path_bytes c.pop-is_popped.new.self in
    let made : t ≡ popped_of v =
    c.pop-is_popped.ensures.bytes ∙ ap popped_of (sym c.bytes_of.ensures) in
    let kept = keeps-pop v t (length c.bytes_of-2.result.now) made
    (ap length c.bytes_of-2.ensures) in
    c.truncate.ensures v t c.is_root_with_filler.ensures.cache kept.in_range kept.same
