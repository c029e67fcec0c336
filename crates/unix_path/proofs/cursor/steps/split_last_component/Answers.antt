use Rattle.std.specs.Str.{bytes_eq}
use Rattle.std.proofs.Common.{◌-◌, refl, length, take, sym, ap, ◌∙◌, subst, arith}
use Rattle.unix_path.specs.Parts.{Value}
use Rattle.unix_path.proofs.lemmas.steps.StepLemmas.{TakesLast}
use Rattle.unix_path.proofs.lemmas.steps.LastPieceLemmas.{length-with_parent, starts_dot}
use Rattle.unix_path.proofs.lemmas.steps.LastPieceLemmas.{starts_parent}
use Rattle.unix_path.proofs.lemmas.steps.StepLemmas.{takes_last}
use Rattle.unix_path.proofs.cursor.steps.split_last_component.Goals as goal

pub returns-then-eq : goal.returns-then-eq
returns-then-eq c =
    let path = c.args.path.now in
    let last = starts_dot path (ap (bytes_eq path) (sym c.as_slice.ensures)
    ∙ sym c.eq.ensures ∙ c.if-eq.true) in
    let takes = subst (λ (v : Value). TakesLast path (take 0 path) v) last.1
    (takes_last path 0 0 last.0 c.requires.some c.requires.ends (omega arith) refl
    (λ l. absurd (omega arith))) in
    record {
      in_range = omega arith;
      value = takes.value;
      rest = takes.rest;
      rest_ends = takes.ends;
    }

pub returns-then-ends_with_parent_dir : goal.returns-then-ends_with_parent_dir
returns-then-ends_with_parent_dir c =
    let path = c.args.path.now in
    let end = c.trimmed_len in
    let is = sym c.ends_with_parent_dir.ensures ∙ c.if-ends_with_parent_dir.true in
    let last = starts_parent path is in
    let takes = subst (λ (v : Value). TakesLast path (take end.result path) v) last.1
    (takes_last path (length path - 2) end.result last.0
    (omega (arith, length-with_parent path is)) c.requires.ends end.ensures.in_range
    end.ensures.same end.ensures.ends) in
    record {
      in_range = omega (arith, end.ensures.in_range);
      value = takes.value;
      rest = takes.rest;
      rest_ends = takes.ends;
    }
