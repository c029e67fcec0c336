use Rattle.std.proofs.Common.{◌-◌, get_or, sym, ap, ◌∙◌, arith}
use Rattle.std.proofs.lemmas.List.{take_rest}
use Rattle.unix_path.proofs.lemmas.steps.StepLemmas.{takes_root}
use Rattle.unix_path.proofs.cursor.steps.split_last_root_or_name.Goals as goal
use Rattle.unix_path.proofs.lemmas.steps.LastLemmas.{IsLastStart}
use Rattle.unix_path.proofs.lemmas.steps.LastPieceLemmas.{takes_last_name}

pub returns-then-start-path : goal.returns-then-start-path
returns-then-start-path c =
    let path = c.args.path.now in
    let takes = takes_root path c.requires.some c.requires.ends
    (ap (λ k. get_or path (k - 1) 0) (sym c.if-start-path.true)
    ∙ c.after_last-start.ensures.after (omega arith)) in
    record {
      in_range = omega arith;
      value = takes.value;
      rest = takes.rest;
      rest_ends = takes.ends;
    }

pub returns : goal.returns
returns c =
    let path = c.args.path.now in
    let end = c.trimmed_len in
    let start = c.after_last-start in
    let l = start.ensures.in_range in
    let last : IsLastStart path start.result = record {
      in_range = l;
      after_slash = start.ensures.after;
      no_slash = start.ensures.none_after;
    } in
    let takes = takes_last_name path start.result end.result last (omega arith)
    c.requires.ends c.requires.no_dot c.requires.no_parent end.ensures.in_range end.ensures.same
    end.ensures.ends in
    record {
      in_range = omega (arith, end.ensures.in_range);
      value = simp take_rest takes.value;
      rest = takes.rest;
      rest_ends = takes.ends;
    }
