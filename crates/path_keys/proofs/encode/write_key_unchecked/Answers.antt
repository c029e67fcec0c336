use Rattle.std.proofs.Common.{◌≡◌, ◌+◌, length, sym, ap, ◌∙◌, arith}
use Rattle.std.proofs.lemmas.Bool.Decides.{nat_tests}
use Rattle.std.proofs.lemmas.List.{take_rest}
use Rattle.unix_path.specs.CommonDir.{inner_values}
use Rattle.path_runs.proofs.lemmas.lists.WritingLemmas.{writes_last, writes_end}
use Rattle.path_keys.proofs.lemmas.writing.LeadLemmas.{none_remain}
use Rattle.path_keys.proofs.lemmas.writing.WrittenLemmas.{written_run}
use Rattle.path_keys.proofs.encode.write_key_unchecked.Goals as goal

pub loop-rest-preserved : goal.loop-rest-preserved
loop-rest-preserved c =
    let n = c.run_len-end.result in
    let rest = c.after_filler-rest-in-loop-rest in
    record {
      not_filler = rest.ensures.not_filler;
      written = written_run n c.loop-rest.rest.now rest.result.now c.loop-rest.invariant.written
          c.run_len-end.ensures.key c.write_run-at.ensures.out
          (ap inner_values (sym (take_rest c.loop-rest.rest.now n)) ∙ rest.ensures.same)
          (ap (λ k. c.loop-rest.at + k) c.write_run-at.ensures.len);
    }

pub returns-clause-out : goal.returns-clause-out
returns-clause-out c =
    let none : length c.loop-rest.rest.now ≡ 0 = grind (arith, nat_tests) in
    writes_last c.loop-rest.invariant.written (none_remain c.loop-rest.rest.now none) c.requires

pub returns-clause-len : goal.returns-clause-len
returns-clause-len c =
    let none : length c.loop-rest.rest.now ≡ 0 = grind (arith, nat_tests) in
    writes_end c.loop-rest.invariant.written (none_remain c.loop-rest.rest.now none)
