use Rattle.std.proofs.Common.{Some, ap, ◌∙◌, arith}
use Rattle.std.proofs.lemmas.List.{take-take}
use Rattle.unix_path.proofs.lemmas.callers.CallerLemmas.{name_end_of-take, stem_end_of-nameless}
use Rattle.unix_path.proofs.lemmas.callers.CallerLemmas.{stem_end_of-take}
use Rattle.path_runs.proofs.edits.cache.ScanCache.stem_end.Goals as goal

pub returns-in_default-clause-value : goal.returns-in_default-clause-value
returns-in_default-clause-value c = grind (arith, stem_end_of-nameless)

pub stem_end-stem-requires-clause-name : goal.stem_end-stem-requires-clause-name
stem_end-stem-requires-clause-name c = grind (arith, name_end_of-take)

pub stem_end-stem-requires-clause-stem : goal.stem_end-stem-requires-clause-stem
stem_end-stem-requires-clause-stem c = grind (arith, take-take)

pub returns-then-ends_in_long_name-clause-cache : goal.returns-then-ends_in_long_name-clause-cache
returns-then-ends_in_long_name-clause-cache c = record {
  end = c.in-Some.ensures.cache.end;
  stack = c.add.ensures.stack;
  stems = c.add.ensures.cache c.args.path.now c.in-Some.ensures.cache.stems (record {
    in_range = c.in-Some.ensures.in_range;
    ends = λ _. c.stem_end-stem.ensures.value ∙ ap Some c.if-stem-end.true;
  });
}

pub returns-then-ends_in_long_name-clause-value : goal.returns-then-ends_in_long_name-clause-value
returns-then-ends_in_long_name-clause-value c = grind (arith, stem_end_of-take)

pub returns-else-stem-end-clause-value : goal.returns-else-stem-end-clause-value
returns-else-stem-end-clause-value c = grind (arith, stem_end_of-take)
