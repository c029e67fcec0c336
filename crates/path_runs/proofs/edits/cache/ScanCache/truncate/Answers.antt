use Rattle.std.proofs.Common.{rules}
use Rattle.path_runs.proofs.lemmas.edits.ScanCacheLemmas.{CachesEnd-unchanged}
use Rattle.path_runs.proofs.edits.cache.ScanCache.truncate.Goals as goal

pub returns-else-unchanged-self : goal.returns-else-unchanged-self
returns-else-unchanged-self c = λ s t h l e. record {
  end = search (rules, CachesEnd-unchanged);
  stack = c.truncate.ensures.stack;
  stems = c.truncate.ensures.cache s t h.stems l e;
}
