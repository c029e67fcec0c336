use Rattle.std.proofs.Common.{◌≤◌, List, ℕ, get_or, sym, subst, arith}
use Rattle.path_runs.specs.ScanCache.{CachesStem}
use Rattle.path_runs.proofs.lemmas.edits.ScanCacheLemmas.{CachesStem-unchanged}
use Rattle.path_runs.proofs.edits.stems.Stems.truncate.Goals as goal
use Rattle.std.proofs.lemmas.Grind.{common_steps}

pub returns-clause-cache : goal.returns-clause-cache
returns-clause-cache c = λ s t h l e i few.
    let offsets = c.args.self.now.offsets in
    let last = c.loop-self.self.last in
    let now = c.loop-self.invariant in
    let less = now.fewer in
    let last_few : get_or offsets last 0 ≤ c.args.unchanged = grind (arith, common_steps) in
    subst (λ (xs : List ℕ). CachesStem t (get_or xs i 0)) (sym now.same)
    (CachesStem-unchanged s t c.args.unchanged (get_or offsets i 0) (h i (omega arith)) l e (omega (
      arith,
      c.requires.ascending i last few less,
      last_few,
    )))
