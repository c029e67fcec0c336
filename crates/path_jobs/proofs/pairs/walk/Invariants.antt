use Rattle.path_jobs.proofs.pairs.walk.Given as goal

-- `next` of the walk may be called, and the walk has an end
abbrev pub invariant-loop : goal.invariant-loop
invariant-loop l =
    (goal.iterator-loop).can_next l.walk × (goal.iterator-loop).is_finite l.walk
