use Rattle.std.proofs.Common.{length, ap, sym, arith}
use Rattle.unix_path.proofs.lemmas.names.AncestorLemmas.{begins_at, remaining_ancestors-step}
use Rattle.unix_path.proofs.cursor.parents.AncestorsIterator.next.Goals as goal

pub returns-clause-steps : goal.returns-clause-steps
returns-clause-steps c = record {
  item_is = remaining_ancestors-step c.args.self.now.next c.in-Some.path
      c.parent-self.result c.in-Some.is c.parent-self.ensures.value;
  slice_is = sym c.in-Some.is;
  place_is = begins_at c.parent-self.result c.in-Some.path c.parent-self.ensures.place
      c.parent-self.ensures.start;
}

pub returns-clause-goes : goal.returns-clause-goes
returns-clause-goes c =
    let step = remaining_ancestors-step c.args.self.now.next c.in-Some.path c.parent-self.result
    c.in-Some.is c.parent-self.ensures.value in
    record { on = λ _. (tt, tt, omega (arith, ap length step)); keeps = tt; rests = λ _. tt }
