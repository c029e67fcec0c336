use Rattle.std.proofs.Common.{true≢false, refl, arith}
use Rattle.unix_path_c.proofs.lemmas.walks.TakeFirstLemmas.{front_step_fits, next_gives}
use Rattle.unix_path_c.proofs.lemmas.walks.TakeFirstLemmas.{nothing_first, rest-same}
use Rattle.unix_path_c.proofs.walks.take_first.Goals as goal

pub returns-in_default-clause-ended : goal.returns-in_default-clause-ended
returns-in_default-clause-ended c = (
  λ _. nothing_first _ _ _
      (rest-same c.components-parts.ensures.rest c.rest_of.ensures)
      c.in_default.ensures.steps,
  λ _. refl,
)

pub overflow_add-back : goal.overflow_add-back
overflow_add-back c =
    let h = front_step_fits c.args.path.now c.args.walk.now _ _ _ _ _
    (rest-same c.components-parts.ensures.rest c.rest_of.ensures)
    c.in-Some.ensures.steps c.as_path.ensures.bytes refl in
    omega (arith, h.in_range)

pub overflow_sub-walk : goal.overflow_sub-walk
overflow_sub-walk c =
    let h = front_step_fits c.args.path.now c.args.walk.now _ _ _ _ _
    (rest-same c.components-parts.ensures.rest c.rest_of.ensures)
    c.in-Some.ensures.steps c.as_path.ensures.bytes c.as_path-2.ensures.bytes in
    omega (arith, h.fewer)

pub returns : goal.returns
returns c =
    let t = next_gives c.args.path.now c.args.walk.now _ _ _ _ _ _ _
    (rest-same c.components-parts.ensures.rest c.rest_of.ensures)
    c.in-Some.ensures.steps c.as_path.ensures.bytes c.as_path-2.ensures.bytes
    c.as_unix_str.ensures c.kind_of.ensures.value c.kind_of.ensures.in_range in
    record {
      ended = (λ no. absurd (true≢false no), λ nothing. absurd (t.non_empty nothing));
      walk_unchanged = λ no. absurd (true≢false no);
      part_unchanged = λ no. absurd (true≢false no);
      parts = λ _. t.parts_are;
      values = λ _. t.values_are;
      bytes = λ _. t.bytes;
      kind = λ _. t.kind;
      remaining_bytes = λ _. t.remaining_is;
      in_order = λ _. t.in_order;
    }
