use Rattle.std.proofs.Common.{◌<◌, true≢false, length, sym, ap, ◌∙◌, arith, subst}
use Rattle.unix_path_c.proofs.lemmas.walks.NameLemmas.{EndsInName}
use Rattle.unix_path_c.specs.Walks.{remaining}
use Rattle.unix_path_c.proofs.lemmas.walks.StepLemmas.{takes_last_name, last_fits, has_remaining}
use Rattle.unix_path_c.proofs.walks.unix_path_next_back.Goals as goal
use Rattle.unix_path_c.proofs.walks.unix_path_next_back.Goals.{In-Some}

-- the rest of the walk has a byte
non_empty : (c : In-Some) → 0 < length (remaining c.args.path.now c.args.walk.now)
non_empty c = has_remaining c.rest_of.ensures (sym c.is_empty.ensures ∙ c.if-is_empty.false)

-- the rest ends in a name, which starts at `start`
ends_in_name : (c : In-Some)
    → EndsInName (remaining c.args.path.now c.args.walk.now) c.in-Some.before c.in-Some.start
ends_in_name c =
    subst (λ s. EndsInName s c.in-Some.before c.in-Some.start) c.rest_of.ensures (record {
      ends = c.in-Some.ensures.ends;
      in_range = c.in-Some.ensures.in_range;
      in_order = c.in-Some.ensures.in_order;
      values_are = c.in-Some.ensures.values;
      rest_is = c.in-Some.ensures.rest;
    })

pub overflow_add-part : goal.overflow_add-part
overflow_add-part c =
    let d = (goal.at.overflow_add-part c).In-Some in
    omega (arith, last_fits c.args.path.now c.args.walk.now (non_empty d) (ends_in_name d))

pub overflow_add-walk : goal.overflow_add-walk
overflow_add-walk c =
    let d = (goal.at.overflow_add-walk c).In-Some in
    let name = ends_in_name d in
    omega (arith, last_fits c.args.path.now c.args.walk.now (non_empty d) name, name.in_order)

pub returns : goal.returns
returns c =
    let d = (goal.at.returns c).In-Some in
    let t = takes_last_name c.args.path.now c.args.walk.now (non_empty d) (ends_in_name d)
    (ap length c.rest_of.ensures) in
    record {
      ended = (λ no. absurd (true≢false no), λ nothing. absurd (t.non_empty nothing));
      walk_unchanged = λ no. absurd (true≢false no);
      part_unchanged = λ no. absurd (true≢false no);
      parts = λ _. t.parts_are;
      values = λ _. t.values_are;
      bytes = λ _. t.bytes;
      kind = λ _. t.kind;
      remaining_bytes = λ _. t.remaining_is;
      in_order = λ _. t.in_order;
    }
