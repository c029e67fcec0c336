use Rattle.std.proofs.Common.{◌<◌, true≢false, length, sym, ◌∙◌, arith, subst}
use Rattle.unix_path_c.specs.Walks.{remaining}
use Rattle.unix_path_c.proofs.lemmas.walks.StepLemmas.{takes_first_part, first_fits, has_remaining}
use Rattle.unix_path_c.proofs.lemmas.walks.StepLemmas.{StartsWithPart}
use Rattle.unix_path_c.proofs.walks.unix_path_next.Goals as goal
use Rattle.unix_path_c.proofs.walks.unix_path_next.Goals.{In-Some}

-- the rest of the walk has a byte
non_empty : (c : In-Some) → 0 < length (remaining c.args.path.now c.args.walk.now)
non_empty c = has_remaining c.rest_of.ensures (sym c.is_empty.ensures ∙ c.if-is_empty.false)

-- the rest begins with a component of this length and kind
starts_with_part : (c : In-Some)
    → StartsWithPart (remaining c.args.path.now c.args.walk.now)
    c.in-Some.length c.in-Some.step c.in-Some.kind
starts_with_part c =
    subst (λ s. StartsWithPart s c.in-Some.length c.in-Some.step c.in-Some.kind)
    c.rest_of.ensures (record {
      ends = c.in-Some.ensures.ends;
      in_range = c.in-Some.ensures.in_range;
      parts_are = c.in-Some.ensures.parts;
      size_is = c.in-Some.ensures.size;
      kind_is = c.in-Some.ensures.kind;
      not_filler = c.in-Some.ensures.not_filler;
    })

pub overflow_add-walk : goal.overflow_add-walk
overflow_add-walk c =
    let d = (goal.at.overflow_add-walk c).In-Some in
    omega (arith, first_fits c.args.path.now c.args.walk.now (non_empty d) (starts_with_part d))

pub returns : goal.returns
returns c =
    let d = (goal.at.returns c).In-Some in
    let t = takes_first_part c.args.path.now c.args.walk.now (non_empty d) (starts_with_part d) in
    record {
      ended = (λ no. absurd (true≢false no), λ nothing. absurd (t.non_empty nothing));
      walk_unchanged = λ no. absurd (true≢false no);
      part_unchanged = λ no. absurd (true≢false no);
      parts = λ _. t.parts_are;
      values = λ _. t.values_are;
      bytes = λ _. t.bytes;
      kind = λ _. t.kind;
      remaining_bytes = λ _. t.remaining_is;
      in_order = λ _. t.in_order;
    }
