use Rattle.std.proofs.Common.{◌≡◌, ◌∷◌, ◌∙◌, ap, rules, sym}
use Rattle.unix_path.specs.Buffers.{path_bytes}
use Rattle.unix_path.specs.Parts.{values}
use Rattle.unix_path.specs.Prefixes.{stripped_of}
use Rattle.path_runs.specs.TableLaws.{rows_of}
use Rattle.path_table.specs.Table.{entries_under, rests_under}
use Rattle.path_table.proofs.StripLemmas.{values-stripped_of}
use Rattle.path_table.proofs.NextLemmas.{next_ordered, next_not_before, none_remaining, one_fewer}
use Rattle.path_table.proofs.RestsLemmas.{first_rest, no_rests}
use Rattle.path_table.proofs.UnderLemmas.{first_under}
use Rattle.path_table.proofs.table.under.UnderIterator.next.Goals as goal

pub invariant_of-self : goal.invariant_of-self
invariant_of-self g c =
    let walk = c.args.self.now in
    record {
      ordered = next_ordered walk.inner c.next.new.self c.next.result c.next.ensures.steps
          walk.ordered;
      none_before = next_not_before walk.inner c.next.new.self (values walk.base.bytes.now)
          c.next.result c.next.ensures.steps walk.none_before;
    }

pub returns-in-Ok : goal.returns-in-Ok
returns-in-Ok g c =
    let base = c.args.self.now.base.bytes.now in
    let path = path_bytes c.in_ok-path.path.now in
    let value = c.in_ok-path.value.now in
    let new = entries_under (values base) (rows_of path_bytes c.next.new.self) in
    let stripped : c.in-Ok.rest.bytes.now ≡ stripped_of path base = search rules in
    let step : entries_under (values base) (rows_of path_bytes c.args.self.now.inner)
    ≡ (values c.in-Ok.rest.bytes.now, value) ∷ new =
    ap (λ es. entries_under (values base) (rows_of path_bytes es)) c.in_ok-path.ensures.steps
    ∙ first_under (values base) (values path, value) (rows_of path_bytes c.next.new.self)
    (search rules)
    ∙ ap (λ v. (v, value) ∷ new)
    (sym (ap values stripped ∙ values-stripped_of c.rest_reads_again.ensures.values path base)) in
    let rests : rests_under base c.args.self.now.inner
    ≡ (c.in-Ok.rest.bytes.now, value) ∷ rests_under base c.next.new.self =
    ap (rests_under base) c.in_ok-path.ensures.steps
    ∙ first_rest base (c.in_ok-path.path.now, value) c.next.new.self (search rules)
    ∙ ap (λ s. (s, value) ∷ rests_under base c.next.new.self) (sym stripped) in
    record {
      steps = record { row_is = step; rest_is = rests };
      goes = record {
        on = λ f. (tt, tt, one_fewer _ _ new step);
        keeps = tt;
        rests = λ f. tt;
      };
    }

pub returns-in-Err-clause-steps : goal.returns-in-Err-clause-steps
returns-in-Err-clause-steps g c =
    let walk = c.args.self.now in
    let base = walk.base.bytes.now in
    let none = none_remaining walk.inner c.next.new.self c.descendants_contiguous.ensures
    (values base)
    (c.in_ok-path.path.now, c.in_ok-path.value.now) c.in_ok-path.ensures.steps walk.ordered
    walk.none_before (search rules) in
    record {
      row_is = none;
      rest_is = (no_rests base walk.inner none.0, no_rests base c.next.new.self none.1);
    }
