use Rattle.std.proofs.Common.{◌≡◌, ◌∙◌, ap, length, rules, arith}
use Rattle.std.proofs.iter.runs.Sources.{from_front}
use Rattle.std.specs.List.{filter}
use Rattle.std.specs.Ordering.{is_le}
use Rattle.unix_path.specs.Order.{values_cmp}
use Rattle.unix_path.specs.Buffers.{path_bytes}
use Rattle.unix_path.specs.Parts.{values}
use Rattle.path_runs.specs.TableLaws.{rows_of}
use Rattle.path_table.specs.Table.{item_rest, item_row, entries_under, rests_under}
use Rattle.path_table.specs.Under.{YieldsUnder, remaining_rests, remaining_rows}
use Rattle.path_table.proofs.RangeLemmas.{range_ordered, range_from_base, range_under}
use Rattle.path_table.proofs.RangeLemmas.{fewer_under}
use Rattle.path_table.proofs.RestsLemmas.{rests_from_base}
use Rattle.path_table.proofs.table.PathTable.walk_under.Goals as goal

pub invariant_of-result : goal.invariant_of-result
invariant_of-result g c =
    let base = values c.as_path.result.bytes.now in
    let all = c.args.self.now.inner.entries in
    let is : c.range.result ≡ filter (λ e. is_le (values_cmp base (values (path_bytes e.0)))) all =
    rw c.as_path.ensures (search rules) in
    record {
      ordered = range_ordered base all c.range.result is c.range.ensures.ordered;
      none_before = range_from_base base all c.range.result is;
    }

pub returns-clause-all_rows : goal.returns-clause-all_rows
returns-clause-all_rows g c =
    let base = values (path_bytes c.args.base.now) in
    ap (λ s. entries_under (values s) (rows_of path_bytes c.range.result)) c.as_path.ensures
    ∙ range_under base c.args.self.now.inner.entries c.range.result (search rules)
    c.base_before_under.ensures

pub returns-clause-rests : goal.returns-clause-rests
returns-clause-rests g c =
    let base = c.as_path.result.bytes.now in
    let all = c.args.self.now.inner.entries in
    let is : c.range.result
    ≡ filter (λ e. is_le (values_cmp (values base) (values (path_bytes e.0)))) all =
    rw c.as_path.ensures (search rules) in
    rests_from_base base c.base_before_under.ensures all c.range.result is
    ∙ ap (λ s. rests_under s all) c.as_path.ensures

pub returns-clause-runs : goal.returns-clause-runs
returns-clause-runs g c =
    from_front YieldsUnder item_row remaining_rows (λ s t h. ap length h.row_is.0)
    (λ s x t h. h.row_is)

pub returns-clause-runs_rests : goal.returns-clause-runs_rests
returns-clause-runs_rests g c =
    from_front YieldsUnder item_rest remaining_rests (λ s t h. ap length h.rest_is.0)
    (λ s x t h. h.rest_is)

pub returns-clause-fits : goal.returns-clause-fits
returns-clause-fits g c =
    omega (
      arith,
      c.range.ensures.fits,
      fewer_under (values c.as_path.result.bytes.now) c.range.result,
    )
