use Rattle.std.proofs.Common.{◌<◌, ◌+◌, ◌∙◌, sym, subst, arith, length}
use Rattle.std.proofs.lemmas.List.{take_rest}
use Rattle.tar_listing.specs.Reading.{StartsLine}
use Rattle.tar_listing.proofs.lemmas.LineLemmas.{never_columns, never_started, starts}
use Rattle.tar_listing.proofs.columns.line_start.Goals as goal

pub returns-then-end-eq0-clause-none : goal.returns-then-end-eq0-clause-none
returns-then-end-eq0-clause-none c = λ none.
    never_started c.args.line.now c.find_byte-end.result c.find_byte-end.ensures.value
    c.then-end-eq0.either

pub returns-then-not-are_columns-clause-none : goal.returns-then-not-are_columns-clause-none
returns-then-not-are_columns-clause-none c = λ none.
    never_columns c.args.line.now c.find_byte-end.result c.find_byte-end.ensures.value
    (sym c.are_columns.ensures ∙ c.if-not-are_columns.true)

pub returns-clause-some : goal.returns-clause-some
returns-clause-some c =
    let some : 0 < c.find_byte-end.result = omega arith in
    let inside : c.find_byte-end.result < length c.args.line.now = omega arith in
    subst (λ r. StartsLine c.args.line.now c.in_ok-kind.kind r)
    (sym (take_rest c.args.line.now (c.find_byte-end.result + 1)))
    (starts c.args.line.now c.find_byte-end.result c.in_ok-kind.kind
    c.find_byte-end.ensures.value some inside (sym c.in_ok-kind.ensures)
    (sym c.are_columns.ensures ∙ c.if-not-are_columns.false))
