use Rattle.std.proofs.Common.{Some, ap, ◌∙◌}
use Rattle.unix_path.proofs.lemmas.names.NameEndLemmas.{name_end_of-none, name_end_of-some}
use Rattle.unix_path_c.proofs.lemmas.spans.PlaceLemmas.{name_ends, name_start_of-none}
use Rattle.unix_path_c.proofs.lemmas.spans.PlaceLemmas.{name_start_of-some}
use Rattle.unix_path_c.proofs.lemmas.spans.StretchLemmas.{IsSpanOf, is_span_of}
use Rattle.unix_path_c.specs.declared.spans.Span.{Span}
use Rattle.unix_path_c.proofs.spans.name_span.Goals as goal
use Rattle.unix_path_c.proofs.spans.name_span.Goals.{After-span_ending_at}

-- the span has the bytes of the file name, and ends where the path's last component ends
is_span : (c : After-span_ending_at) → IsSpanOf c.args.path.bytes.now c.last_end.result
    c.in-Some.name.bytes.now c.span_ending_at.result
is_span c =
    let s = c.args.path.bytes.now in
    let name = c.in-Some.name.bytes.now in
    let end = c.last_end.result in
    is_span_of s name end c.span_ending_at.result
    (name_ends s name end c.in-Some.ensures c.last_end.ensures) c.span_ending_at.ensures

pub returns-in_default-clause-start : goal.returns-in_default-clause-start
returns-in_default-clause-start c =
    name_start_of-none c.args.path.bytes.now c.in_default.ensures

pub returns-in_default-clause-end : goal.returns-in_default-clause-end
returns-in_default-clause-end c = name_end_of-none c.args.path.bytes.now c.in_default.ensures

pub span_ending_at-requires : goal.span_ending_at-requires
span_ending_at-requires c =
    (name_ends c.args.path.bytes.now c.in-Some.name.bytes.now c.last_end.result c.in-Some.ensures
    c.last_end.ensures).fits

pub returns-clause-bytes : goal.returns-clause-bytes
returns-clause-bytes c = ap Some (is_span c).bytes ∙ c.in-Some.ensures

pub returns-clause-start : goal.returns-clause-start
returns-clause-start c =
    ap (λ (span : Span). Some span.start) c.span_ending_at.ensures
    ∙ name_start_of-some c.args.path.bytes.now c.in-Some.name.bytes.now c.last_end.result
    c.in-Some.ensures c.last_end.ensures

pub returns-clause-end : goal.returns-clause-end
returns-clause-end c =
    ap Some (is_span c).end_is
    ∙ name_end_of-some c.args.path.bytes.now c.in-Some.name.bytes.now c.last_end.result
    c.in-Some.ensures c.last_end.ensures

pub returns-clause-inside : goal.returns-clause-inside
returns-clause-inside c = (is_span c).inside
