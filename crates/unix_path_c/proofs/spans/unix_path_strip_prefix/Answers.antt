use Rattle.std.proofs.Common.{◌∙◌}
use Rattle.unix_path_c.proofs.lemmas.spans.PlaceLemmas.{stripped_ends}
use Rattle.unix_path_c.proofs.lemmas.spans.StretchLemmas.{IsSpanOf, is_span_of}
use Rattle.unix_path_c.proofs.spans.unix_path_strip_prefix.Goals as goal
use Rattle.unix_path_c.proofs.spans.unix_path_strip_prefix.Goals.{After-span_ending_at}

-- the span has the bytes of the rest after the base, and ends where the path's last component ends
is_span : (c : After-span_ending_at) → IsSpanOf c.args.path.now c.last_end.result
    c.in-Ok.rest.bytes.now c.span_ending_at.result
is_span c =
    let s = c.args.path.now in
    let rest = c.in-Ok.rest.bytes.now in
    let end = c.last_end.result in
    is_span_of s rest end c.span_ending_at.result
    (stripped_ends s c.args.base.now rest end c.in-Ok.ensures.value c.last_end.ensures)
    c.span_ending_at.ensures

pub span_ending_at-requires : goal.span_ending_at-requires
span_ending_at-requires c =
    (stripped_ends c.args.path.now c.args.base.now c.in-Ok.rest.bytes.now c.last_end.result
    c.in-Ok.ensures.value c.last_end.ensures).fits

pub returns-clause-bytes : goal.returns-clause-bytes
returns-clause-bytes c = (is_span c).bytes ∙ c.in-Ok.ensures.value

pub returns-clause-end : goal.returns-clause-end
returns-clause-end c = (is_span c).end_is ∙ c.last_end.ensures

pub returns-clause-inside : goal.returns-clause-inside
returns-clause-inside c = (is_span c).inside
