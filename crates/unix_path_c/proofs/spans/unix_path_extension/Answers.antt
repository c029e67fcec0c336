use Rattle.std.proofs.Common.{Some, is_some, ap, ◌∙◌}
use Rattle.unix_path.proofs.lemmas.names.NameStemLemmas.{extension_of-nameless}
use Rattle.unix_path_c.proofs.lemmas.spans.PlaceLemmas.{extension_ends}
use Rattle.unix_path_c.proofs.lemmas.spans.StretchLemmas.{IsSpanOf, is_span_of}
use Rattle.unix_path_c.proofs.spans.unix_path_extension.Goals as goal
use Rattle.unix_path_c.proofs.spans.unix_path_extension.Goals.{After-span_ending_at}

-- the span has the bytes of the extension, and ends where the file name ends
is_span : (c : After-span_ending_at) → IsSpanOf c.args.path.now c.in-Some.end
    c.in-Some-extension.extension.bytes.now c.span_ending_at.result
is_span c =
    let extension = c.in-Some-extension.extension.bytes.now in
    is_span_of c.args.path.now extension c.in-Some.end c.span_ending_at.result
    (extension_ends c.args.path.now extension c.in-Some.end c.in-Some.ensures.value
    c.in-Some-extension.ensures.value) c.span_ending_at.ensures

pub returns-in_default-clause-value : goal.returns-in_default-clause-value
returns-in_default-clause-value c =
    ap is_some (extension_of-nameless c.args.path.now c.in_default.ensures.value)

pub span_ending_at-requires : goal.span_ending_at-requires
span_ending_at-requires c =
    (extension_ends c.args.path.now c.in-Some-extension.extension.bytes.now c.in-Some.end
    c.in-Some.ensures.value c.in-Some-extension.ensures.value).fits

pub returns-clause-bytes : goal.returns-clause-bytes
returns-clause-bytes c = ap Some (is_span c).bytes ∙ c.in-Some-extension.ensures.value

pub returns-clause-end : goal.returns-clause-end
returns-clause-end c = ap Some (is_span c).end_is ∙ c.in-Some.ensures.value

pub returns-clause-inside : goal.returns-clause-inside
returns-clause-inside c = (is_span c).inside
