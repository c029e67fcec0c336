use Rattle.std.proofs.Common.{refl}
use Rattle.unix_bytes.proofs.lemmas.prefixes.TextPrefixLemmas.{whole_is_text, whole_is_utf8}
use Rattle.unix_bytes.proofs.utf8.to_text.Goals as goal

pub from_utf8_unchecked-requires : goal.from_utf8_unchecked-requires
from_utf8_unchecked-requires c =
    whole_is_utf8 c.args.bytes.now _ c.scan-text.ensures.text c.if-text-bytes.false

pub returns-clause-value : goal.returns-clause-value
returns-clause-value c =
    let length = c.scan-text.ensures.text in
    let text = whole_is_text c.args.bytes.now _ length c.if-text-bytes.false in
    (λ _. text, λ _. refl)
