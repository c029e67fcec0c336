use Rattle.std.proofs.Common.{subst, sym}
use Rattle.std.specs.Str.{IsUtf8}
use Rattle.unix_bytes.proofs.lemmas.prefixes.TextPrefixLemmas.{prefix_is_utf8}
use Rattle.unix_bytes.proofs.utf8.split_text.Goals as goal

pub from_utf8_unchecked-requires : goal.from_utf8_unchecked-requires
from_utf8_unchecked-requires c =
    subst IsUtf8 (sym c.split_at.ensures.front)
    (prefix_is_utf8 c.args.source.now _ c.scan_text-text.ensures.text)
