use Rattle.std.proofs.Common.{◌≡◌, ◌++◌, sym, subst}
use Rattle.std.specs.Str.{IsUtf8}
use Rattle.std.proofs.lemmas.List.{take_rest}
use Rattle.std.proofs.lemmas.Grind.{common_steps}
use Rattle.std.proofs.Common.{arith}
use Rattle.unix_bytes.specs.Lossy.{lossy_of}
use Rattle.unix_bytes.specs.Chunks.{replacement_for}
use Rattle.unix_bytes.proofs.lemmas.prefixes.PushLemmas.{lossy_is_utf8}
use Rattle.unix_bytes.proofs.lemmas.prefixes.PrinterLemmas.{pushes_buffer}
use Rattle.unix_bytes.proofs.bytes.lossy_string.Goals as goal
use Rattle.unix_bytes.proofs.bytes.lossy_string.Goals.{In_ok-push_lossy}

-- after the call of `push_lossy`, the bytes are `text`, then U+FFFD unless `broken` is empty, and
-- then the lossy form of `rest`
whole_bytes : (c : In_ok-push_lossy) → c.push_lossy.new.bytes.items
    ≡ (c.args.text.now ++ replacement_for c.args.broken.now) ++ lossy_of c.args.rest.now
whole_bytes c =
    let rest = c.args.rest.now in
    grind (arith, common_steps, take_rest rest c.show_first-read.result.0, pushes_buffer)

pub from_utf8_unchecked-requires : goal.from_utf8_unchecked-requires
from_utf8_unchecked-requires c =
    let d = (goal.at.from_utf8_unchecked-requires c).In_ok-push_lossy in
    subst IsUtf8 (sym (whole_bytes d))
    (lossy_is_utf8 c.args.text.now c.args.broken.now c.args.rest.now c.utf8.text)
