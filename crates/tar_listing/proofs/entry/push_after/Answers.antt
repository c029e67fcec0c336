use Rattle.std.proofs.Common.{◌≡◌, None}
use Rattle.std.proofs.lemmas.Result.{IfOk-weaker}
use Rattle.tar_listing.specs.Form.{closed}
use Rattle.tar_listing.specs.Reading.{CannotRead, after_words}
use Rattle.tar_listing.proofs.lemmas.LineLemmas.{no_text}
use Rattle.tar_listing.proofs.entry.push_after.Goals as goal

pub returns-in-Some-clause-none : goal.returns-in-Some-clause-none
returns-in-Some-clause-none c =
    IfOk-weaker c.push_text.result (λ o. o ≡ None → CannotRead closed c.in-Some.after.now)
    (λ o. o ≡ None → CannotRead (after_words c.args.text.now) c.args.rest.now)
    (λ o none is. no_text c.args.text.now c.args.rest.now c.in-Some.after.now
    c.in-Some.ensures.some (none is)) c.push_text.ensures.none
