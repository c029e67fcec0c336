use Rattle.std.proofs.Common.{◌≡◌, ◌∙◌, sym, ap, ◌++◌, true}
use Rattle.std.proofs.lemmas.Bool.Decides.{Decides-eqb}
use Rattle.std.proofs.lemmas.List.{take_rest}
use Rattle.std.proofs.lemmas.Slice.Eq.{starts_is}
use Rattle.tar_listing.proofs.entry.after_text.Goals as goal
use Rattle.std.proofs.Common.{length}

pub returns-then-starts_with-clause-some : goal.returns-then-starts_with-clause-some
returns-then-starts_with-clause-some c =
    (starts_is Decides-eqb c.args.rest.now c.args.text.now c.starts_with.result
    c.starts_with.ensures.value).0 c.if-starts_with.true
    ∙ ap (λ r. c.args.text.now ++ r)
    (sym (take_rest c.args.rest.now (length c.args.text.now)))

pub returns-else-starts_with-clause-none : goal.returns-else-starts_with-clause-none
returns-else-starts_with-clause-none c = λ none after is.
    (let yes : c.starts_with.result ≡ true =
    (starts_is Decides-eqb c.args.rest.now c.args.text.now c.starts_with.result
    c.starts_with.ensures.value).1 after is in
    let no = c.if-starts_with.false in
    cc)
