use Rattle.std.proofs.Common.{◌≡◌, None, refl, ap, ◌∙◌, sym, option_map}
use Rattle.tar_listing.specs.Reading.{read_byte}
use Rattle.tar_listing.proofs.lemmas.TextLemmas.{push_first, push_more, pushed_at, pushed_none}
use Rattle.tar_listing.proofs.lemmas.TextLemmas.{read_shorter}
use Rattle.tar_listing.proofs.text.push_text.Goals as goal

pub loop-byte-init : goal.loop-byte-init
loop-byte-init c =
    push_first c.args.text.now c.args.out.now.items c.args.out.now.items refl

pub loop-byte-preserved : goal.loop-byte-preserved
loop-byte-preserved c =
    push_more c.args.text.now c.loop-byte.rest.now c.in-Some.after.now c.args.out.now.items
    c.loop-byte.out.items c.push.new.self.items c.in-Some.byte c.loop-byte.invariant
    c.in-Some.ensures c.in_ok-push.ensures.items

pub loop-byte-smaller : goal.loop-byte-smaller
loop-byte-smaller c =
    read_shorter c.loop-byte.rest.now c.in-Some.after.now c.in-Some.byte c.in-Some.ensures

pub returns-clause-read : goal.returns-clause-read
returns-clause-read c =
    pushed_at c.args.text.now c.loop-byte.rest.now c.args.out.now.items c.loop-byte.out.items
    c.after_quote.result c.loop-byte.invariant c.after_quote.ensures

pub returns-clause-none : goal.returns-clause-none
returns-clause-none c =
    let none : read_byte c.loop-byte.rest.now ≡ None =
    sym c.read_byte.ensures ∙ ap (option_map (λ r. (r.0, r.1.now))) c.in_default.is in
    pushed_none c.args.text.now c.loop-byte.rest.now c.args.out.now.items c.loop-byte.out.items
    c.after_quote.result c.loop-byte.invariant none c.after_quote.ensures
