use Rattle.std.proofs.lemmas.Option.{IfSome_then}
use Rattle.std.proofs.Common.{subst, rules, ◌≡◌, ◌≢◌, ◌++◌, ◌∷◌, [], length, sym, ap, ◌∙◌}
use Rattle.tar_listing.specs.Form.{closed, target_text}
use Rattle.tar_listing.specs.Reading.{IsEntryPushed, IsPushed, kind_code}
use Rattle.tar_listing.proofs.lemmas.LineLemmas.{entry_pushed, no_empty, no_end, no_name, no_start}
use Rattle.tar_listing.proofs.lemmas.LineLemmas.{no_target}
use Rattle.tar_listing.proofs.lemmas.TextLemmas.{at_some}
use Rattle.tar_listing.proofs.entry.push_entry.Goals as goal

pub returns-in_default-clause-none : goal.returns-in_default-clause-none
returns-in_default-clause-none c = λ is e rest.
    no_start c.args.line.now rest e (c.line_start.ensures.none c.in_default.is)

pub returns-in_default-2-clause-none : goal.returns-in_default-2-clause-none
returns-in_default-2-clause-none c = λ is e rest.
    no_name c.args.line.now c.in-Some.rest.now rest c.in-Some.kind e c.in-Some.ensures.some
    (c.in_ok-rest.ensures.none c.in_default-2.is)

pub returns-then-len-start-clause-none : goal.returns-then-len-start-clause-none
returns-then-len-start-clause-none c = λ is e rest.
    (let name : IsPushed closed c.in-Some.rest.now c.in-Some-2.rest.now c.push-2.new.self.items
    c.push_text.new.out.items =
    at_some _ _ _ c.in-Some-2.is c.in_ok-rest.ensures.read in
    let same : length c.push_text.new.out.items ≡ length c.push-2.new.self.items = search rules in
    no_empty c.args.line.now c.in-Some.rest.now c.in-Some-2.rest.now rest
    c.push-2.new.self.items c.push_text.new.out.items c.in-Some.kind e c.in-Some.ensures.some
    name same)

pub returns-in_default-3-clause-none : goal.returns-in_default-3-clause-none
returns-in_default-3-clause-none c = λ is e rest.
    (let name : IsPushed closed c.in-Some.rest.now c.in-Some-2.rest.now c.push-2.new.self.items
    c.push_text.new.out.items =
    at_some _ _ _ c.in-Some-2.is c.in_ok-rest.ensures.read in
    no_target c.args.line.now c.in-Some.rest.now c.in-Some-2.rest.now rest
    c.push-2.new.self.items c.push_text.new.out.items c.in-Some.kind e c.in-Some.ensures.some
    name (c.in_ok-rest-2.ensures.none c.in_default-3.is))

pub returns-clause-read : goal.returns-clause-read
returns-clause-read c =
    let name : IsPushed closed c.in-Some.rest.now c.in-Some-2.rest.now c.push-2.new.self.items
    c.push_text.new.out.items =
    at_some _ _ _ c.in-Some-2.is c.in_ok-rest.ensures.read in
    let target : IsPushed (target_text c.in-Some.kind) c.in-Some-2.rest.now c.in-Some-3.rest.now
    c.push-3.new.self.items c.push_target.new.out.items =
    at_some _ _ _ c.in-Some-3.is c.in_ok-rest-2.ensures.read in
    let some : length c.push_text.new.out.items ≢ length c.push-2.new.self.items = search rules in
    let code : c.push-2.new.self.items
    ≡ (c.args.records.now.items ++ kind_code c.in-Some.kind ∷ []) ++ 0 ∷ [] =
    c.in_ok-push-2.ensures.items ∙ ap (λ s. s ++ 0 ∷ []) (c.in_ok-push.ensures.items
    ∙ ap (λ b. c.args.records.now.items ++ b ∷ []) c.kind_code.ensures) in
    IfSome_then c.after_text.result c.after_text.ensures.some (λ after is.
    subst (IsEntryPushed c.args.line.now after.now c.args.records.now.items)
    (sym c.in_ok-push-4.ensures.items)
    (entry_pushed c.args.line.now c.in-Some.rest.now c.in-Some-2.rest.now c.in-Some-3.rest.now
    after.now c.args.records.now.items c.push-2.new.self.items c.push_text.new.out.items
    c.push-3.new.self.items c.push_target.new.out.items c.in-Some.kind c.in-Some.ensures.some
    name some target is code c.in_ok-push-3.ensures.items))

pub returns-clause-none : goal.returns-clause-none
returns-clause-none c = λ is e rest.
    (let name : IsPushed closed c.in-Some.rest.now c.in-Some-2.rest.now c.push-2.new.self.items
    c.push_text.new.out.items =
    at_some _ _ _ c.in-Some-2.is c.in_ok-rest.ensures.read in
    let target : IsPushed (target_text c.in-Some.kind) c.in-Some-2.rest.now c.in-Some-3.rest.now
    c.push-3.new.self.items c.push_target.new.out.items =
    at_some _ _ _ c.in-Some-3.is c.in_ok-rest-2.ensures.read in
    no_end c.args.line.now c.in-Some.rest.now c.in-Some-2.rest.now c.in-Some-3.rest.now rest
    c.push-2.new.self.items c.push_text.new.out.items c.push-3.new.self.items
    c.push_target.new.out.items c.in-Some.kind e c.in-Some.ensures.some name target
    (c.after_text.ensures.none is))
