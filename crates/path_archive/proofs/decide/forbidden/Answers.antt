use Rattle.std.proofs.Common.{rules, ◌≡◌, ◌≢◌, sym, ◌∙◌, true, false, true≢false, subst}
use Rattle.path_archive.specs.Entries.{use_as}
use Rattle.path_archive.specs.Rule.{IsNamed}
use Rattle.path_archive.specs.Slots.{used_as_of}
use Rattle.path_archive.proofs.lemmas.refusals.ReasonLemmas.{allowed_at, kind_reason, name_reason}
use Rattle.path_archive.proofs.lemmas.refusals.ReasonLemmas.{out_reason}
use Rattle.path_archive.proofs.decide.forbidden.Goals as goal

pub returns-then-slot-eq-OTHER-clause-some : goal.returns-then-slot-eq-OTHER-clause-some
returns-then-slot-eq-OTHER-clause-some c =
    let other : c.args.slot.now.rank ≡ 4 = search rules in
    kind_reason c.args.level c.args.records.now c.args.slot.now other

pub returns-then-not-is_named-clause-some : goal.returns-then-not-is_named-clause-some
returns-then-not-is_named-clause-some c =
    let not_named : c.is_named.result ≡ false = search rules in
    name_reason c.args.level c.args.records.now c.args.slot.now (λ h.
    true≢false (sym (c.is_named.ensures.1
    (subst (λ p. IsNamed (use_as (used_as_of c.args.slot.now.rank) p)) (sym c.path.ensures) h))
    ∙ not_named))

pub returns-then-is_link_out-clause-some : goal.returns-then-is_link_out-clause-some
returns-then-is_link_out-clause-some c =
    let out : c.is_link_out.result ≡ true = search rules in
    out_reason c.args.level c.args.records.now c.args.slot.now (λ h.
    true≢false (sym out ∙ c.is_link_out.ensures.1 h))

pub returns-clause-none : goal.returns-clause-none
returns-clause-none c = λ is.
    (let known : c.args.slot.now.rank ≢ 4 = search rules in
    let named : c.is_named.result ≡ true = search rules in
    let inside : c.is_link_out.result ≡ false = search rules in
    allowed_at c.args.level c.args.records.now c.args.slot.now known
    (subst (λ p. IsNamed (use_as (used_as_of c.args.slot.now.rank) p)) c.path.ensures
    (c.is_named.ensures.0 named)) (c.is_link_out.ensures.0 inside))
