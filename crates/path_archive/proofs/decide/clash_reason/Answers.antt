use Rattle.std.proofs.Common.{rules, ◌≡◌, ◌≢◌, true, false}
use Rattle.unix_path.specs.Parts.{values}
use Rattle.path_archive.proofs.lemmas.refusals.ReasonLemmas.{below_reason, target_reason}
use Rattle.path_archive.proofs.lemmas.refusals.ReasonLemmas.{twice_reason}
use Rattle.path_archive.proofs.lemmas.marks.RelateLemmas.{begins_if, not_begins_if}
use Rattle.path_archive.proofs.decide.clash_reason.Goals as goal

pub returns-then-not-starts_with : goal.returns-then-not-starts_with
returns-then-not-starts_with c =
    let test : c.starts_with.result ≡ false = search rules in
    below_reason c.args.records.now c.args.first.now c.args.second.now c.requires
    (not_begins_if c.args.records.now c.args.second.now c.args.first.now
    (values c.names-2.result.bytes.now) (values c.names.result.bytes.now) c.starts_with.result
    c.starts_with.ensures c.names-2.ensures c.names.ensures test)

pub returns-then-second-eq-TARGET : goal.returns-then-second-eq-TARGET
returns-then-second-eq-TARGET c =
    let test : c.starts_with.result ≡ true = search rules in
    let rank : c.args.second.now.rank ≡ 2 = search rules in
    target_reason c.args.records.now c.args.first.now c.args.second.now c.requires
    (begins_if c.args.records.now c.args.second.now c.args.first.now
    (values c.names-2.result.bytes.now) (values c.names.result.bytes.now) c.starts_with.result
    c.starts_with.ensures c.names-2.ensures c.names.ensures test) rank

pub returns-else-second-eq-TARGET : goal.returns-else-second-eq-TARGET
returns-else-second-eq-TARGET c =
    let test : c.starts_with.result ≡ true = search rules in
    let rank : c.args.second.now.rank ≢ 2 = search rules in
    twice_reason c.args.records.now c.args.first.now c.args.second.now c.requires
    (begins_if c.args.records.now c.args.second.now c.args.first.now
    (values c.names-2.result.bytes.now) (values c.names.result.bytes.now) c.starts_with.result
    c.starts_with.ensures c.names-2.ensures c.names.ensures test) rank
