use Rattle.std.proofs.Common.{rules, ◌≡◌, ◌≢◌, true, false}
use Rattle.path_archive.specs.Levels.{asks_closed}
use Rattle.path_archive.specs.Slots.{use_at}
use Rattle.path_archive.proofs.lemmas.refusals.ReasonLemmas.{link_leads, no_link, not_asked}
use Rattle.path_archive.proofs.decide.is_link_out.Goals as goal

pub returns-then-not-asks_closed : goal.returns-then-not-asks_closed
returns-then-not-asks_closed c =
    let is : asks_closed c.args.level ≡ false = search rules in
    not_asked c.args.level (use_at c.args.records.now c.args.slot.now) is

pub returns-then-slot-ne-SYMLINK : goal.returns-then-slot-ne-SYMLINK
returns-then-slot-ne-SYMLINK c =
    let other : c.args.slot.now.rank ≢ 0 = search rules in
    no_link c.args.level c.args.records.now c.args.slot.now other

pub returns : goal.returns
returns c =
    let asked : asks_closed c.args.level ≡ true = search rules in
    let link : c.args.slot.now.rank ≡ 0 = search rules in
    link_leads c.args.level c.args.records.now c.args.slot.now c.leads_out.result
    c.path.result.now c.target.result.now asked link c.path.ensures c.target.ensures
    c.leads_out.ensures
