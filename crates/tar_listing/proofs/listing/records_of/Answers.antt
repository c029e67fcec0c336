use Rattle.std.proofs.Common.{◌≡◌, ◌≢◌, length, rules}
use Rattle.tar_listing.specs.Reading.{IsEntryPushed}
use Rattle.tar_listing.proofs.lemmas.RecordLemmas.{has_read_end, reads_first, reads_more}
use Rattle.tar_listing.proofs.lemmas.RecordLemmas.{reads_shorter, refused_at}
use Rattle.tar_listing.proofs.lemmas.TextLemmas.{at_some}
use Rattle.tar_listing.proofs.listing.records_of.Goals as goal

pub loop-rest-init : goal.loop-rest-init
loop-rest-init c =
    reads_first c.args.listing.now c.new-records.result.items c.new-records.ensures.items

pub loop-rest-preserved : goal.loop-rest-preserved
loop-rest-preserved c =
    let pushed : IsEntryPushed c.loop-rest.rest.now c.in-Some.after.now c.loop-rest.records.items
    c.push_entry.new.records.items =
    at_some _ _ _ c.in-Some.is c.in_ok-after.ensures.read in
    reads_more c.args.listing.now c.loop-rest.rest.now c.in-Some.after.now
    c.loop-rest.records.items c.push_entry.new.records.items c.loop-rest.line
    c.loop-rest.invariant pushed

pub loop-rest-smaller : goal.loop-rest-smaller
loop-rest-smaller c =
    let pushed : IsEntryPushed c.loop-rest.rest.now c.in-Some.after.now c.loop-rest.records.items
    c.push_entry.new.records.items =
    at_some _ _ _ c.in-Some.is c.in_ok-after.ensures.read in
    reads_shorter c.loop-rest.rest.now c.in-Some.after.now c.loop-rest.records.items
    c.push_entry.new.records.items pushed

pub returns-in-None-clause-refused : goal.returns-in-None-clause-refused
returns-in-None-clause-refused c =
    let some : length c.loop-rest.rest.now ≢ 0 = search rules in
    refused_at c.args.listing.now c.loop-rest.rest.now c.loop-rest.records.items c.loop-rest.line
    c.loop-rest.invariant.read some (c.in_ok-after.ensures.none c.in-None.is)

pub returns-clause-read : goal.returns-clause-read
returns-clause-read c =
    let none : length c.loop-rest.rest.now ≡ 0 = search rules in
    has_read_end c.args.listing.now c.loop-rest.rest.now c.loop-rest.records.items
    c.loop-rest.line c.loop-rest.invariant.read none
