use Rattle.std.proofs.Common.{◌≡◌, ◌<◌, ap, ◌∙◌, subst, arith}
use Rattle.unix_path.specs.Cursor.{cursor_rest, cursor_values}
use Rattle.unix_path.specs.Parts.{values}
use Rattle.path_within.specs.Escapes.{has_root_or_parent_dir}
use Rattle.path_archive.proofs.lemmas.links.LinkLemmas.{StaysAbove, climbs, leads_away, leads_on}
use Rattle.path_archive.proofs.lemmas.links.LinkLemmas.{name_first, one_up}
use Rattle.path_archive.proofs.links.climbs_out.Goals as goal

pub ups-preserved : goal.ups-preserved
ups-preserved c =
    let item = rw c.in-Some-ParentDir.field-0-is at c.in-Some-ParentDir.ensures.steps.item_is in
    let some : 0 < c.ups.above = omega arith in
    one_up (cursor_values c.ups.rest) (values c.args.path.bytes.now)
    (cursor_values c.next.new.self) c.ups.above c.args.depth item some c.ups.invariant

pub returns-in-None : goal.returns-in-None
returns-in-None c = λ here is.
    climbs _ c.ups.above c.args.depth (cursor_values c.ups.rest) (values c.args.path.bytes.now) here
    (leads_on (cursor_values c.ups.rest) c.ups.above c.in-None.ensures.steps.item_is.0)
    c.ups.invariant is

pub returns-in-Some-RootDir : goal.returns-in-Some-RootDir
returns-in-Some-RootDir c = λ here is.
    (let item = rw c.in-Some-RootDir.field-0-is at c.in-Some-RootDir.ensures.steps.item_is in
    climbs _ c.ups.above c.args.depth (cursor_values c.ups.rest) (values c.args.path.bytes.now) here
    (leads_away (cursor_values c.ups.rest) c.ups.above (λ h. subst (StaysAbove c.ups.above) item h))
    c.ups.invariant is)

pub returns-in-Some-CurDir : goal.returns-in-Some-CurDir
returns-in-Some-CurDir c = λ here is.
    (let item = rw c.in-Some-CurDir.field-0-is at c.in-Some-CurDir.ensures.steps.item_is in
    climbs _ c.ups.above c.args.depth (cursor_values c.ups.rest) (values c.args.path.bytes.now) here
    (leads_away (cursor_values c.ups.rest) c.ups.above (λ h. subst (StaysAbove c.ups.above) item h))
    c.ups.invariant is)

pub returns-then-above-eq0 : goal.returns-then-above-eq0
returns-then-above-eq0 c = λ here is.
    (let item = rw c.in-Some-ParentDir.field-0-is at c.in-Some-ParentDir.ensures.steps.item_is in
    climbs _ c.ups.above c.args.depth (cursor_values c.ups.rest) (values c.args.path.bytes.now) here
    (leads_away (cursor_values c.ups.rest) c.ups.above (λ h.
    (let some : 0 < c.ups.above = (subst (StaysAbove c.ups.above) item h).0 in
    omega arith))) c.ups.invariant is)

pub returns-in-Some-Normal : goal.returns-in-Some-Normal
returns-in-Some-Normal c = λ here is.
    (let item = rw c.in-Some-Normal.field-0-is at c.in-Some-Normal.ensures.steps.item_is in
    let test : c.has_root_or_parent_dir.result
    ≡ has_root_or_parent_dir (cursor_values c.ups.rest) = c.has_root_or_parent_dir.ensures
    ∙ ap (λ b. has_root_or_parent_dir (values b)) c.as_path-names.ensures.bytes in
    climbs _ c.ups.above c.args.depth (cursor_values c.ups.rest) (values c.args.path.bytes.now) here
    (name_first (cursor_rest c.ups.rest) c.has_root_or_parent_dir.result c.ups.above _ _ test item)
    c.ups.invariant is)
