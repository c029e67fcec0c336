use Rattle.std.proofs.Common.{◌-◌, length, refl}
use Rattle.unix_path.proofs.lemmas.steps.LastPieceLemmas.{IsLastStart}
use Rattle.unix_path_c.proofs.lemmas.walks.NameLemmas.{IsOrdinary, name_after, name_first}
use Rattle.unix_path_c.proofs.last_step.last_name.Goals as goal
use Rattle.unix_path_c.proofs.last_step.last_name.Goals.{After-after_last-start}

-- the last piece starts just after the last slash
is_last_start : (c : After-after_last-start)
    → IsLastStart c.args.bytes.now c.after_last-start.result
is_last_start c = record {
  in_range = c.after_last-start.ensures.in_range;
  after_slash = c.after_last-start.ensures.after;
  no_slash = c.after_last-start.ensures.none_after;
}

-- the last byte is neither a slash nor a dot
ends_ordinary : (c : After-after_last-start)
    → IsOrdinary c.args.bytes.now (length c.args.bytes.now - 1)
ends_ordinary c = record {
  no_slash = c.if-not-is_ordinary.ensures.no_slash refl;
  no_dot = c.if-not-is_ordinary.ensures.no_dot refl;
}

pub returns-then-start-lt2 : goal.returns-then-start-lt2
returns-then-start-lt2 c =
    let d = (goal.at.returns-then-start-lt2 c).After-after_last-start in
    let t = name_first c.args.bytes.now c.after_last-start.result c.requires (ends_ordinary d)
    (is_last_start d) c.if-start-lt2.true in
    record {
      ends = t.ends;
      in_order = t.in_order;
      in_range = t.in_range;
      values = t.values_are;
      rest = t.rest_is;
    }

pub returns-then-is_ordinary : goal.returns-then-is_ordinary
returns-then-is_ordinary c =
    let d = (goal.at.returns-then-is_ordinary c).After-after_last-start in
    let before = c.if-is_ordinary.ensures in
    let t = name_after c.args.bytes.now c.after_last-start.result c.requires (ends_ordinary d)
    (is_last_start d) c.if-start-lt2.false
    (record { no_slash = before.no_slash refl; no_dot = before.no_dot refl }) in
    record {
      ends = t.ends;
      in_order = t.in_order;
      in_range = t.in_range;
      values = t.values_are;
      rest = t.rest_is;
    }
