use Rattle.std.proofs.Common.{refl, arith}
use Rattle.std.proofs.lemmas.List.{take_rest}
use Rattle.path_keys.proofs.lemmas.spelling.CutLemmas.{cut_lead, cut_leaves, cut_fits, cut_one}
use Rattle.path_keys.proofs.lemmas.spelling.CutLemmas.{cut_all}
use Rattle.path_keys.proofs.lemmas.spelling.RunTextLemmas.{lead_known}
use Rattle.path_keys.proofs.decode.write_text.Goals as goal

pub loop-run-init : goal.loop-run-init
loop-run-init c =
    let started = c.past_lead-started.ensures in
    cut_lead c.requires (lead_known started.lead started.inner) c.write_lead.ensures
    c.len_in_path-at.ensures

pub next_run-requires : goal.next_run-requires
next_run-requires c =
    let (t, key_is, short) = cut_leaves c.loop-run.invariant in
    (t, key_is, omega (arith, short, c.loop-run.auto.out, c.write_lead.auto.out))

pub write_run-requires : goal.write_run-requires
write_run-requires c =
    omega (
      arith,
      c.loop-run.auto.out,
      c.write_lead.auto.out,
      cut_fits c.loop-run.invariant c.in-Some.ensures.some,
    )

pub overflow_add-at : goal.overflow_add-at
overflow_add-at c =
    omega (
      arith,
      c.loop-run.auto.out,
      c.write_lead.auto.out,
      c.write_lead.auto.out,
      cut_fits c.loop-run.invariant c.in-Some.ensures.some,
      c.text_len-at.ensures,
    )

pub loop-run-preserved : goal.loop-run-preserved
loop-run-preserved c = grind (arith, cut_one, take_rest)

pub returns : goal.returns
returns c = cut_all c.loop-run.invariant (c.in_default.ensures.none refl) c.requires
