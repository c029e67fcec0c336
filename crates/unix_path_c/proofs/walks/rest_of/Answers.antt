use Rattle.std.proofs.Common.{sym, ◌∙◌}
use Rattle.unix_path_c.proofs.lemmas.walks.RemainingLemmas.{remaining-in_range, remaining-outside}
use Rattle.unix_path_c.proofs.walks.rest_of.Goals as goal

pub returns-in-Some : goal.returns-in-Some
returns-in-Some c =
    let h = c.in-Some.ensures.lookup.0 in
    c.from_bytes.ensures.bytes ∙ h.2
    ∙ sym (remaining-in_range c.args.path.now c.args.walk.now h.0 h.1)

pub returns-in-None : goal.returns-in-None
returns-in-None c = c.from_bytes-in-None.ensures.bytes
    ∙ sym (remaining-outside c.args.path.now c.args.walk.now c.in-None.ensures.lookup.0)
