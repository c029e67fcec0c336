use Rattle.std.proofs.Common.{◌≡◌, true, refl, sym, ap, ◌∙◌, inl, Err}
use Rattle.unix_path.specs.Parts.{is_rooted}
use Rattle.unix_path.proofs.lemmas.rests.RootLemmas.{rooted-IsPrefixOf}
use Rattle.unix_path_c.proofs.within.unix_path_join_beneath.Goals as goal

pub returns-in-Err-Rooted-clause-escapes : goal.returns-in-Err-Rooted-clause-escapes
returns-in-Err-Rooted-clause-escapes c =
    let rooted : is_rooted c.args.request.now ≡ true =
    ap is_rooted (sym c.from_bytes.ensures.bytes)
    ∙ c.in-Err-Rooted.ensures.rooted.0 (ap Err c.in-Err-Rooted.field-0-is) in (
      λ _. inl ((rooted-IsPrefixOf c.args.request.now true (sym rooted)).0 refl),
      λ _. refl,
    )
