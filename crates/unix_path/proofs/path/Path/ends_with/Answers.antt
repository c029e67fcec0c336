use Rattle.unix_path.proofs.lemmas.order.EndingLemmas.{ends_before}
use Rattle.unix_path.proofs.path.Path.ends_with.Goals as goal

pub returns-in-Some : goal.returns-in-Some
returns-in-Some c =
    let same = ends_before c.args.self.now.bytes.now c.args.child.bytes.now c.in-Some.shared
    c.in-Some.ensures.shared in (
      λ is. same.0 (c.ends_with_parts.ensures.0 is),
      λ ends. c.ends_with_parts.ensures.1 (same.1 ends),
    )
