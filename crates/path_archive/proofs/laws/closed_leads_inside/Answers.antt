use Rattle.std.proofs.Common.{sym, []}
use Rattle.std.proofs.lemmas.List.{append-nil}
use Rattle.path_archive.proofs.lemmas.laws.ActLemmas.{extraction_holds, empty_holds}
use Rattle.path_archive.proofs.lemmas.laws.ClosedLemmas.{closed_inside, StaysBelow-plain}
use Rattle.path_archive.proofs.laws.closed_leads_inside.Goals as goal

pub returns : goal.returns
returns c careless entries top q old new path ok closed empty x plain l =
    let holds = extraction_holds careless entries ok (λ is. closed) top old new
    (empty_holds entries top old empty) x in
    closed_inside entries closed top new holds.links top q path l [] (sym (append-nil top))
    (StaysBelow-plain path [] plain)
