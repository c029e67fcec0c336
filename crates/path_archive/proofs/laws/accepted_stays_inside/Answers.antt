use Rattle.path_archive.proofs.lemmas.laws.ActLemmas.{extraction_holds, empty_holds}
use Rattle.path_archive.proofs.laws.accepted_stays_inside.Goals as goal

pub returns : goal.returns
returns c careless entries top old new ok closed empty x =
    (extraction_holds careless entries ok closed top old new
    (empty_holds entries top old empty) x).same
