use Rattle.path_within.proofs.lemmas.names_only.RequestLemmas.{request_has_names, request_stays}
use Rattle.path_within.proofs.laws.within.verbatim_stays_within.Goals as goal

pub returns : goal.returns
returns c = record {
  escapes = request_stays;
  names = request_has_names;
}
