use Rattle.path_within.proofs.lemmas.names_only.NamesOnlyLemmas.{is_names_only-rootless}
use Rattle.path_within.proofs.request.Request.names.Goals as goal

pub names_of-requires : goal.names_of-requires
names_of-requires c h =
    is_names_only-rootless c.args.self.path.bytes.now (c.args.self.names_verbatim h)
    c.args.self.rootless
