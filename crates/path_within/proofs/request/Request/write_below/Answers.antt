use Rattle.std.proofs.Common.{rules, refl}
use Rattle.path_within.specs.Requests.{request_bytes}
use Rattle.path_within.proofs.lemmas.below.BelowLemmas.{begins, is_below}
use Rattle.path_within.proofs.request.Request.write_below.Goals as goal

pub returns-clause-begins : goal.returns-clause-begins
returns-clause-begins c = begins c.args.root.bytes.now (request_bytes c.args.self) refl

pub returns-clause-below : goal.returns-clause-below
returns-clause-below c = search (rules, is_below)
