use Rattle.std.proofs.Common.{arith}
use Rattle.unix_path.specs.Names.{file_name_of}
use Rattle.unix_path.proofs.lemmas.names.ParentLemmas.{file_name_of-last}
use Rattle.path_within.proofs.request.Request.file_name.Goals as goal

pub returns-in-Name : goal.returns-in-Name
returns-in-Name c = grind (arith, file_name_of-last)

pub returns-in-ParentDirs : goal.returns-in-ParentDirs
unfolding file_name_of
returns-in-ParentDirs c = grind arith
