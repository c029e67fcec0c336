use Rattle.unix_path.proofs.lemmas.names.NameStemLemmas.{name_end_of-name}
use Rattle.unix_path_c.proofs.lemmas.spans.PlaceLemmas.{name_at, stem_is}
use Rattle.unix_path_c.proofs.spans.unix_path_file_stem.Goals as goal

pub stem_end-requires-clause-name : goal.stem_end-requires-clause-name
stem_end-requires-clause-name c =
    let name = c.in-Some.name in
    name_end_of-name c.args.path.now _
    (name_at c.args.path.now name.start name.length c.in-Some.ensures.bytes)

pub returns-clause-bytes : goal.returns-clause-bytes
returns-clause-bytes c =
    let name = c.in-Some.name in
    stem_is c.args.path.now name.start _ c.stem_end.result
    (name_at c.args.path.now name.start name.length c.in-Some.ensures.bytes)
    c.stem_end.ensures.in_range c.stem_end.ensures.value
