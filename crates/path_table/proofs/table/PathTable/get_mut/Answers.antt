use Rattle.std.proofs.Common.{◌∙◌, ap, map, refl, rules}
use Rattle.std.proofs.lemmas.Map.{keys-set_value}
use Rattle.std.specs.Map.{keys_of}
use Rattle.unix_path.specs.Buffers.{path_bytes}
use Rattle.unix_path.specs.Parts.{values}
use Rattle.path_runs.specs.TableLaws.{rows_of}
use Rattle.path_table.proofs.RowLemmas.{rows_of-set_value}
use Rattle.path_table.proofs.table.PathTable.get_mut.Goals as goal

pub returns : goal.returns
returns g c =
    let follows = c.get_mut.follows in
    let v = values (path_bytes c.args.path.now) in (
      (
        refl,
        λ x. (
          ap (rows_of path_bytes) (follows.holds x).0
              ∙ rows_of-set_value v c.args.self.now.inner.entries x,
          ap (λ es. map path_bytes (keys_of es)) (follows.holds x).0
              ∙ ap (map path_bytes) (keys-set_value _ c.args.self.now.inner.entries x),
        ),
        (
          ap (λ m. rows_of path_bytes m.entries) follows.holds-at-none,
          ap (λ m. map path_bytes (keys_of m.entries)) follows.holds-at-none,
        ),
      ),
      record { writes_back = tt; value = search rules },
    )
