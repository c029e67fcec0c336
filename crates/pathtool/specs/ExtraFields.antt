-- The extra fields of a line: those that follow its path. The clauses of `run` use none of these
-- definitions.
use Rattle.std.specs.Prelude.{ℕ, List, [], ◌∷◌}
use Rattle.pathtool.specs.Fields.{fields_of}
use Rattle.pathtool.specs.declared.fields.ExtraFields.{ExtraFields}
use Rattle.pathtool.specs.declared.fields.ExtraFields.TheVariants.{None, One, Several}

-- the extra fields, as a list
abbrev pub extra_fields : ExtraFields → List (List ℕ)
extra_fields None = []
extra_fields (One field) = field.now ∷ []
extra_fields (Several fields) = fields_of fields.now

-- the number of extra fields, or the minimum number for `Several`
abbrev pub min_count : ExtraFields → ℕ
min_count None = 0
min_count (One field) = 1
min_count (Several fields) = 2
