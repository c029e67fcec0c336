-- `is_under base v` is true if and only if the components v start with the components base.
use Rattle.std.proofs.Common.{◌≡◌, ◌++◌, ◌∙◌, true, false, List, ap, drop, length}
use Rattle.std.proofs.Common.{take-append-drop, arith}
use Rattle.std.proofs.Math.Seq.{take-append_seam}
use Rattle.std.proofs.lemmas.Bool.{false_from_ne_true}
use Rattle.std.proofs.lemmas.Cmp.{tied_itself}
use Rattle.unix_bytes.specs.IsPrefixOf.{IsPrefixOf}
use Rattle.unix_path.specs.OrderLaws.{values_cmp-total, is_eq-values_cmp}
use Rattle.unix_path.specs.Parts.{Value}
use Rattle.path_runs.specs.Rows.{is_under}

-- if `is_under base v` is true, v starts with base
pub begins_from_under : (base v : List Value) → is_under base v ≡ true → IsPrefixOf base v
begins_from_under base v is =
    let n = length base in
    (drop n v, ap (λ t. t ++ drop n v) (is_eq-values_cmp base _ is) ∙ take-append-drop n v)

-- if v starts with base, `is_under base v` is true
pub under_from_begins : (base v : List Value) → IsPrefixOf base v → is_under base v ≡ true
under_from_begins base v begins =
    cc (take-append_seam base begins.0, tied_itself values_cmp-total base)

-- if v doesn't start with base, `is_under base v` is false
pub not_under : (base v : List Value) → (IsPrefixOf base v → ⊥) → is_under base v ≡ false
not_under base v apart = grind (arith, false_from_ne_true, begins_from_under)
