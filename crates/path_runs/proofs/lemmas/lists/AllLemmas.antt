-- Predicates that hold of all items of a list.
use Rattle.std.proofs.Common.{List, [], ◌∷◌, ◌++◌}
use Rattle.std.specs.List.{AllByRecursion}

-- if P holds of all items of xs followed by ys, it holds of all items of ys
pub AllByRecursion-end : {X : Type 0} (P : X → Type 0) (xs ys : List X)
    → AllByRecursion P (xs ++ ys) → AllByRecursion P ys
AllByRecursion-end P [] ys h = h
AllByRecursion-end P (x ∷ xs) ys h = AllByRecursion-end P xs ys h.1
