-- Lists that are suffixes of other lists.
use Rattle.std.proofs.Common.{arith}
use Rattle.std.proofs.Common.{◌≡◌, List, [], ◌∷◌, ◌++◌, sym, ap, ◌∙◌, append_assoc}
use Rattle.std.proofs.lemmas.List.{append_cancel_right, same_from_push}
use Rattle.unix_path.specs.Parts.{Value}
use Rattle.unix_path.specs.Prefixes.{IsSuffixOf}

-- v and w are x and y, each followed by the same values
pub record SharesSuffix (v w x y : List Value) : Type 0 where
  pub last : List Value
  pub first : v ≡ x ++ last
  pub second : w ≡ y ++ last

-- if v and w are x and y with the same list appended, and y is a suffix of x, then w is a suffix of
-- v
pub ends_with_shared : {v w x y : List Value} → SharesSuffix v w x y → IsSuffixOf y x
    → IsSuffixOf w v
ends_with_shared {y = y} h e = grind (arith, append_assoc)

-- if v and w are x and y with the same list appended, and w is a suffix of v, then y is a suffix of
-- x
pub ends_without_shared : {v w x y : List Value} → SharesSuffix v w x y → IsSuffixOf w v
    → IsSuffixOf y x
ends_without_shared {x = x} {y = y} h e = grind (arith, append_cancel_right, append_assoc)

-- if x ends with the component p, y ends with the component q, and y is a suffix of x, then p is q
pub ends_last : {x y : List Value} {p q : Value} (t u : List Value) → x ≡ t ++ p ∷ []
    → y ≡ u ++ q ∷ [] → IsSuffixOf y x → p ≡ q
ends_last {p = p} {q = q} t u x_is y_is e =
    sym (same_from_push (e.0 ++ u) t q p (append_assoc e.0 u (q ∷ [])
    ∙ ap (λ z. e.0 ++ z) (sym y_is) ∙ e.1 ∙ x_is)).1
