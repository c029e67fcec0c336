-- The entries that another tree lacks: one more entry is one of them only if that tree lacks its
-- key.
use Rattle.std.proofs.Common.{◌≡◌, ℕ, true, false, cond, List, [], ◌∷◌, ◌++◌, ◌∙◌, ap, map, not}
use Rattle.std.proofs.Common.{append_assoc}
use Rattle.std.proofs.lemmas.List.{map_push}
use Rattle.std.specs.Option.{is_some}
use Rattle.path_tree.specs.Difference.{entries_lacking}
use Rattle.path_tree.specs.Entries.{entry_at}

module _ {V W : Type 0} (other : List (List ℕ × W)) (e : List ℕ × V)
    (es : List (List ℕ × V)) where
  -- if `other` lacks the key of e, the entries of e and es that `other` lacks are e, and then those
  -- of es
  pub lacks_entry : is_some (entry_at e.0 other) ≡ false
      → entries_lacking other (e ∷ es) ≡ e ∷ entries_lacking other es
  lacks_entry is =
      let rest = entries_lacking other es in ap (λ b. cond (not b) (e ∷ rest) rest) is

  -- if `other` has the key of e, the entries of e and es that `other` lacks are those of es
  pub has_entry : is_some (entry_at e.0 other) ≡ true
      → entries_lacking other (e ∷ es) ≡ entries_lacking other es
  has_entry is = let rest = entries_lacking other es in ap (λ b. cond (not b) (e ∷ rest) rest) is

-- mapping xs with x appended, followed by ys, is mapping xs, followed by the image of x and ys
pub map_push-append : {A B : Type 0} (f : A → B) (xs : List A) (x : A) (ys : List B)
    → map f (xs ++ x ∷ []) ++ ys ≡ map f xs ++ f x ∷ ys
map_push-append f xs x ys = ap (λ l. l ++ ys) (map_push f xs x) ∙ append_assoc _ (f x ∷ []) ys

-- a list with an element x is not empty
pub some_append : {A : Type 0} (xs : List A) (x : A) (ys : List A) → xs ++ x ∷ ys ≡ [] → ⊥
some_append [] x ys none = let e = none in cc
some_append (a ∷ xs) x ys none = let e = none in cc
