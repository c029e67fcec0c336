-- An insertion or a removal doesn't change the values at other keys.
use Rattle.std.proofs.Common.{◌≡◌, ◌∷◌, [], ◌∙◌, List, Bool, true, false, Option, Some, cond, refl}
use Rattle.std.proofs.Common.{Ordering, Less, Equal, Greater, ap, sym}
use Rattle.std.proofs.lemmas.Bool.{false_from_ne_true}
use Rattle.std.specs.BTreeMap.{insert_entry, is_at}
use Rattle.std.specs.Map.{lookup, remove_entry}
use Rattle.std.specs.Ordering.{is_eq, match_ordering}
use Rattle.path_runs.specs.Rows.{SameElsewhere}

-- keys in an order in which only keys that are the same compare as equal
module _ {K V : Type 0} (cmp : K → K → Ordering)
    (exact : (k l : K) → is_eq (cmp k l) ≡ true → k ≡ l) where
  -- the value at the key
  abbrev at : K → List (K × V) → Option V
  at k entries = lookup (is_at (cmp k)) entries

  module _ (k l : K) (differ : k ≡ l → ⊥) where
    -- a new first entry whose key is l doesn't change the value at k, which differs from l
    at-other : (key : K) (x : V) (entries : List (K × V)) → l ≡ key
        → at k ((key, x) ∷ entries) ≡ at k entries
    at-other key x entries same =
        ap (λ b. cond b (Some x) (at k entries))
        (false_from_ne_true (is_eq (cmp k key)) (λ is. differ (exact k key is ∙ sym same)))

    -- if inserting x at l into `entries` doesn't change the value at k, then neither does inserting
    -- x at l into `e ∷ entries`, whether the new entry comes before e (o is `Less`), replaces its
    -- value (`Equal`), or comes after it (`Greater`)
    at-match_ordering : (x : V) (e : K × V) (entries : List (K × V)) (o : Ordering)
        → cmp l e.0 ≡ o → at k (insert_entry cmp entries l x) ≡ at k entries
        → at k (match_ordering o ((l, x) ∷ e ∷ entries) ((e.0, x) ∷ entries)
        (e ∷ insert_entry cmp entries l x)) ≡ at k (e ∷ entries)
    at-match_ordering x e entries Less is rest = at-other l x (e ∷ entries) refl
    at-match_ordering x e entries Equal is rest =
        let same = exact l e.0 (ap is_eq is) in
        at-other e.0 x entries same ∙ sym (at-other e.0 e.1 entries same)
    at-match_ordering x e entries Greater is rest =
        ap (λ found. cond (is_eq (cmp k e.0)) (Some e.1) found) rest

    -- inserting x at l doesn't change the value at k, which differs from l
    at-insert_entry : (x : V) (entries : List (K × V))
        → at k (insert_entry cmp entries l x) ≡ at k entries
    at-insert_entry x [] = at-other l x [] refl
    at-insert_entry x (e ∷ entries) =
        at-match_ordering x e entries (cmp l e.0) refl (at-insert_entry x entries)

    -- if removing the key l from `entries` doesn't change the value at k, then neither does
    -- removing it from `e ∷ entries`, whether l is the key of e (b is true) or not
    at-cond : (e : K × V) (entries : List (K × V)) (b : Bool) → is_eq (cmp l e.0) ≡ b
        → at k (remove_entry (is_at (cmp l)) entries) ≡ at k entries
        → at k (cond b entries (e ∷ remove_entry (is_at (cmp l)) entries)) ≡ at k (e ∷ entries)
    at-cond e entries true is rest = sym (at-other e.0 e.1 entries (exact l e.0 is))
    at-cond e entries false is rest =
        ap (λ found. cond (is_eq (cmp k e.0)) (Some e.1) found) rest

    -- removing the key l doesn't change the value at k, which differs from l
    at-remove_entry : (entries : List (K × V))
        → at k (remove_entry (is_at (cmp l)) entries) ≡ at k entries
    at-remove_entry [] = refl
    at-remove_entry (e ∷ entries) =
        at-cond e entries (is_eq (cmp l e.0)) refl (at-remove_entry entries)

  -- if `new` is `old` with x inserted at k, `new` and `old` have the same value, or none, at each
  -- key except k
  pub elsewhere-insert_entry : (k : K) (x : V) (old new : List (K × V))
      → new ≡ insert_entry cmp old k x → SameElsewhere cmp k old new
  elsewhere-insert_entry k x old new is other differ =
      ap (at other) is ∙ at-insert_entry other k differ x old

  -- if `new` is `old` without the key k, `new` and `old` have the same value, or none, at each key
  -- except k
  pub elsewhere-remove_entry : (k : K) (old new : List (K × V))
      → new ≡ remove_entry (is_at (cmp k)) old → SameElsewhere cmp k old new
  elsewhere-remove_entry k old new is other differ =
      ap (at other) is ∙ at-remove_entry other k differ old
