-- What calls at both ends of a walk, mixed in any order, return and leave.
use Rattle.std.proofs.Common.{◌≡◌, ℕ, ◌+◌, List, [], ◌∷◌, ◌++◌, length, map, reverse, Option, None}
use Rattle.std.proofs.Common.{Some, sym, ap, ap₂, ◌∙◌, arith, append-nil, append_assoc}
use Rattle.std.proofs.Common.{length-append}
use Rattle.std.proofs.lemmas.List.{map-append, reverse-append}
use Rattle.std.specs.Iterator.{YieldsFirstBy, YieldsLastBy}
use Rattle.std.specs.Option.{option_to_list}
use Rattle.unix_path.specs.Cursor.{cursor_rest, cursor_values}
use Rattle.unix_path.specs.Rest.{rest}
use Rattle.unix_path.specs.declared.cursor.walk.Components.{Components}
use Rattle.unix_path.proofs.lemmas.parts.PartLemmas.{values-none}
use Rattle.unix_path.proofs.lemmas.rests.RestLemmas.{rest-rest}
use Rattle.unix_path.specs.CallsMixed.{GivesMixed}

module _ {S A V : Type 0} (shows : A → V) (pending : S → List V) where
  -- the item that a call of `next` returned, if any, and then the items that remain after the call,
  -- are the items that remained before
  first_taken : (s t : S) (item : Option A) → YieldsFirstBy shows pending s item t
      → map shows (option_to_list item) ++ pending t ≡ pending s
  first_taken s t None h = h.1 ∙ sym h.0
  first_taken s t (Some x) h = sym h

  -- the items that remain after a call of `next_back`, and then the item that the call returned, if
  -- any, are the items that remained before
  last_taken : (s t : S) (item : Option A) → YieldsLastBy shows pending s item t
      → pending t ++ reverse (map shows (option_to_list item)) ≡ pending s
  last_taken s t None h = append-nil (pending t) ∙ h.1 ∙ sym h.0
  last_taken s t (Some x) h = sym h

module _ {S A V : Type 0} (shows : A → V) (pending : S → List V)
    (next next_back : S → Option A → S → Type 0)
    (first : (s t : S) (item : Option A) → next s item t → YieldsFirstBy shows pending s item t)
    (last : (s t : S) (item : Option A) → next_back s item t → YieldsLastBy shows pending s item t)
  where
    -- however the calls are mixed, the items that remained before are those that `next` returned,
    -- then those that still remain, then those that `next_back` returned, in reverse
    pub ends_meet : (old new : S) (front at_back : List A)
        → GivesMixed next next_back old front at_back new
        → map shows front ++ pending new ++ reverse (map shows at_back) ≡ pending old
    ends_meet old new front at_back GivesMixed.start = append-nil (pending old)
    ends_meet old new front at_back (GivesMixed.front {xs} {ys} {s} {t} item calls call) =
        let back = reverse (map shows ys) in
        ap (λ f. f ++ pending t ++ back) (map-append shows xs (option_to_list item))
        ∙ ap (λ l. l ++ back)
        (append_assoc (map shows xs) (map shows (option_to_list item)) (pending t)
        ∙ ap (λ l. map shows xs ++ l) (first_taken shows pending s t item (first s t item call)))
        ∙ ends_meet old s xs ys calls
    ends_meet old new front at_back (GivesMixed.at_back {xs} {ys} {s} {t} item calls call) =
        let begun = map shows xs in
        let back = reverse (map shows ys) in
        let given = reverse (map shows (option_to_list item)) in
        ap (λ b. begun ++ pending t ++ reverse b) (map-append shows ys (option_to_list item))
        ∙ ap (λ b. begun ++ pending t ++ b)
        (reverse-append (map shows ys) (map shows (option_to_list item)))
        ∙ sym (append_assoc (begun ++ pending t) given back)
        ∙ ap (λ l. l ++ back) (append_assoc begun (pending t) given
        ∙ ap (λ l. begun ++ l) (last_taken shows pending s t item (last s t item call)))
        ∙ ends_meet old s xs ys calls

-- each item that a call returned removes one component, and no other component is removed
module _ {S A V : Type 0} (shows : A → V) (pending : S → List V) (bytes : S → List ℕ)
    (next next_back : S → Option A → S → Type 0)
    (first : (s t : S) (item : Option A) → next s item t → YieldsFirstBy shows pending s item t)
    (last : (s t : S) (item : Option A) → next_back s item t → YieldsLastBy shows pending s item t)
    (first_rest : (s t : S) (item : Option A) → next s item t → bytes t ≡ rest (bytes s) 1 0)
    (last_rest : (s t : S) (item : Option A) → next_back s item t → bytes t ≡ rest (bytes s) 0 1)
    (whole : (s : S) → bytes s ≡ rest (bytes s) 0 0)
    (none : (s : S) → pending s ≡ [] → bytes s ≡ [])
  where
    -- if s is left with u without `length xs` leading and m trailing components, a call of `next`
    -- on s removes one more leading component if it returns an item, and otherwise none
    after_first : (u : List ℕ) (m : ℕ) (xs : List A) (s t : S) (item : Option A)
        → bytes s ≡ rest u (length xs) m → next s item t
        → bytes t ≡ rest u (length (xs ++ option_to_list item)) m
    after_first u m xs s t None so_far call =
        let nothing = first s t None call in
        rw (append-nil xs) (none t nothing.1 ∙ sym (none s nothing.0) ∙ so_far)
    after_first u m xs s t (Some x) so_far call =
        first_rest s t (Some x) call ∙ ap (λ b. rest b 1 0) so_far ∙ rest-rest u (length xs) m 1 0
        ∙ ap₂ (rest u) (sym (length-append xs (x ∷ [])))
        (let zero : m + 0 ≡ m = omega arith in zero)

    -- if s is left with u without k leading and `length ys` trailing components, a call of
    -- `next_back` on s removes one more trailing component if it returns an item, and otherwise
    -- none
    after_last : (u : List ℕ) (k : ℕ) (ys : List A) (s t : S) (item : Option A)
        → bytes s ≡ rest u k (length ys) → next_back s item t
        → bytes t ≡ rest u k (length (ys ++ option_to_list item))
    after_last u k ys s t None so_far call =
        let nothing = last s t None call in
        rw (append-nil ys) (none t nothing.1 ∙ sym (none s nothing.0) ∙ so_far)
    after_last u k ys s t (Some x) so_far call =
        last_rest s t (Some x) call ∙ ap (λ b. rest b 0 1) so_far ∙ rest-rest u k (length ys) 0 1
        ∙ ap₂ (rest u) (let zero : k + 0 ≡ k = omega arith in zero)
        (sym (length-append ys (x ∷ [])))

    -- the bytes that remain are those that remained before, without one leading component for each
    -- item that `next` returned, and without one trailing component for each item that `next_back`
    -- returned
    pub rest_between : (old new : S) (front at_back : List A)
        → GivesMixed next next_back old front at_back new
        → bytes new ≡ rest (bytes old) (length front) (length at_back)
    rest_between old new front at_back GivesMixed.start = whole old
    rest_between old new front at_back (GivesMixed.front {xs} {ys} {s} {t} item calls call) =
        after_first (bytes old) (length ys) xs s t item (rest_between old s xs ys calls) call
    rest_between old new front at_back (GivesMixed.at_back {xs} {ys} {s} {t} item calls call) =
        after_last (bytes old) (length xs) ys s t item (rest_between old s xs ys calls) call

-- if no components remain in the walk c, the rest of c has no bytes
pub none-cursor_rest : (c : Components) → cursor_values c ≡ [] → cursor_rest c ≡ []
none-cursor_rest c none = values-none (cursor_rest c) none
