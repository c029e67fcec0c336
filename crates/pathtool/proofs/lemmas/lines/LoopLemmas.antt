-- Steps of a loop over an iterator that yields a list. Each step takes the next item of the list.
use Rattle.std.proofs.Common.{◌≡◌, ◌<◌, List, length, get_or, Option, Some, None, refl}
use Rattle.std.specs.Iterator.{Yields}
use Rattle.std.proofs.lemmas.Iterator.{YieldsList}
use Rattle.std.proofs.lemmas.Iterator.Consumers.{YieldsList-turn, YieldsList-end}

-- after the items xs of the list `all`, v maps x to the next item of `all`; `None` means that xs
-- are as many items as `all` has
abbrev pub IsStep : {A B : Type 0} → (A → B) → List B → List A → Option A → Type 0
IsStep v all xs (Some x) = (length xs < length all) × (v x ≡ get_or all (length xs) (v x))
IsStep v all xs None = length xs ≡ length all

-- if the iterator s yields the list `all`, and has returned the items xs, its next result r is the
-- next item of `all`, or `None` after the last item
pub step_of : {S A B : Type 0} {steps : S → Option A → S → Type 0} {v : A → B} {s : S}
    {all : List B} (xs : List A) (t : S) → Yields steps s xs t → (r : Option A) (u : S)
    → steps t r u → YieldsList steps v s all → IsStep v all xs r
step_of xs t y (Some x) u p road = YieldsList-turn road xs t y (Some x) u x refl p
step_of xs t y None u p road = (YieldsList-end road xs t y None u refl p).1
