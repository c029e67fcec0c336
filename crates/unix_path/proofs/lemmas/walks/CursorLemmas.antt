-- What calls on a cursor, and chains of iterators on it, yield: the components of the cursor in
-- order, or in reverse order after `rev`.
use Rattle.std.proofs.Common.{ap, ◌∙◌, ◌∷◌, [], length, None, reverse, ◌≤◌}
use Rattle.std.proofs.Common.{◌≡◌, sym, arith}
use Rattle.std.specs.Iterator.Adapters.{rev_source, rev_steps}
use Rattle.std.specs.declared.iter.Rev.{Rev}
use Rattle.std.proofs.lemmas.List.{reverse-append}
use Rattle.std.proofs.lemmas.Iterator.{YieldsList}
use Rattle.std.proofs.lemmas.Iterator.Consumers.{YieldsList-from_shown}
use Rattle.std.proofs.lemmas.Grind.{common_steps}
use Rattle.unix_path.proofs.lemmas.parts.PartLemmas.{rest-nil, values-nil}
use Rattle.unix_path.proofs.lemmas.steps.SpanLemmas.{rest-ended}
use Rattle.unix_path.specs.Rest.{rest}
use Rattle.unix_path.specs.Views.{value_of}
use Rattle.unix_path.specs.Cursor.{cursor_rest, cursor_source, cursor_values, iter_bytes}
use Rattle.unix_path.specs.Cursor.{GivesFirstPart, GivesLastPart, GivesLastName, name_bytes}
use Rattle.unix_path.specs.declared.cursor.walk.Components.{Components}
use Rattle.unix_path.specs.declared.cursor.iter.Iter.{Iter}
use Rattle.unix_path.specs.Steps.{IsWalk}

-- the rest of the walk c is no longer than the source of c
pub length-cursor_rest : (c : Components) → length (cursor_rest c) ≤ length (cursor_source c).now
unfolding cursor_rest
length-cursor_rest c = grind (arith, common_steps)

-- if r is the rest of a walk, r has no trailing filler: `rest r 0 0` is r
pub cursor_rest-whole : (c : Components) → cursor_rest c ≡ rest (cursor_rest c) 0 0
unfolding cursor_rest IsWalk
cursor_rest-whole c = sym (rest-ended (cursor_rest c) c.fields.ends)

-- if the rest of the cursor c is empty, `next` returns `None`, and leaves c unchanged
pub GivesFirst-none : (c : Components) → cursor_rest c ≡ [] → GivesFirstPart c None c
GivesFirst-none c none = grind (arith, values-nil, rest-nil)

-- if the rest of the cursor c is empty, `next_back` returns `None`, and leaves c unchanged
pub GivesLast-none : (c : Components) → cursor_rest c ≡ [] → GivesLastPart c None c
GivesLast-none c none = grind (arith, values-nil, rest-nil)

-- a cursor yields the components that remain in it, in order
pub Components-yields : (s : Components) → YieldsList GivesFirstPart value_of s (cursor_values s)
Components-yields s =
    YieldsList-from_shown GivesFirstPart value_of cursor_values (λ s t h. ap length h.item_is.0)
    (λ s x t h. h.item_is) s

-- after `rev`, an `Iter` yields the bytes of each component that remains in it, in reverse order
Rev-yields : (s : Rev Iter)
    → YieldsList (rev_steps GivesLastName) name_bytes s (reverse (iter_bytes (rev_source s)))
Rev-yields s =
    YieldsList-from_shown (rev_steps GivesLastName) name_bytes
    (λ s. reverse (iter_bytes (rev_source s)))
    (λ s t h. ap (λ vs. length (reverse vs)) h.item_is.0)
    (λ s x t h. ap reverse h.item_is
    ∙ reverse-append (iter_bytes (rev_source t)) (name_bytes x ∷ [])) s

-- if s is the `rev` of c, s yields the bytes of each component that remains in c, in reverse order
pub Iter-yields_back : {s : Rev Iter} {c : Iter} → rev_source s ≡ c
    → YieldsList (rev_steps GivesLastName) name_bytes s (reverse (iter_bytes c))
Iter-yields_back {s} e = grind (arith, Rev-yields)
