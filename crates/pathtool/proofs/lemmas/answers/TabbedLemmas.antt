-- Lists of items with tabs between them.
use Rattle.std.proofs.Common.{◌≡◌, ℕ, Bool, true, false, List, [], ◌∷◌, ◌++◌, length, map, Option}
use Rattle.std.proofs.Common.{Some}
use Rattle.std.proofs.Common.{Result, Ok, Err, OnOk}
use Rattle.std.proofs.Common.{refl, sym, ap, ap₂, subst, ◌∙◌, append_assoc, if◌then◌else◌}
use Rattle.std.specs.Iterator.{Drains}
use Rattle.std.proofs.iter.Yields.{gives_Drains}
use Rattle.std.specs.Iterator.Adapters.{once_item, once_steps}
use Rattle.std.specs.Option.{option_to_list}
use Rattle.std.specs.declared.iter.Once.{Once}
use Rattle.std.proofs.lemmas.Iterator.{YieldsList}
use Rattle.std.proofs.lemmas.Iterator.Consumers.{YieldsList-from_shown}
use Rattle.unix_bytes.specs.declared.bytes.UnixStr.{UnixStr}
use Rattle.pathtool.specs.Fields.{tabs}
use Rattle.pathtool.specs.Steps.{tab}

-- the bytes of each name
abbrev pub names_bytes : List UnixStr → List (List ℕ)
names_bytes names = map (λ name. name.bytes.now) names

-- the list has no items
abbrev pub has_none : List (List ℕ) → Bool
has_none [] = true
has_none (item ∷ items) = false

-- `items` and then `item`, joined by tabs, are `items` joined by tabs and then `item`, after a tab
-- unless `items` is empty
tabs-push : (items : List (List ℕ)) (item : List ℕ)
    → tabs (items ++ item ∷ []) ≡ tabs items ++ (if has_none items then item else tab ∷ item)
tabs-push [] item = refl
tabs-push (x ∷ []) item = refl
tabs-push (x ∷ y ∷ items) item = ap (λ more. x ++ tab ∷ more) (tabs-push (y ∷ items) item)
    ∙ sym (append_assoc x (tab ∷ tabs (y ∷ items)) (tab ∷ item))

-- a list with an item added at its end isn't empty
is_not_first : (items : List (List ℕ)) (item : List ℕ) → false ≡ has_none (items ++ item ∷ [])
is_not_first [] item = refl
is_not_first (x ∷ items) item = refl

-- if `items`, joined by tabs, were appended to `old`, and then `item`, after a tab unless `items`
-- is empty, then `more`, which is `items` and then `item`, isn't empty, and `more`, joined by tabs,
-- was appended to `old`
pub adds_item : (items : List (List ℕ)) (item : List ℕ) {more : List (List ℕ)} (is_first : Bool)
    (old said new : List ℕ) → more ≡ items ++ item ∷ [] → is_first ≡ has_none items
    → said ≡ old ++ tabs items → new ≡ said ++ (if is_first then item else tab ∷ item)
    → (false ≡ has_none more) × (new ≡ old ++ tabs more)
adds_item items item is_first old said new all first so_far is = (
  is_not_first items item ∙ ap has_none (sym all),
  is ∙ ap₂ (λ said (is_first : Bool). said ++ (if is_first then item else tab ∷ item)) so_far first
      ∙ append_assoc old (tabs items) _
      ∙ ap (λ said. old ++ said) (sym (tabs-push items item) ∙ ap tabs (sym all)),
)

-- if the iterator s yields the list `all`, and a step took all names from s and appended them to
-- `old`, joined by tabs, then the step appended `all`, joined by tabs, to `old`
pub adds_list : {T E S : Type 0} (r : Result T E) (new old : List ℕ) {all : List (List ℕ)} {s : S}
    {steps : S → Option UnixStr → S → Type 0} → YieldsList steps (λ name. name.bytes.now) s all
    → OnOk r ((names : List UnixStr) × Drains steps s names
    × (new ≡ old ++ tabs (names_bytes names)))
    → OnOk r (new ≡ old ++ tabs all)
adds_list (Ok x) new old {all} {s} {steps} road (names, ran, e) =
    e ∙ ap (λ items. old ++ tabs items)
    (gives_Drains steps (λ name. name.bytes.now) names all s road.runs ran)
adds_list (Err x) new old road h = tt

-- if the `Once` iterator s has the item `name`, and `bytes` are the bytes of `name`, s yields the
-- list with the one item `bytes`
pub once_yields : {s : Once UnixStr} (name : UnixStr) {bytes : List ℕ} → once_item s ≡ Some name
    → name.bytes.now ≡ bytes → YieldsList once_steps (λ name. name.bytes.now) s (bytes ∷ [])
once_yields {s} name e same =
    let shown = λ (o : Option UnixStr). names_bytes (option_to_list o) in
    subst (YieldsList once_steps (λ name. name.bytes.now) s)
    (ap shown e ∙ ap (λ bytes. bytes ∷ []) same)
    (YieldsList-from_shown once_steps (λ name. name.bytes.now) (λ s. shown (once_item s))
    (λ s t h. ap (λ o. length (shown o)) (sym h.0))
    (λ s x t h. ap shown (sym h.0) ∙ ap (λ o. x.bytes.now ∷ shown o) (sym h.1)) s)
