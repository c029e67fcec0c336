-- Which of the paths are selected.
use Rattle.std.proofs.Common.{◌≡◌, ℕ, Bool, true, false, not, ◌&&◌, List, [], ◌∷◌, ◌++◌, ap, refl}
use Rattle.std.proofs.Common.{Some, sym, subst, ◌∙◌, cond, if◌then◌else◌, is_some}
use Rattle.std.proofs.Common.{true≢false}
use Rattle.std.specs.List.{filter}
use Rattle.unix_path.specs.Order.{values_cmp}
use Rattle.unix_path.specs.OrderLaws.{is_eq-values_cmp}
use Rattle.unix_path.specs.Parts.{Value, values}
use Rattle.path_runs.specs.Rows.{SameElsewhere, value_at}
use Rattle.path_table.specs.Table.{table_of}
use Rattle.path_table.specs.declared.table.PathTable.{PathTable}
use Rattle.upath_commands.specs.Selections.{is_new, selected, taken}
use Rattle.upath_commands.specs.Sorting.{firsts_of, same_path}
use Rattle.upath_commands.specs.declared.selection.Selection.{Selection}
use Rattle.upath_commands.specs.declared.selection.Selection.TheVariants.{All, Firsts}
use Rattle.upath_commands.proofs.lemmas.RecordLemmas.{by_test}
use Rattle.unix_path.proofs.lemmas.order.EqualValueLemmas.{values_cmp-same}

-- of no path none is selected
pub selected-nil : (selection : Selection) → selected selection [] ≡ []
unfolding firsts_of
selected-nil All = refl
selected-nil (Firsts table) = refl

cond_cons : {X : Type 0} (b : Bool) (x : X) (xs : List X)
    → cond b (x ∷ xs) xs ≡ (if b then x ∷ [] else []) ++ xs
cond_cons true x xs = refl
cond_cons false x xs = refl

-- the selected paths begin with the one that comes next, if it is selected
pub selected-splits : (selection : Selection) (p : List ℕ) (paths : List (List ℕ))
    → (more : List (List ℕ)) × (selected selection (p ∷ paths) ≡ taken selection p ++ more)
unfolding firsts_of
selected-splits All p paths = (paths, refl)
selected-splits (Firsts table) p paths = (
  filter (is_new (table_of table)) (filter (λ q. not (same_path p q)) (firsts_of paths)),
  cond_cons (is_new (table_of table) p) p _,
)

module _ {X : Type 0} (first second both : X → Bool)
    (h : (x : X) → (first x && second x) ≡ both x) where
  kept_by : (x : X) (xs : List X) (a b : Bool) → (a && b) ≡ both x
      → filter second (filter first xs) ≡ filter both xs → second x ≡ b
      → filter second (cond a (x ∷ filter first xs) (filter first xs))
      ≡ cond (both x) (x ∷ filter both xs) (filter both xs)
  kept_by x xs false b e d s = rw (sym e) d
  kept_by x xs true b e d s =
      rw s (rw d (ap (λ b. cond b (x ∷ filter both xs) (filter both xs)) e))

  -- two tests, one after the other
  pub filter_twice : (xs : List X) → filter second (filter first xs) ≡ filter both xs
  filter_twice [] = refl
  filter_twice (x ∷ xs) =
      kept_by x xs (first x) (second x) (h x) (filter_twice xs) refl

filter_all : {X : Type 0} (test : X → Bool) → ((x : X) → test x ≡ true) → (xs : List X)
    → filter test xs ≡ xs
filter_all test h [] = refl
filter_all test h (x ∷ xs) = rw (h x) (ap (λ l. x ∷ l) (filter_all test h xs))

pub filter-append : {X : Type 0} (test : X → Bool) (xs ys : List X)
    → filter test (xs ++ ys) ≡ filter test xs ++ filter test ys
filter-append test [] ys = refl
filter-append test (x ∷ xs) ys =
    by_test (test x)
    (λ e. rw e (ap (λ l. x ∷ l) (filter-append test xs ys)))
    (λ e. rw e (filter-append test xs ys))

-- the first of equal paths begin with those among the first paths
firsts-prefix : (xs ys : List (List ℕ))
    → (more : List (List ℕ)) × (firsts_of (xs ++ ys) ≡ firsts_of xs ++ more)
unfolding firsts_of
firsts-prefix [] ys = (firsts_of ys, refl)
firsts-prefix (x ∷ xs) ys =
    let (more, e) = firsts-prefix xs ys in
    let other : List ℕ → Bool = λ q. not (same_path x q) in (
      filter other more,
      ap (λ l. x ∷ l) (ap (filter other) e ∙ filter-append other (firsts_of xs) more),
    )

-- with a table without rows the first of equal paths are selected
pub selected_firsts : {A : Type 0} (rows : List (List Value × A)) → rows ≡ []
    → (paths : List (List ℕ)) → filter (is_new rows) (firsts_of paths) ≡ firsts_of paths
selected_firsts {A = A} rows e paths =
    rw e (filter_all (is_new {V = A} []) (λ p. refl) (firsts_of paths))

module _ {A : Type 0} (p : List ℕ) (old new : List (List Value × A)) (x : A)
    (found : value_at (values p) new ≡ Some x)
    (others : SameElsewhere values_cmp (values p) old new) where
  -- a path is new if it was new and isn't equal to p
  still_new : (q : List ℕ) → (not (same_path p q) && is_new old q) ≡ is_new new q
  still_new q =
      by_test (same_path p q)
      (λ e. rw e (ap (λ found. not (is_some found))
      (sym (subst (λ v. value_at v new ≡ Some x)
      (is_eq-values_cmp (values p) (values q) e) found))))
      (λ e. rw e (ap (λ found. not (is_some found))
      (sym (others (values q) (λ d. true≢false
      (sym (values_cmp-same (values p) (values q) (sym d)) ∙ e))))))

  -- after p came, the paths that are equal to p aren't selected
  pub firsts_after : (paths : List (List ℕ)) → filter (is_new old) (firsts_of (p ∷ paths))
      ≡ (if is_new old p then p ∷ [] else []) ++ filter (is_new new) (firsts_of paths)
  unfolding firsts_of
  firsts_after paths =
      cond_cons (is_new old p) p _
      ∙ ap (λ l. (if is_new old p then p ∷ [] else []) ++ l)
      (filter_twice (λ q. not (same_path p q)) (is_new old) (is_new new) still_new
      (firsts_of paths))

-- the path that comes next, if the first of equal paths are selected, and the table got it
pub take_first : (selection : Selection) (table : PathTable (Unit {0})) (q p : List ℕ)
    (new : List (List Value × Unit {0})) (x : Unit {0}) → selection ≡ Firsts table → q ≡ p
    → value_at (values q) new ≡ Some x
    → SameElsewhere values_cmp (values q) (table_of table) new
    → (paths : List (List ℕ)) → selected selection (p ∷ paths)
    ≡ taken selection p ++ filter (is_new new) (firsts_of paths)
take_first selection table q p new x e d found others paths =
    rw e (firsts_after p (table_of table) new x
    (subst (λ p. value_at (values p) new ≡ Some x) d found)
    (subst (λ p. SameElsewhere values_cmp (values p) (table_of table) new) d others) paths)

-- the selected paths begin with those among the first
pub selected-prefix : (selection : Selection) (xs ys : List (List ℕ))
    → (more : List (List ℕ)) × (selected selection (xs ++ ys) ≡ selected selection xs ++ more)
selected-prefix All xs ys = (ys, refl)
selected-prefix (Firsts table) xs ys =
    let (more, e) = firsts-prefix xs ys in (
      filter (is_new (table_of table)) more,
      ap (filter (is_new (table_of table))) e
          ∙ filter-append (is_new (table_of table)) (firsts_of xs) more,
    )
