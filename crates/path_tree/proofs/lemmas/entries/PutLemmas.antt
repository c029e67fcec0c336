-- Entries that are inserted one after the other.
use Rattle.std.proofs.Common.{◌≡◌, ◌∙◌, ℕ, true, List, [], ◌∷◌, ◌++◌, Some, ap, append_assoc}
use Rattle.std.proofs.Common.{arith, length, subst, sym}
use Rattle.std.proofs.lemmas.List.{map-append, map_push}
use Rattle.std.specs.BTreeMap.{insert_entry}
use Rattle.std.specs.Vec.Iter.{into_iter_items, into_iter_len, into_iter_steps}
use Rattle.std.specs.declared.vec.IntoIter.{IntoIter}
use Rattle.path_keys.specs.KeyValues.{is_own}
use Rattle.path_keys.specs.Ranges.{bytes_cmp}
use Rattle.path_tree.specs.Entries.{key_entries}
use Rattle.path_tree.specs.Many.{entries_with}
use Rattle.path_tree.proofs.lemmas.entries.ManyLemmas.{entries_with_snoc}
use Rattle.path_tree.proofs.lemmas.keys.OwnLemmas.{Key, Own, items_of, own_first, own_others}

-- `all` is the entries that were inserted into `old`, and then those that the iterator `it` still
-- yields, whose keys are keys of paths; `new` is the entries after that
pub record Puts {V Z : Type 0} (all : List (Key × V)) (old : List (List ℕ × V))
    (it : IntoIter (Key × V) Z) (new : List (List ℕ × V)) : Type 0 where
  pub done : List (Key × V)
  pub split : all ≡ done ++ into_iter_items it
  pub len : into_iter_len it ≡ length (into_iter_items it)
  pub own : Own items_of (into_iter_items it)
  pub inserted : new ≡ entries_with old (key_entries done)

module _ {V Z : Type 0} (all : List (Key × V)) (old : List (List ℕ × V)) where
  module _ (it next : IntoIter (Key × V) Z) (k : Key) (x : V)
      (steps : into_iter_steps it (Some (k, x)) next) (now : List (List ℕ × V))
      (h : Puts all old it now) where
    -- the key that the iterator yields is the key of a path
    pub puts_own : is_own k.items ≡ true
    puts_own = own_first items_of (k, x) (into_iter_items next) (subst (Own items_of) steps.0 h.own)

    -- after the insertion of the entry that the iterator yields, the others are yet to be inserted
    pub puts_more : (new : List (List ℕ × V)) → new ≡ insert_entry bytes_cmp now k.items x
        → Puts all old next new
    puts_more new is = record {
      done = h.done ++ (k, x) ∷ [];
      split = h.split ∙ ap (λ l. h.done ++ l) steps.0
          ∙ sym (append_assoc h.done ((k, x) ∷ []) (into_iter_items next));
      len = omega (arith, steps.1, h.len, ap length steps.0);
      own = own_others items_of (k, x) (into_iter_items next)
          (subst (Own items_of) steps.0 h.own);
      inserted = is ∙ ap (λ l. insert_entry bytes_cmp l k.items x) h.inserted
          ∙ sym (entries_with_snoc old (key_entries h.done) (k.items, x))
          ∙ ap (entries_with old) (sym (map_push (λ e. (e.0.items, e.1)) h.done (k, x)));
    }

  -- the entries that were inserted are the first of the entries `all`
  pub puts_end : (it : IntoIter (Key × V) Z) (now new : List (List ℕ × V)) → Puts all old it now
      → new ≡ now → (front : List (List ℕ × V)) × ((last : List (List ℕ × V))
      × (key_entries all ≡ front ++ last) × (new ≡ entries_with old front))
  puts_end it now new h same = (
    key_entries h.done,
    (
      key_entries (into_iter_items it),
      ap key_entries h.split ∙ map-append _ h.done (into_iter_items it),
      same ∙ h.inserted,
    ),
  )
