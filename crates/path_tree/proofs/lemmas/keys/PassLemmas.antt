-- If all keys of a tree pass a test, so do all keys after the insertion of a key that passes it,
-- and after removals.
use Rattle.std.proofs.Common.{◌≡◌, ℕ, Bool, true, List}
use Rattle.std.proofs.Common.{Result, Ok, Err, OnOk, OnErr, Ordering, sym, subst}
use Rattle.std.proofs.lemmas.List.Elements.{All-from_recursion, recursion_from_All}
use Rattle.std.proofs.lemmas.Map.Views.{All-keys-insert_entry, All-map-remove_entry}
use Rattle.std.specs.BTreeMap.{insert_entry}
use Rattle.std.specs.List.{AllPass, filter}
use Rattle.std.specs.Map.{keys_of, remove_entry}
use Rattle.path_tree.proofs.lemmas.entries.WalkLemmas.{all_kept}

-- the bytes of each key pass the test
abbrev pub AllKeys : {K V : Type 0} → (K → List ℕ) → (List ℕ → Bool) → List (K × V) → Type 0
AllKeys bytes_of test entries = AllPass (λ k. test (bytes_of k)) (keys_of entries)

module _ {K V : Type 0} (bytes_of : K → List ℕ) (test : List ℕ → Bool) (old new : List (K × V))
    (all : AllKeys bytes_of test old) where
  -- if all old keys and the inserted key pass the test, all keys pass it after the insertion,
  -- whether it succeeded or not
  pub AllKeys-insert : {A E : Type 0} (cmp : K → K → Ordering) (key : K) (x : V)
      → test (bytes_of key) ≡ true → (r : Result A E)
      → OnOk r (new ≡ insert_entry cmp old key x) → OnErr r (new ≡ old)
      → AllKeys bytes_of test new
  AllKeys-insert cmp key x is (Ok a) ok err =
      subst (AllKeys bytes_of test) (sym ok)
      (All-keys-insert_entry cmp key x (λ k. test (bytes_of k) ≡ true) old all is)
  AllKeys-insert cmp key x is (Err e) ok err = subst (AllKeys bytes_of test) (sym err) all

  -- if all old keys pass the test, all keys pass it after a removal
  pub AllKeys-remove : (is_it : K → Bool) → new ≡ remove_entry is_it old
      → AllKeys bytes_of test new
  AllKeys-remove is_it is =
      subst (AllKeys bytes_of test) (sym is)
      (All-map-remove_entry is_it (λ e. e.0) (λ k. test (bytes_of k) ≡ true) old all)

  -- if all old keys pass the test, and a filter kept the new entries, all new keys pass the test
  pub AllKeys-filter : (keep : K × V → Bool) → new ≡ filter keep old → AllKeys bytes_of test new
  AllKeys-filter keep is =
      let P : K → Type 0 = λ k. test (bytes_of k) ≡ true in
      subst (AllKeys bytes_of test) (sym is) (All-from_recursion P _
      (all_kept (λ e. e.0) keep P old (recursion_from_All P (keys_of old) all)))
