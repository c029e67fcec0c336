-- A key that begins with the key of a base, which is replaced by the key of another base.
use Rattle.std.proofs.Common.{◌≡◌, ◌∙◌, ◌<◌, ℕ, true, false, List, [], ◌∷◌, ◌++◌, ap, arith}
use Rattle.std.proofs.Common.{drop, length, refl, subst, sym}
use Rattle.std.proofs.lemmas.List.{drop_at}
use Rattle.unix_path.specs.Parts.{Value}
use Rattle.unix_path.specs.Prefixes.{IsPrefixOf}
use Rattle.path_keys.proofs.lemmas.values.Fitting.{AllFit}
use Rattle.path_keys.specs.Keys.{key_of}
use Rattle.path_keys.proofs.lemmas.reading.FitLemmas.{AllFit-any, AllFit-append, AllFit-later}
use Rattle.path_keys.proofs.lemmas.values.KeyLemmas.{key_of-append, key_of-nil}
use Rattle.path_keys.specs.KeyValues.{is_own, key_values}
use Rattle.path_tree.proofs.lemmas.keys.ChildKeyLemmas.{fit-own, key_of-own, own-fit}
use Rattle.path_tree.proofs.lemmas.keys.UnderLemmas.{values_begin}

module _ (key from to : List ℕ) (own : is_own key ≡ true) (from_own : is_own from ≡ true)
    (to_own : is_own to ≡ true) (some : 0 < length from) (begins : IsPrefixOf from key) where
  -- the components of the key after those of `from`, which may follow other components
  pub record Follows : Type 0 where
    pub ws : List Value
    pub is : key_values from ++ ws ≡ key_values key
    pub fit : AllFit false ws

  -- if the components of the key are those of `from`, of which there is at least one, and then ws,
  -- then ws may follow other components
  follows-by : (fs ws : List Value) → key_values from ≡ fs → fs ++ ws ≡ key_values key
      → AllFit false ws
  follows-by [] ws none is =
      let empty = ap length (key_of-own from from_own ∙ ap key_of none ∙ key_of-nil) in
      absurd (omega (arith, empty))
  follows-by (f ∷ fs) ws same is =
      AllFit-later fs ws (subst (AllFit true) (sym is) (fit-own key own)).1

  -- the components of the key start with those of `from`, and the components after them may follow
  -- other components
  pub follows : Follows
  follows =
      let under = values_begin from key from_own own begins in
      record {
        ws = under.0;
        is = under.1;
        fit = follows-by (key_values from) under.0 refl under.1;
      }

  -- the bytes of the key after `from` are the key of the components that follow those of `from`
  rest_is : drop (length from) key ≡ key_of follows.ws
  rest_is = ap (drop (length from)) (key_of-own key own ∙ ap key_of (sym follows.is)
      ∙ key_of-append (key_values from) follows.ws
      ∙ ap (λ k. k ++ key_of follows.ws) (sym (key_of-own from from_own)))
      ∙ drop_at from (key_of follows.ws) (length from) refl

  -- `to` and the bytes of the key after `from` are the key of the components of `to` and those that
  -- follow the components of `from` in the key
  new_is : to ++ drop (length from) key ≡ key_of (key_values to ++ follows.ws)
  new_is = grind (arith, rest_is, follows, key_of-own, key_of-append)

  -- the components of `to`, and those that follow the components of `from` in the key, may be all
  -- components of a path
  new_fit : AllFit true (key_values to ++ follows.ws)
  new_fit = AllFit-append true (key_values to) follows.ws (fit-own to to_own)
      (AllFit-any _ follows.ws follows.fit)

  -- `to` and the bytes of the key after `from` are the key of a path
  pub moved_own : is_own (to ++ drop (length from) key) ≡ true
  moved_own = ap is_own new_is ∙ own-fit (key_values to ++ follows.ws) new_fit
