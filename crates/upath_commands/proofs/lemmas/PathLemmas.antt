-- Paths that are answered one after the other, if they are selected.
use Rattle.std.proofs.Common.{◌≡◌, ℕ, ◌+◌, ◌<◌, ◌≤◌, List, [], ◌∷◌, ◌++◌, length, drop, get_or}
use Rattle.std.proofs.Common.{refl, sym, ap, subst, ◌∙◌, append_assoc, append-nil}
use Rattle.std.proofs.lemmas.List.{at_drop_all, at_drop_more}
use Rattle.unix_path.specs.declared.path.Path.{Path}
use Rattle.upath_commands.specs.Records.{paths_of}
use Rattle.upath_commands.specs.Replies.{Answered, State, Stopped}
use Rattle.upath_commands.specs.Selections.{selected, taken}
use Rattle.upath_commands.specs.Invocations.{TaskValue}
use Rattle.upath_commands.specs.declared.selection.Selection.{Selection}
use Rattle.upath_commands.proofs.lemmas.ReplyLemmas.{Answered-nil, Answered-then, Stopped-as}
use Rattle.upath_commands.proofs.lemmas.SelectionLemmas.{selected-nil, selected-splits}

-- of `all` paths those before `left` were answered, as far as they were selected
pub record Passed (task : TaskValue) (first selection : Selection) (all left : List (List ℕ))
    (old new : State) : Type 0 where
  pub done : List (List ℕ)
  pub answered : Answered task old new done
  pub rest : (more : List (List ℕ))
      → done ++ selected selection (left ++ more) ≡ selected first (all ++ more)

pub Passed-init : (task : TaskValue) (first : Selection) (all : List (List ℕ)) (s : State)
    → Passed task first first all all s s
Passed-init task first all s = record {
  done = [];
  answered = Answered-nil task s;
  rest = λ more. refl;
}

-- the next of these paths
pub Passed-at : (task : TaskValue) (first selection : Selection) (all : List (List ℕ))
    (paths : List Path) (index : ℕ) (d : Path) (old new : State) → index < length paths
    → Passed task first selection all (paths_of (drop index paths)) old new
    → Passed task first selection all
    ((get_or paths index d).bytes.now ∷ paths_of (drop (index + 1) paths)) old new
Passed-at task first selection all paths index d old new l h =
    subst (λ left. Passed task first selection all left old new)
    (at_drop_more paths_of paths index d l) h

module _ (task : TaskValue) (first selection : Selection) (all : List (List ℕ))
    (old new : State) where
  -- the next path was answered, if it was selected
  pub Passed-next : (other : Selection) (path : List ℕ) (left : List (List ℕ)) (after : State)
      → Passed task first selection all (path ∷ left) old new
      → ((paths : List (List ℕ)) → selected selection (path ∷ paths)
      ≡ taken selection path ++ selected other paths)
      → Answered task new after (taken selection path)
      → Passed task first other all left old after
  Passed-next other path left after h takes k = record {
    done = h.done ++ taken selection path;
    answered = Answered-then task old new after h.done (taken selection path) h.answered k;
    rest = λ more. append_assoc h.done (taken selection path) (selected other (left ++ more))
        ∙ ap (λ l. h.done ++ l) (sym (takes (left ++ more))) ∙ h.rest more;
  }

  -- the reply to the next path failed
  pub Passed-fail : (path : List ℕ) (left : List (List ℕ)) (after : State)
      → Passed task first selection all (path ∷ left) old new
      → Stopped task new after (taken selection path)
      → Stopped task old after (selected first all)
  Passed-fail path left after h k =
      let (more, e) = selected-splits selection path left in
      Stopped-as task old new after h.done (taken selection path) more (selected first all)
      h.answered k
      (ap (λ l. h.done ++ l) (sym (e))
      ∙ ap (λ l. h.done ++ selected selection l) (sym (append-nil (path ∷ left)))
      ∙ h.rest [] ∙ ap (selected first) (append-nil all))

  -- no path is left
  pub Passed-end : Passed task first selection all [] old new
      → Answered task old new (selected first all)
  Passed-end h =
      subst (Answered task old new)
      (sym (append-nil h.done) ∙ ap (λ l. h.done ++ l) (sym (selected-nil selection))
      ∙ h.rest [] ∙ ap (selected first) (append-nil all)) h.answered

  -- the selection from later paths
  pub Passed-rest : Passed task first selection all [] old new → (more : List (List ℕ))
      → selected first (all ++ more) ≡ selected first all ++ selected selection more
  Passed-rest h more =
      sym (h.rest more)
      ∙ ap (λ l. l ++ selected selection more)
      (sym (append-nil h.done) ∙ ap (λ l. h.done ++ l) (sym (selected-nil selection))
      ∙ h.rest [] ∙ ap (selected first) (append-nil all))

-- no path is left
pub Passed-done : (task : TaskValue) (first selection : Selection) (all : List (List ℕ))
    (paths : List Path) (index : ℕ) (old new : State) → length paths ≤ index
    → Passed task first selection all (paths_of (drop index paths)) old new
    → Passed task first selection all [] old new
Passed-done task first selection all paths index old new l h =
    subst (λ left. Passed task first selection all left old new)
    (at_drop_all paths_of paths index l) h
