-- The reply to one path.
use Rattle.std.proofs.Common.{◌≡◌, ℕ, Bool, true, false, ◌&&◌, ◌||◌, List, [], ◌∷◌}
use Rattle.std.proofs.Common.{sym, ap, subst, ◌∙◌, append-nil, refl}
use Rattle.upath_commands.specs.Commands.{text_for}
use Rattle.upath_commands.specs.Outputs.{Emits, EmitsPrefix, Tells}
use Rattle.upath_commands.specs.Replies.{Answered, State, Stopped}
use Rattle.upath_commands.specs.Invocations.{TaskValue}
use Rattle.upath_commands.specs.Tasks.{answers, message_of}
use Rattle.upath_commands.proofs.lemmas.OutputLemmas.{EmitsPrefix-of}

and_one : (a b : Bool) → (a && b) ≡ (a && (b && true))
and_one true true = refl
and_one true false = refl
and_one false b = refl

or_one : (a b : Bool) → (a || b) ≡ (a || (b || false))
or_one false true = refl
or_one false false = refl
or_one true b = refl

module _ (task : TaskValue) (p : List ℕ) (old new : State) where
  abbrev output : List ℕ
  output = text_for task p

  -- a prefix of the answer was written, and no message
  pub Stopped-written : EmitsPrefix old.written new.written old.pending output
      → Tells old.is_deaf new.is_deaf old.told new.told []
      → Stopped task old new (p ∷ [])
  Stopped-written h k = record {
    wrote = subst (EmitsPrefix old.written new.written old.pending) (sym (append-nil output)) h;
    said = (0, k);
  }

  -- the answer was added, and no message
  pub Stopped-said : Emits old.written new.written old.pending new.pending output
      → Tells old.is_deaf new.is_deaf old.told new.told []
      → Stopped task old new (p ∷ [])
  Stopped-said h k =
      Stopped-written (EmitsPrefix-of old.written new.written old.pending new.pending output h) k

  -- the answer was added, and the message
  pub Answered-one : (is : Bool) → Emits old.written new.written old.pending new.pending output
      → Tells old.is_deaf new.is_deaf old.told new.told (message_of task p)
      → is ≡ answers task p → new.all ≡ (old.all && is) → new.any ≡ (old.any || is)
      → Answered task old new (p ∷ [])
  Answered-one is h k e all any = record {
    wrote = subst (Emits old.written new.written old.pending new.pending)
        (sym (append-nil output)) h;
    said = subst (Tells old.is_deaf new.is_deaf old.told new.told)
        (sym (append-nil (message_of task p))) k;
    all = all ∙ ap (λ is. old.all && is) e ∙ and_one old.all (answers task p);
    any = any ∙ ap (λ is. old.any || is) e ∙ or_one old.any (answers task p);
  }
