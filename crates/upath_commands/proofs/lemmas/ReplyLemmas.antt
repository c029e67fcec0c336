-- Answers and messages, one after the other.
use Rattle.std.proofs.Common.{◌≡◌, ℕ, Bool, true, false, ◌&&◌, ◌||◌, List, [], ◌++◌, length}
use Rattle.std.proofs.Common.{take, drop, Option, Some, None, IfSome, Result, Ok, Err, OnOk, OnErr}
use Rattle.std.proofs.Common.{IfOk, IfErr, refl, sym, ap, subst, ◌∙◌, append_assoc, append-nil}
use Rattle.std.proofs.Common.{take-append-drop, true≢false, IsTrue, is_ok, ◌↔◌}
use Rattle.std.specs.Result.{IsErrOf}
use Rattle.std.proofs.Math.Seq.{take-append_seam}
use Rattle.std.proofs.lemmas.Grind.{flat_map-append}
use Rattle.std.proofs.lemmas.List.Folds.{list_all-append, list_any-append}
use Rattle.std.specs.List.{list_all, list_any}
use Rattle.upath_commands.specs.Commands.{text_for}
use Rattle.upath_commands.specs.Outputs.{is_read_error, Tells, TellsPrefix}
use Rattle.upath_commands.specs.declared.output.RunError.{RunError}
use Rattle.upath_commands.specs.declared.output.RunError.TheVariants.{Read, Write, Closed}
use Rattle.upath_commands.specs.declared.output.RunError.TheVariants.{Memory, Arguments}
use Rattle.upath_commands.specs.Replies.{Answered, State, Stopped}
use Rattle.upath_commands.specs.Invocations.{TaskValue}
use Rattle.upath_commands.specs.Tasks.{answers, message_of, messages_of, output_of}
use Rattle.upath_commands.proofs.lemmas.OutputLemmas.{Emits-added, Emits-then, Emits-fail}
use Rattle.upath_commands.proofs.lemmas.OutputLemmas.{Emits-stop, EmitsPrefix-more}
use Rattle.upath_commands.proofs.lemmas.OutputLemmas.{Tells-none, Tells-then}

pub on_ok : {T E A B : Type 0} (r : Result T E) → (A → B) → OnOk r A → OnOk r B
on_ok (Ok x) f h = f h
on_ok (Err e) f h = tt

pub on_err : {T E A B : Type 0} (r : Result T E) → (A → B) → OnErr r A → OnErr r B
on_err (Ok x) f h = tt
on_err (Err e) f h = f h

pub if_ok : {T E : Type 0} {P Q : T → Type 0} (r : Result T E) → ((x : T) → P x → Q x) → IfOk r P
    → IfOk r Q
if_ok (Ok x) f h = f x h
if_ok (Err e) f h = tt

pub if_err : {T E : Type 0} {P Q : E → Type 0} (r : Result T E) → ((x : E) → P x → Q x)
    → IfErr r P → IfErr r Q
if_err (Ok x) f h = tt
if_err (Err e) f h = f e h

-- a result is no error of a read
pub not_read_error : {A : Type 0} (r : Result A RunError) → IfErr r (λ error. (error ≡ Read) → ⊥)
    → is_read_error r ≡ false
not_read_error (Ok x) h = refl
not_read_error (Err Read) h = absurd (h refl)
not_read_error (Err Write) h = refl
not_read_error (Err Closed) h = refl
not_read_error (Err Memory) h = refl
not_read_error (Err Arguments) h = refl

-- no read failed, and the result says so
pub no_read_told : {A : Type 0} (r : Result A RunError) (failed : Bool) → failed ≡ false
    → IfErr r (λ error. (error ≡ Read) → ⊥) → IsErrOf r Read ↔ IsTrue failed
no_read_told (Ok x) failed e h =
    (λ is. absurd (true≢false (ap is_ok is)), λ t. absurd (true≢false (sym t ∙ e)))
no_read_told (Err error) failed e h =
    (λ is. absurd (h (cc)), λ t. absurd (true≢false (sym t ∙ e)))

-- what follows from a known input
pub IfSome-then : {P Q : List ℕ → Type 0} (known : Option (List ℕ))
    → ((input : List ℕ) → P input → Q input) → IfSome known P → IfSome known Q
IfSome-then None f h = tt
IfSome-then (Some input) f h = f input h

-- the same, with the facts first
pub IfSome-use : {P Q : List ℕ → Type 0} (known : Option (List ℕ)) → IfSome known P
    → ((input : List ℕ) → P input → Q input) → IfSome known Q
IfSome-use known h f = IfSome-then known f h

-- what holds of each input holds of a known one
pub IfSome-all : {P : List ℕ → Type 0} (known : Option (List ℕ))
    → ((input : List ℕ) → P input) → IfSome known P
IfSome-all None f = tt
IfSome-all (Some input) f = f input

and_assoc : (a b c : Bool) → ((a && b) && c) ≡ (a && (b && c))
and_assoc true b c = refl
and_assoc false b c = refl

or_assoc : (a b c : Bool) → ((a || b) || c) ≡ (a || (b || c))
or_assoc true b c = refl
or_assoc false b c = refl

pub and_true : (a : Bool) → a ≡ (a && true)
and_true true = refl
and_true false = refl

pub or_false : (a : Bool) → a ≡ (a || false)
or_false true = refl
or_false false = refl

-- if `done` was told, and `all` begins with it, a prefix of `all` was told
pub TellsPrefix-of : (a b : Option (List ℕ)) (first second : Bool) (done rest all : List ℕ)
    → Tells first second a b done → done ++ rest ≡ all → TellsPrefix first second a b all
TellsPrefix-of a b first second done rest all h e = (
  length done,
  subst (Tells first second a b)
      (sym (take-append_seam done rest) ∙ ap (take (length done)) e) h,
)

-- if `done` was told, and then a prefix of `next`, a prefix of both was told
pub TellsPrefix-then : (a b c : Option (List ℕ)) (first second third : Bool)
    (done next : List ℕ) → Tells first second a b done → TellsPrefix second third b c next
    → TellsPrefix first third a c (done ++ next)
TellsPrefix-then a b c first second third done next h (n, k) =
    TellsPrefix-of a c first third (done ++ take n next) (drop n next) (done ++ next)
    (Tells-then a b c first second third done (take n next) h k)
    (append_assoc done (take n next) (drop n next)
    ∙ ap (λ l. done ++ l) (take-append-drop n next))

-- a prefix of xs is a prefix of xs and ys
pub TellsPrefix-more : (a b : Option (List ℕ)) (first second : Bool) (xs ys : List ℕ)
    → TellsPrefix first second a b xs → TellsPrefix first second a b (xs ++ ys)
TellsPrefix-more a b first second xs ys (n, k) =
    TellsPrefix-of a b first second (take n xs) (drop n xs ++ ys) (xs ++ ys) k
    (sym (append_assoc (take n xs) (drop n xs) ys)
    ∙ ap (λ l. l ++ ys) (take-append-drop n xs))

module _ (task : TaskValue) where
  output-append : (xs ys : List (List ℕ))
      → output_of task (xs ++ ys) ≡ output_of task xs ++ output_of task ys
  output-append xs ys = flat_map-append (text_for task) xs ys

  messages-append : (xs ys : List (List ℕ))
      → messages_of task (xs ++ ys) ≡ messages_of task xs ++ messages_of task ys
  messages-append xs ys = flat_map-append (message_of task) xs ys

  -- no path was answered
  pub Answered-nil : (s : State) → Answered task s s []
  Answered-nil s = record {
    wrote = Emits-added s.written s.pending s.pending [] (sym (append-nil s.pending));
    said = Tells-none s.told s.is_deaf;
    all = and_true s.all;
    any = or_false s.any;
  }

  -- some paths were answered, and then others
  pub Answered-then : (a b c : State) (xs ys : List (List ℕ)) → Answered task a b xs
      → Answered task b c ys → Answered task a c (xs ++ ys)
  Answered-then a b c xs ys h k = record {
    wrote = rw (output-append xs ys) (Emits-then a.written b.written c.written a.pending b.pending
        c.pending (output_of task xs) (output_of task ys) h.wrote k.wrote);
    said = rw (messages-append xs ys) (Tells-then a.told b.told c.told a.is_deaf b.is_deaf
        c.is_deaf (messages_of task xs) (messages_of task ys) h.said k.said);
    all = k.all ∙ ap (λ all. all && list_all (answers task) ys) h.all
        ∙ and_assoc a.all (list_all (answers task) xs) (list_all (answers task) ys)
        ∙ ap (λ all. a.all && all) (sym (list_all-append (answers task) xs ys));
    any = k.any ∙ ap (λ any. any || list_any (answers task) ys) h.any
        ∙ or_assoc a.any (list_any (answers task) xs) (list_any (answers task) ys)
        ∙ ap (λ any. a.any || any) (sym (list_any-append (answers task) xs ys));
  }

  -- a prefix of the replies to xs is one of the replies to xs and ys
  pub Stopped-more : (a b : State) (xs ys : List (List ℕ)) → Stopped task a b xs
      → Stopped task a b (xs ++ ys)
  Stopped-more a b xs ys h = record {
    wrote = rw (output-append xs ys) (EmitsPrefix-more a.written b.written a.pending
        (output_of task xs) (output_of task ys) h.wrote);
    said = rw (messages-append xs ys) (TellsPrefix-more a.told b.told a.is_deaf b.is_deaf
        (messages_of task xs) (messages_of task ys) h.said);
  }

  -- some paths were answered, and nothing after them
  pub Stopped-of : (a b : State) (xs ys : List (List ℕ)) → Answered task a b xs
      → Stopped task a b (xs ++ ys)
  Stopped-of a b xs ys h = record {
    wrote = rw (output-append xs ys) (Emits-stop a.written b.written a.pending b.pending
        (output_of task xs) (output_of task ys) h.wrote);
    said = TellsPrefix-of a.told b.told a.is_deaf b.is_deaf (messages_of task xs)
        (messages_of task ys) (messages_of task (xs ++ ys)) h.said
        (sym (messages-append xs ys));
  }

  -- all of them were answered
  pub Stopped-same : (a b : State) (xs : List (List ℕ)) → Answered task a b xs
      → Stopped task a b xs
  Stopped-same a b xs h =
      subst (Stopped task a b) (append-nil xs) (Stopped-of a b xs [] h)

  -- some paths were answered, and then a prefix of the replies to others was added
  pub Stopped-then : (a b c : State) (xs ys : List (List ℕ)) → Answered task a b xs
      → Stopped task b c ys → Stopped task a c (xs ++ ys)
  Stopped-then a b c xs ys h k = record {
    wrote = rw (output-append xs ys) (Emits-fail a.written b.written c.written a.pending b.pending
        (output_of task xs) (output_of task ys) h.wrote k.wrote);
    said = rw (messages-append xs ys) (TellsPrefix-then a.told b.told c.told a.is_deaf b.is_deaf
        c.is_deaf (messages_of task xs) (messages_of task ys) h.said k.said);
  }

  -- the same, if those paths begin with these
  pub Stopped-as : (a b c : State) (xs ys more all : List (List ℕ)) → Answered task a b xs
      → Stopped task b c ys → xs ++ (ys ++ more) ≡ all → Stopped task a c all
  Stopped-as a b c xs ys more all h k e =
      subst (Stopped task a c) (append_assoc xs ys more ∙ e)
      (Stopped-more a c (xs ++ ys) more (Stopped-then a b c xs ys h k))
