-- Calls of the sinks, one after the other.
use Rattle.std.proofs.Common.{◌≡◌, ℕ, Bool, true, false, ◌&&◌, ◌||◌, List, [], ◌∷◌, ◌++◌}
use Rattle.std.proofs.Common.{Result, Ok, Err, IfErr, IfSome, OnErr, OnOk, is_ok}
use Rattle.std.proofs.Common.{inl, refl, sym, ◌∙◌, true≢false, subst}
use Rattle.byte_streams.specs.Calls.{Many, ReadsUntilNone, WritesSome, WritesThenNone}
use Rattle.byte_streams.specs.Calls.{WritesUntilNone}
use Rattle.byte_streams.specs.Watched.{has_failed, watched_inner}
use Rattle.byte_streams.specs.declared.io_traits.Sink.{Ghosts as Sink}
use Rattle.byte_streams.specs.declared.io_traits.Source.{Ghosts as Source}
use Rattle.byte_streams.specs.declared.watched.Watched.{Watched}
use Rattle.byte_streams.proofs.lemmas.CallLemmas.{Many-none, Many-then, WritesUntilNone-then}
use Rattle.upath_commands.specs.Commands.{text_for}
use Rattle.upath_commands.specs.Outputs.{Emitted, is_read_error, is_write_error, Speaks, Told}
use Rattle.upath_commands.specs.Outputs.{unwritten}
use Rattle.upath_commands.specs.Outputs.{Wrote, write_failed, written_to}
use Rattle.upath_commands.specs.Refusals.{message_for}
use Rattle.upath_commands.specs.Replies.{Answered, answers_failed, answers_to, Called, Replied}
use Rattle.upath_commands.specs.Replies.{ReadCalls, RepliedTo, State, state_of, Stopped}
use Rattle.upath_commands.specs.Invocations.{TaskValue}
use Rattle.upath_commands.specs.Tasks.{answers, message_of}
use Rattle.upath_commands.specs.declared.output.Output.{Output}
use Rattle.upath_commands.specs.declared.output.RunError.{RunError}
use Rattle.upath_commands.specs.declared.output.RunError.TheVariants.{Memory, Read}
use Rattle.upath_commands.specs.declared.replies.Replies.{Replies}
use Rattle.upath_commands.proofs.lemmas.OutputLemmas.{Emits-added, EmitsPrefix-none, Tells-none}
use Rattle.upath_commands.proofs.lemmas.ReplyLemmas.{Answered-nil, IfSome-all, not_read_error}
use Rattle.upath_commands.proofs.lemmas.ReplyLemmas.{Stopped-of}
use Rattle.upath_commands.proofs.lemmas.StepLemmas.{Answered-one, Stopped-said, Stopped-written}

-- no message was written
pub Speaks-none : {E : Type 0} (e : Sink E) (m : Watched E) → Speaks e m m
Speaks-none e m = record {
  spoke = λ deaf. (deaf, Many-none (watched_inner m));
  gave_up = λ hears deaf. absurd (true≢false (sym deaf ∙ hears));
  silent = λ deaf. refl;
}

speaks_after : {E : Type 0} (e : Sink E) (a b c : Watched E) (deaf : Bool)
    → has_failed b ≡ deaf → Speaks e a b → Speaks e b c → has_failed a ≡ false
    → has_failed c ≡ true
    → WritesThenNone e.write_gives (watched_inner a) (watched_inner c)
speaks_after e a b c true d h k hears fails =
    subst (WritesThenNone e.write_gives (watched_inner a)) (sym (k.silent d)) (h.gave_up hears d)
speaks_after e a b c false d h k hears fails =
    let (t, calls, last) = k.gave_up d fails in
    let (f, before) = h.spoke d in (t, Many-then before calls, last)

silent_after : {E : Type 0} (e : Sink E) (a b c : Watched E) (deaf : Bool)
    → has_failed b ≡ deaf → Speaks e a b → Speaks e b c → has_failed a ≡ true
    → watched_inner c ≡ watched_inner a
silent_after e a b c true d h k deaf = k.silent d ∙ h.silent deaf
silent_after e a b c false d h k deaf =
    let (f, before) = h.spoke d in absurd (true≢false (sym deaf ∙ f))

-- messages were written, and then others
pub Speaks-then : {E : Type 0} (e : Sink E) (a b c : Watched E) → Speaks e a b → Speaks e b c
    → Speaks e a c
Speaks-then e a b c h k = record {
  spoke = λ d. let (f, after) = k.spoke d in let (g, before) = h.spoke f in
      (g, Many-then before after);
  gave_up = speaks_after e a b c (has_failed b) refl h k;
  silent = silent_after e a b c (has_failed b) refl h k;
}

module _ {W : Type 0} (w : Sink W) where
  -- nothing was written, and the result is no error of a write
  pub Wrote-none : {A : Type 0} (result : Result A RunError) (old new : Output W)
      → written_to new ≡ written_to old → write_failed new ≡ false
      → is_write_error result ≡ false → Wrote w result old new
  Wrote-none (Ok x) old new same f e = record {
    failed = f;
    writes = rw same (Many-none (written_to old));
    gave_up = tt;
  }
  Wrote-none (Err error) old new same f e = record {
    failed = f ∙ sym e;
    writes = tt;
    gave_up = (_, Many-none (written_to old), inl (sym same));
  }

  -- bytes were written, and then the result is another one, which is no error of a write
  pub Wrote-as : {A B : Type 0} (x : A) (result : Result B RunError) (old new : Output W)
      → Wrote w (Ok x) old new → is_write_error result ≡ false → Wrote w result old new
  Wrote-as x (Ok y) old new h e = record { failed = h.failed; writes = h.writes; gave_up = tt }
  Wrote-as x (Err error) old new h e = record {
    failed = h.failed ∙ sym e;
    writes = tt;
    gave_up = (_, h.writes, inl refl);
  }

  -- bytes were written, and then others
  pub Wrote-then : {A B : Type 0} (x : A) (result : Result B RunError) (a b c : Output W)
      → Wrote w (Ok x) a b → Wrote w result b c → Wrote w result a c
  Wrote-then x (Ok y) a b c h k = record {
    failed = k.failed;
    writes = Many-then h.writes k.writes;
    gave_up = tt;
  }
  Wrote-then x (Err error) a b c h k = record {
    failed = k.failed;
    writes = tt;
    gave_up = WritesUntilNone-then w.write_gives h.writes k.gave_up;
  }

  -- nothing was added, and the result is an error, but not one of a write
  pub emitted_failed : {A : Type 0} (result : Result A RunError) (old new : Output W)
      (bs : List ℕ) → is_ok result ≡ false → is_write_error result ≡ false
      → written_to new ≡ written_to old → write_failed new ≡ false → Emitted w result old new bs
  emitted_failed (Ok x) old new bs fails e same f = absurd (true≢false fails)
  emitted_failed (Err error) old new bs fails e same f = record {
    ok = tt;
    err = rw same (EmitsPrefix-none (w.contents (written_to old)) (unwritten old) bs);
    wrote = Wrote-none (Err error) old new same f e;
  }

  -- bytes were added, and nothing was written
  pub emitted_added : {A : Type 0} (x : A) (old new : Output W) (bs : List ℕ)
      → unwritten new ≡ unwritten old ++ bs → written_to new ≡ written_to old
      → write_failed new ≡ false → Emitted w (Ok x) old new bs
  emitted_added x old new bs added same f = record {
    ok = rw same (Emits-added (w.contents (written_to old)) (unwritten old) (unwritten new) bs
        added);
    err = tt;
    wrote = Wrote-none (Ok x) old new same f refl;
  }

-- no message was told
pub told_none : {E : Type 0} (e : Sink E) (m : Watched E) (bs : List ℕ) → bs ≡ []
    → Told e m m bs
told_none e m bs none =
    rw none record {
      told = Tells-none (e.contents (watched_inner m)) (has_failed m);
      speaks = Speaks-none e m;
    }

pub Told-none : {E : Type 0} (e : Sink E) (m : Watched E) → Told e m m []
Told-none e m = told_none e m [] refl

module _ {W E : Type 0} (w : Sink W) (e : Sink E) where
  -- writes that each wrote bytes, and messages
  pub record Went (old new : Replies W E) : Type 0 where
    pub writes : Many (WritesSome w.write_gives) (answers_to old) (answers_to new)
    pub speaks : Speaks e old.messages new.messages

  pub went_none : (old : Replies W E) → Went old old
  went_none old = record {
    writes = Many-none (answers_to old);
    speaks = Speaks-none e old.messages;
  }

  -- calls, and then those of a call that succeeded
  pub went_then : {A : Type 0} (x : A) (a b c : Replies W E) → Went a b
      → Called {A = A} w e (Ok x) b c → Went a c
  went_then x a b c h k = record {
    writes = Many-then h.writes k.wrote.writes;
    speaks = Speaks-then e a.messages b.messages c.messages h.speaks k.speaks;
  }

  -- calls, and then those of a call
  pub called_then : {A : Type 0} (result : Result A RunError) (a b c : Replies W E) → Went a b
      → Called w e result b c → Called w e result a c
  called_then (Ok x) a b c h k = record {
    wrote = record {
      failed = k.wrote.failed;
      writes = Many-then h.writes k.wrote.writes;
      gave_up = tt;
    };
    speaks = Speaks-then e a.messages b.messages c.messages h.speaks k.speaks;
  }
  called_then (Err error) a b c h k = record {
    wrote = record {
      failed = k.wrote.failed;
      writes = tt;
      gave_up = WritesUntilNone-then w.write_gives h.writes k.wrote.gave_up;
    };
    speaks = Speaks-then e a.messages b.messages c.messages h.speaks k.speaks;
  }

  -- calls, and then an error that is passed on
  pub called_stopped : {A : Type 0} (result : Result A RunError) (old new : Replies W E)
      → is_ok result ≡ false → answers_failed new ≡ is_write_error result
      → WritesUntilNone w.write_gives (answers_to old) (answers_to new)
      → Speaks e old.messages new.messages → Called w e result old new
  called_stopped (Ok x) old new fails failed writes speaks = absurd (true≢false fails)
  called_stopped (Err error) old new fails failed writes speaks = record {
    wrote = record { failed = failed; writes = tt; gave_up = writes };
    speaks = speaks;
  }

  -- calls that succeeded
  pub called_went : {A : Type 0} (x : A) (old new : Replies W E) → answers_failed new ≡ false
      → Went old new → Called {A = A} w e (Ok x) old new
  called_went x old new f h = record {
    wrote = record { failed = f; writes = h.writes; gave_up = tt };
    speaks = h.speaks;
  }

  module _ (task : TaskValue) where
    -- an error that is passed on
    pub replied_stopped : {A : Type 0} (result : Result A RunError) (old new : Replies W E)
        (paths : List (List ℕ)) → is_ok result ≡ false
        → IfErr result (λ error. (error ≡ Read) → ⊥) → answers_failed new ≡ is_write_error result
        → Stopped task (state_of w e old) (state_of w e new) paths
        → WritesUntilNone w.write_gives (answers_to old) (answers_to new)
        → Speaks e old.messages new.messages → Replied w e task result old new paths
    replied_stopped (Ok x) old new paths fails other failed h writes speaks =
        absurd (true≢false fails)
    replied_stopped (Err error) old new paths fails other failed h writes speaks = record {
      ok = tt;
      err = h;
      no_read = other;
      called = called_stopped (Err error) old new fails failed writes speaks;
    }

    -- an error before anything was done
    pub replied_nothing : {A : Type 0} (result : Result A RunError) (old : Replies W E)
        (paths : List (List ℕ)) → is_ok result ≡ false
        → IfErr result (λ error. (error ≡ Read) → ⊥) → is_write_error result ≡ false
        → answers_failed old ≡ false → Replied w e task result old old paths
    replied_nothing result old paths fails unread other failed =
        replied_stopped result old old paths fails unread (failed ∙ sym other)
        (Stopped-of task (state_of w e old) (state_of w e old) [] paths
        (Answered-nil task (state_of w e old)))
        (_, Many-none (answers_to old), inl refl) (Speaks-none e old.messages)

    -- paths that were answered
    pub replied_all : {A : Type 0} (x : A) (old new : Replies W E) (paths : List (List ℕ))
        → answers_failed new ≡ false → Answered task (state_of w e old) (state_of w e new) paths
        → Went old new → Replied w e task (Ok x) old new paths
    replied_all x old new paths f h went = record {
      ok = h;
      err = tt;
      no_read = tt;
      called = called_went x old new f went;
    }

    -- no path is to be answered
    pub replied_none : {A : Type 0} (x : A) (old : Replies W E) (paths : List (List ℕ))
        → paths ≡ [] → answers_failed old ≡ false → Replied w e task (Ok x) old old paths
    replied_none x old paths none f =
        rw none (replied_all x old old [] f (Answered-nil task (state_of w e old))
        (went_none old))

    -- the answer to a path failed
    pub replied_failed : {A : Type 0} (error : RunError) (result : Result A RunError)
        (old new : Replies W E) (p : List ℕ) → is_ok result ≡ false
        → IfErr result (λ error. (error ≡ Read) → ⊥) → answers_failed new ≡ is_write_error result
        → Emitted {A = Bool} w (Err error) old.answers new.answers
        (text_for task p) → new.messages ≡ old.messages
        → Replied w e task result old new (p ∷ [])
    replied_failed error result old new p fails other failed h same =
        let t : Told e old.messages new.messages [] = rw same (Told-none e old.messages) in
        replied_stopped result old new (p ∷ []) fails other failed
        (Stopped-written task p (state_of w e old) (state_of w e new) h.err t.told)
        h.wrote.gave_up t.speaks

    module _ (p : List ℕ) (is : Bool) (old new : Replies W E)
        (h : Emitted {A = Bool} w (Ok is) old.answers new.answers
        (text_for task p)) (said : is ≡ answers task p)
        (all : new.tally.all ≡ (old.tally.all && is))
        (any : new.tally.any ≡ (old.tally.any || is)) where
      one_answered : Told e old.messages new.messages (message_of task p)
          → Answered task (state_of w e old) (state_of w e new) (p ∷ [])
      one_answered t = Answered-one task p (state_of w e old) (state_of w e new) is h.ok t.told
          said all any

      -- the path is answered
      pub replied_yes : is ≡ true → new.messages ≡ old.messages
          → Replied w e task (Ok (tt {0})) old new (p ∷ [])
      replied_yes d same =
          let t : Told e old.messages new.messages (message_of task p) = rw same
          (told_none e old.messages (message_of task p) (rw (sym said ∙ d) refl)) in
          replied_all (tt {0}) old new (p ∷ []) h.wrote.failed (one_answered t)
          record { writes = h.wrote.writes; speaks = t.speaks }

      -- the path is not answered, and the message for it was written or failed
      pub replied_no : (result : Result (Unit {0}) RunError) → is ≡ false
          → OnOk result (Told e old.messages new.messages (message_for task p))
          → OnErr result (Told e old.messages new.messages [])
          → IfErr result (λ error. error ≡ Memory) → Replied w e task result old new (p ∷ [])
      replied_no (Ok x) d t f m =
          let told : Told e old.messages new.messages (message_of task p) =
          rw (sym said ∙ d) t in
          replied_all x old new (p ∷ []) h.wrote.failed (one_answered told)
          record { writes = h.wrote.writes; speaks = told.speaks }
      replied_no (Err error) d t f m =
          replied_stopped (Err error) old new (p ∷ []) refl (rw m (λ same. cc))
          (rw m h.wrote.failed)
          (Stopped-said task p (state_of w e old) (state_of w e new) h.ok f.told)
          (_, h.wrote.writes, inl refl) f.speaks

  -- calls, and then writes of answers
  pub went_wrote : {A : Type 0} (x : A) (a b c : Replies W E) → Went a b
      → Wrote {A = A} w (Ok x) b.answers c.answers → c.messages ≡ b.messages → Went a c
  went_wrote x a b c h k same = record {
    writes = Many-then h.writes k.writes;
    speaks = rw same h.speaks;
  }

  module _ {R : Type 0} (r : Source R) (task : TaskValue) where
    -- an error that is passed on, after reads
    pub reading_stopped : {A : Type 0} (result : Result A RunError) (reader after : Watched R)
        (old new : Replies W E) (paths : List ℕ → List (List ℕ)) → is_ok result ≡ false
        → has_failed after ≡ is_read_error result → answers_failed new ≡ is_write_error result
        → IfSome (r.remaining (watched_inner reader)) (λ input.
        Stopped task (state_of w e old) (state_of w e new) (paths input))
        → WritesUntilNone w.write_gives (answers_to old) (answers_to new)
        → Speaks e old.messages new.messages
        → ReadsUntilNone r.read_gives (watched_inner reader) (watched_inner after)
        → RepliedTo r w e task result reader after old new paths
    reading_stopped (Ok x) reader after old new paths fails read write h writes speaks reads =
        absurd (true≢false fails)
    reading_stopped (Err error) reader after old new paths fails read write h writes speaks reads =
        record {
          ok = tt;
          err = h;
          called = called_stopped (Err error) old new fails write writes speaks;
          reads = record { failed = read; reads = reads };
        }

    -- the same before anything was written
    pub reading_nothing : {A : Type 0} (result : Result A RunError) (reader after : Watched R)
        (old : Replies W E) (paths : List ℕ → List (List ℕ)) → is_ok result ≡ false
        → has_failed after ≡ is_read_error result → answers_failed old ≡ is_write_error result
        → ReadsUntilNone r.read_gives (watched_inner reader) (watched_inner after)
        → RepliedTo r w e task result reader after old old paths
    reading_nothing result reader after old paths fails read write reads =
        let s : State = state_of w e old in
        reading_stopped result reader after old old paths fails read write
        (IfSome-all (r.remaining (watched_inner reader)) (λ input.
        Stopped-of task s s [] (paths input) (Answered-nil task s)))
        (_, Many-none (answers_to old), inl refl) (Speaks-none e old.messages) reads

-- nothing was read
pub unread : {R A : Type 0} (r : Source R) (result : Result A RunError) (reader : Watched R)
    → has_failed reader ≡ false → IfErr result (λ error. (error ≡ Read) → ⊥)
    → ReadCalls r result reader reader
unread r result reader f other = record {
  failed = f ∙ sym (not_read_error result other);
  reads = (_, Many-none (watched_inner reader), inl refl);
}
