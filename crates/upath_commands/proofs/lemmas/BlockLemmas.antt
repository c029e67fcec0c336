-- An input that is read in blocks.
use Rattle.std.proofs.Common.{◌≡◌, ℕ, ◌-◌, ◌<◌, ◌≤◌, List, [], ◌∷◌, ◌++◌, length, take, drop}
use Rattle.std.proofs.Common.{Option, Some, None, IfSome, refl, sym, ap, subst, ◌∙◌, append_assoc}
use Rattle.std.proofs.Common.{append-nil, take-append-drop, slice_index, suc, arith}
use Rattle.std.proofs.Math.Seq.{take-suc}
use Rattle.std.specs.Io.KnownBytes.{Consumes, IsAtEnd}
use Rattle.upath_commands.specs.Records.{records_of}
use Rattle.upath_commands.specs.Replies.{Answered, State, Stopped}
use Rattle.upath_commands.specs.Selections.{selected}
use Rattle.upath_commands.specs.Invocations.{TaskValue}
use Rattle.upath_commands.specs.declared.selection.Selection.{Selection}
use Rattle.upath_commands.proofs.lemmas.RecordLemmas.{records_meet}
use Rattle.upath_commands.proofs.lemmas.ReplyLemmas.{Answered-nil, Answered-then, Stopped-as}
use Rattle.upath_commands.proofs.lemmas.ReplyLemmas.{Stopped-of, Stopped-then}
use Rattle.upath_commands.proofs.lemmas.SelectionLemmas.{selected-prefix}

-- the records that ended were answered, as far as they were selected; of the input the bytes `held`
-- were read after them, and `now` is still to be read
abbrev pub Reading : TaskValue → ℕ → Option (List ℕ) → Option (List ℕ) → List ℕ → Selection
    → Selection → State → State → Type 0
Reading task end known now held first selection old new =
    IfSome known (λ input. (left : List ℕ) × (now ≡ Some left) × ((done : List (List ℕ))
    × Answered task old new done
    × (done ++ selected selection (records_of end (held ++ left))
    ≡ selected first (records_of end input))))

pub Reading-init : (task : TaskValue) (end : ℕ) (known : Option (List ℕ)) (first : Selection)
    (s : State) → Reading task end known known [] first first s s
Reading-init task end None first s = tt
Reading-init task end (Some input) first s = (input, refl, ([], Answered-nil task s, refl))

-- what is left after a read of known bytes
after_read : (now next : Option (List ℕ)) (left got : List ℕ) → now ≡ Some left
    → Consumes now next got → (rest : List ℕ) × (next ≡ Some rest) × (left ≡ got ++ rest)
after_read None next left got e h = absurd (cc)
after_read (Some xs) None left got e h = absurd h
after_read (Some xs) (Some ys) left got e h =
    (ys, refl, subst (λ o. o ≡ got ++ ys) (some_same xs left e) h)
  where
    some_same : (a b : List ℕ) → Some a ≡ Some b → a ≡ b
    some_same a b e = cc

-- the byte before the index `len` is `end`
ends_at : (end : ℕ) (got : List ℕ) (len : ℕ) → 0 < len → len ≤ length got
    → slice_index got (len - 1) ≡ end → take len got ≡ take (len - 1) got ++ end ∷ []
ends_at end got len l b e =
    let n : len ≡ suc (len - 1) = omega arith in
    ap (λ n. take n got) n
    ∙ take-suc got (len - 1) 0 (omega arith) ∙ ap (λ x. take (len - 1) got ++ x ∷ []) e

module _ (task : TaskValue) (end : ℕ) (known now : Option (List ℕ)) (held : List ℕ)
    (first selection : Selection) (old new : State) where
  -- nothing after the answers so far
  pub Reading-stop : Reading task end known now held first selection old new
      → IfSome known (λ input. Stopped task old new (selected first (records_of end input)))
  Reading-stop h =
      (elim known as (λ known. Reading task end known now held first selection old new
      → IfSome known (λ input. Stopped task old new (selected first (records_of end input)))) [
        | None ↦ λ h. tt
        | Some input ↦ λ (left, e, (done, answered, d)).
            subst (Stopped task old new) d
            (Stopped-of task old new done (selected selection (records_of end (held ++ left)))
            answered)
      ]) h

  -- no path was answered since
  pub Reading-wait : (after : State) → Reading task end known now held first selection old new
      → Answered task new after []
      → Reading task end known now held first selection old after
  Reading-wait after h k =
      (elim known as (λ known. Reading task end known now held first selection old new
      → Reading task end known now held first selection old after) [
        | None ↦ λ h. tt
        | Some input ↦ λ (left, e, (done, answered, d)). (
          left,
          e,
          (
            done,
            subst (Answered task old after) (append-nil done)
                (Answered-then task old new after done [] answered k),
            d,
          ),
        )
      ]) h

  -- the write of pending answers failed
  pub Reading-wait_fail : (after : State)
      → Reading task end known now held first selection old new → Stopped task new after []
      → IfSome known (λ input. Stopped task old after (selected first (records_of end input)))
  Reading-wait_fail after h k =
      (elim known as (λ known. Reading task end known now held first selection old new
      → IfSome known (λ input. Stopped task old after (selected first (records_of end input)))) [
        | None ↦ λ h. tt
        | Some input ↦ λ (left, e, (done, answered, d)).
            Stopped-as task old new after done [] (selected selection (records_of end
            (held ++ left))) (selected first (records_of end input)) answered k d
      ]) h

  -- bytes without an end were read
  pub Reading-more : (next : Option (List ℕ)) (got : List ℕ)
      → Reading task end known now held first selection old new → Consumes now next got
      → Reading task end known next (held ++ got) first selection old new
  Reading-more next got h c =
      (elim known as (λ known. Reading task end known now held first selection old new
      → Reading task end known next (held ++ got) first selection old new) [
        | None ↦ λ h. tt
        | Some input ↦ λ (left, e, (done, answered, d)).
            let (rest, f, split) = after_read now next left got e c in (
              rest,
              f,
              (
                done,
                answered,
                ap (λ l. done ++ selected selection (records_of end l))
                    (append_assoc held got rest ∙ ap (λ l. held ++ l) (sym split)) ∙ d,
              ),
            )
      ]) h

  -- the records of what was held and read, up to the last end, and those of the rest
  split_records : (got left rest block : List ℕ) (len : ℕ) → 0 < len → len ≤ length got
      → slice_index got (len - 1) ≡ end → left ≡ got ++ rest → block ≡ held ++ take len got
      → records_of end (held ++ left) ≡ records_of end block
      ++ records_of end (drop len got ++ rest)
  split_records got left rest block len l b at split is =
      let front = held ++ take (len - 1) got in
      let ends : block ≡ front ++ end ∷ [] = is ∙ ap (λ l. held ++ l) (ends_at end got len l b at)
      ∙ sym (append_assoc held (take (len - 1) got) (end ∷ [])) in
      ap (records_of end) (ap (λ l. held ++ l) (split
      ∙ ap (λ l. l ++ rest) (sym (take-append-drop len got))
      ∙ append_assoc (take len got) (drop len got) rest)
      ∙ sym (append_assoc held (take len got) (drop len got ++ rest))
      ∙ ap (λ l. l ++ (drop len got ++ rest)) (sym is ∙ ends)
      ∙ append_assoc front (end ∷ []) (drop len got ++ rest))
      ∙ records_meet end front (drop len got ++ rest)
      ∙ ap (λ l. records_of end l ++ records_of end (drop len got ++ rest)) (sym ends)

  module _ (next : Option (List ℕ)) (got block : List ℕ) (len : ℕ) (l : 0 < len)
      (b : len ≤ length got) (at : slice_index got (len - 1) ≡ end)
      (is : block ≡ held ++ take len got) (c : Consumes now next got) (after : State) where
    -- the records up to the last end were answered
    pub Reading-block : (other : Selection)
        → Reading task end known now held first selection old new
        → Answered task new after (selected selection (records_of end block))
        → ((more : List (List ℕ)) → selected selection (records_of end block ++ more)
        ≡ selected selection (records_of end block) ++ selected other more)
        → Reading task end known next (drop len got) first other old after
    Reading-block other h k takes =
        (elim known as (λ known. Reading task end known now held first selection old new
        → Reading task end known next (drop len got) first other old after) [
          | None ↦ λ h. tt
          | Some input ↦ λ (left, e, (done, answered, d)).
              let (rest, f, split) = after_read now next left got e c in
              let records = selected selection (records_of end block) in (
                rest,
                f,
                (
                  done ++ records,
                  Answered-then task old new after done records answered k,
                  append_assoc done records (selected other (records_of end (drop len got ++ rest)))
                      ∙ ap (λ l. done ++ l) (sym (takes (records_of end (drop len got ++ rest)))
                      ∙ ap (selected selection)
                      (sym (split_records got left rest block len l b at split is))) ∙ d,
                ),
              )
        ]) h

    -- the answer to one of them failed
    pub Reading-block_fail : Reading task end known now held first selection old new
        → Stopped task new after (selected selection (records_of end block))
        → IfSome known (λ input. Stopped task old after (selected first (records_of end input)))
    Reading-block_fail h k =
        (elim known as (λ known. Reading task end known now held first selection old new
        → IfSome known (λ input. Stopped task old after
        (selected first (records_of end input)))) [
          | None ↦ λ h. tt
          | Some input ↦ λ (left, e, (done, answered, d)).
              let (rest, f, split) = after_read now next left got e c in
              let (more, s) = selected-prefix selection (records_of end block)
              (records_of end (drop len got ++ rest)) in
              Stopped-as task old new after done (selected selection (records_of end block)) more
              (selected first (records_of end input)) answered k
              (ap (λ l. done ++ l) (sym s ∙ ap (selected selection)
              (sym (split_records got left rest block len l b at split is))) ∙ d)
        ]) h

  -- nothing is left of a known input
  at_end : (next : Option (List ℕ)) (left got : List ℕ) → now ≡ Some left → got ≡ []
      → Consumes now next got → IsAtEnd next → left ≡ []
  at_end next left got e none c z =
      let (rest, f, split) = after_read now next left got e c in
      split ∙ ap (λ l. l ++ rest) none ∙ subst (λ o. IsAtEnd o) f z

  -- the last record was answered
  pub Reading-end : (next : Option (List ℕ)) (got block : List ℕ) (after : State)
      → Reading task end known now held first selection old new → got ≡ []
      → Consumes now next got → IsAtEnd next → block ≡ held
      → Answered task new after (selected selection (records_of end block))
      → IfSome known (λ input. Answered task old after (selected first (records_of end input)))
  Reading-end next got block after h none c z same k =
      (elim known as (λ known. Reading task end known now held first selection old new
      → IfSome known (λ input. Answered task old after (selected first (records_of end input)))) [
        | None ↦ λ h. tt
        | Some input ↦ λ (left, e, (done, answered, d)).
            let records = selected selection (records_of end block) in
            subst (Answered task old after)
            (ap (λ l. done ++ selected selection (records_of end l)) (same ∙ sym (append-nil held)
            ∙ ap (λ l. held ++ l) (sym (at_end next left got e none c z))) ∙ d)
            (Answered-then task old new after done records answered k)
      ]) h

  -- the answer to the last record failed
  pub Reading-end_fail : (next : Option (List ℕ)) (got block : List ℕ) (after : State)
      → Reading task end known now held first selection old new → got ≡ []
      → Consumes now next got → IsAtEnd next → block ≡ held
      → Stopped task new after (selected selection (records_of end block))
      → IfSome known (λ input. Stopped task old after (selected first (records_of end input)))
  Reading-end_fail next got block after h none c z same k =
      (elim known as (λ known. Reading task end known now held first selection old new
      → IfSome known (λ input. Stopped task old after (selected first (records_of end input)))) [
        | None ↦ λ h. tt
        | Some input ↦ λ (left, e, (done, answered, d)).
            let records = selected selection (records_of end block) in
            subst (Stopped task old after)
            (ap (λ l. done ++ selected selection (records_of end l)) (same ∙ sym (append-nil held)
            ∙ ap (λ l. held ++ l) (sym (at_end next left got e none c z))) ∙ d)
            (Stopped-then task old new after done records answered k)
      ]) h
