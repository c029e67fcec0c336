-- A list of edits with one more edit at its end.
use Rattle.std.proofs.Common.{◌≡◌, ℕ, ◌+◌, ◌<◌, List, [], ◌∷◌, ◌++◌, length, take, get_or, refl}
use Rattle.std.proofs.Common.{map, arith}
use Rattle.std.proofs.lemmas.List.{map_more}
use Rattle.path_runs.specs.declared.edits.Answer.{Answer}
use Rattle.path_runs.specs.declared.edits.Edit.{Edit}
use Rattle.path_runs.specs.EditLists.{EditValue, edit_of, edits_of}
use Rattle.path_runs.specs.EditViews.{edit_value}

-- the path s after the edits
abbrev result_of : List ℕ → List EditValue → List ℕ
result_of s es = (edits_of s es).0

-- after the edits es and e, the path is the result of applying e to the path after es
result_of-append : (s : List ℕ) (es : List EditValue) (e : EditValue)
    → result_of s (es ++ e ∷ []) ≡ (edit_of (result_of s es) e).0
result_of-append s [] e = refl
result_of-append s (d ∷ es) e = result_of-append (edit_of s d).0 es e

-- the answers of the edits es and e are the answers of es, followed by the answer of e when it is
-- applied to the path after es
answers-append : (s : List ℕ) (es : List EditValue) (e : EditValue)
    → (edits_of s (es ++ e ∷ [])).1 ≡ (edits_of s es).1 ++ (edit_of (result_of s es) e).1 ∷ []
answers-append s [] e = refl
answers-append s (d ∷ es) e = cc (answers-append (edit_of s d).0 es e)

-- `bytes` is the result of applying the first i edits to s, and `answers` are their answers
pub record HasApplied (s : List ℕ) (edits : List Edit) (i : ℕ) (bytes : List ℕ)
    (answers : List Answer) : Type 0 where
  pub bytes_are : bytes ≡ (edits_of s (map edit_value (take i edits))).0
  pub answers_are : answers ≡ (edits_of s (map edit_value (take i edits))).1

-- if t is the path after the first i of the edits es, and `answers` are their answers, i is less
-- than the length of es, and applying edit i to t leaves u and returns a, then u is the path after
-- the first i + 1 edits, and `answers` followed by a are their answers
pub HasApplied-more : (s : List ℕ) (es : List Edit) (i : ℕ) (d : Edit) (t u : List ℕ)
    (answers : List Answer) (a : Answer) → HasApplied s es i t answers → i < length es
    → u ≡ (edit_of t (edit_value (get_or es i d))).0
    → a ≡ (edit_of t (edit_value (get_or es i d))).1 → HasApplied s es (i + 1) u (answers ++ a ∷ [])
HasApplied-more s es i d t u answers a h l bytes answer =
    let e = edit_value (get_or es i d) in
    let more = map_more edit_value es i d l in
    grind (arith, result_of-append, answers-append)
