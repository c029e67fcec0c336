-- The lines of an input, one after the other.
use Rattle.std.proofs.Common.{◌≡◌, ℕ, ◌<◌, List, [], ◌∷◌, ◌++◌, length, refl, sym, ap, ◌∙◌, arith}
use Rattle.std.proofs.Common.{append-nil}
use Rattle.std.specs.List.{slice_split, flat_map}
use Rattle.pathtool.proofs.lemmas.lines.SplitLemmas.{is_newline, slice_split-cons, slice_split-one}
use Rattle.pathtool.specs.Answers.{answer_of, lines_of, output_of, without_empty_last}
use Rattle.pathtool.specs.Steps.{newline}

without_empty_last-cons : (line x : List ℕ) (xs : List (List ℕ))
    → without_empty_last (line ∷ x ∷ xs) ≡ line ∷ without_empty_last (x ∷ xs)
without_empty_last-cons [] x xs = refl
without_empty_last-cons (b ∷ line) x xs = refl

-- if splitting s at its newlines yields `line` and then the pieces of `rest`, the lines of s are
-- `line` and then the lines of `rest`
pub cut_lines : (s line rest : List ℕ)
    → slice_split is_newline s ≡ line ∷ slice_split is_newline rest
    → lines_of s ≡ line ∷ lines_of rest
cut_lines s line rest e =
    let (x, xs, more) = slice_split-cons is_newline rest in
    ap without_empty_last (e ∙ ap (λ parts. line ∷ parts) more)
    ∙ without_empty_last-cons line x xs
    ∙ ap (λ parts. line ∷ without_empty_last parts) (sym more)

-- if s isn't empty, and splitting s at its newlines yields the one piece `line`, the only line of s
-- is `line`
one_line : (s line : List ℕ) → 0 < length s → slice_split is_newline s ≡ line ∷ []
    → lines_of s ≡ line ∷ []
one_line s [] l e = absurd (omega (arith, ap length (slice_split-one newline s [] e)))
one_line s (b ∷ line) l e = ap without_empty_last e

-- if s isn't empty, splitting s at its newlines yields the one piece `line`, and `rest` is empty,
-- the lines of s are `line` and then the lines of `rest`
pub only_line : (s line rest : List ℕ) → 0 < length s → slice_split is_newline s ≡ line ∷ []
    → rest ≡ [] → lines_of s ≡ line ∷ lines_of rest
only_line s line rest l e none =
    one_line s line l e ∙ ap (λ rest. line ∷ lines_of rest) (sym none)

-- if the lines of s are `line` and then the lines of `rest`, the output for s is the answer to
-- `line`, a newline, and the output for `rest`
pub output_of-cons : (s line rest : List ℕ) → lines_of s ≡ line ∷ lines_of rest
    → output_of s ≡ (answer_of line ++ newline ∷ []) ++ output_of rest
unfolding output_of
output_of-cons s line rest e = ap (flat_map (λ line. answer_of line ++ newline ∷ [])) e

-- if the lines of s are `line` and then the lines of `rest`, and `all` is `done` and then the
-- output for s, then `all` is also `done`, the answer to `line`, a newline, and the output for
-- `rest`
pub output_of-next : (s line rest done all : List ℕ) → lines_of s ≡ line ∷ lines_of rest
    → done ++ output_of s ≡ all
    → done ++ ((answer_of line ++ newline ∷ []) ++ output_of rest) ≡ all
output_of-next s line rest done all e h =
    ap (λ more. done ++ more) (sym (output_of-cons s line rest e)) ∙ h

-- if the answer to `line`, and a newline, were appended to the empty buffer `cleared`, which yields
-- `answer`, and `said` is `answer`, then `said` is the answer to `line` and a newline
pub writes_answer : {said answer cleared : List ℕ} (line : List ℕ) → said ≡ answer
    → answer ≡ cleared ++ (answer_of line ++ newline ∷ []) → cleared ≡ []
    → said ≡ answer_of line ++ newline ∷ []
writes_answer line s e none = s ∙ e ∙ ap (λ so_far. so_far ++ (answer_of line ++ newline ∷ [])) none

pub output_of-nil : output_of [] ≡ []
unfolding output_of
output_of-nil = refl

-- if `all` is `done` and then the output for the input `remaining`, and `remaining` is empty, then
-- `done` is `all`
pub output_of-done : (done remaining all : List ℕ) → remaining ≡ [] → done ++ output_of remaining
    ≡ all
    → done ≡ all
output_of-done done remaining all none e =
    sym (append-nil done) ∙ ap (λ more. done ++ more) (sym (ap output_of none ∙ output_of-nil)) ∙ e
