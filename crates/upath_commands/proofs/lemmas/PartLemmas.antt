-- Answers that are records, one after the other.
use Rattle.std.proofs.Common.{◌≡◌, ℕ, List, [], ◌∷◌, ◌++◌, Option}
use Rattle.std.proofs.Common.{refl, sym, ap, ◌∙◌, append_assoc, map}
use Rattle.std.specs.Iterator.{Drains}
use Rattle.std.specs.List.{flat_map}
use Rattle.std.proofs.iter.Yields.{gives_Drains}
use Rattle.std.proofs.lemmas.Iterator.{YieldsList}
use Rattle.unix_bytes.specs.declared.bytes.UnixStr.{UnixStr}
use Rattle.upath_commands.specs.declared.command.Options.{Options}
use Rattle.upath_commands.specs.Answers.{record_of, record_output}
use Rattle.upath_commands.proofs.lemmas.RecordLemmas.{by_test}

flat_map-append : (f : List ℕ → List ℕ) (xs ys : List (List ℕ))
    → flat_map f (xs ++ ys) ≡ flat_map f xs ++ flat_map f ys
flat_map-append f [] ys = refl
flat_map-append f (x ∷ xs) ys =
    ap (λ l. f x ++ l) (flat_map-append f xs ys)
    ∙ sym (append_assoc (f x) (flat_map f xs) (flat_map f ys))

-- the output for answers, and for more answers after them
pub record_output-append : (options : Options) (p : List ℕ) (xs ys : List (List ℕ))
    → record_output options p (xs ++ ys)
    ≡ record_output options p xs ++ record_output options p ys
record_output-append options p xs ys =
    by_test options.quiet (λ e. rw e refl)
    (λ e. rw e (flat_map-append (record_of options p) xs ys))

-- if the output for answers was appended, and that for one more, the output for all of them was
-- appended
pub adds_one : (options : Options) (p : List ℕ) (xs all : List (List ℕ)) (x : List ℕ)
    (old said new : List ℕ) → all ≡ xs ++ x ∷ [] → said ≡ old ++ record_output options p xs
    → new ≡ said ++ record_output options p (x ∷ [])
    → new ≡ old ++ record_output options p all
adds_one options p xs all x old said new e so_far more =
    more ∙ ap (λ l. l ++ record_output options p (x ∷ [])) so_far
    ∙ append_assoc old (record_output options p xs) (record_output options p (x ∷ []))
    ∙ ap (λ l. old ++ l) (sym (record_output-append options p xs (x ∷ [])))
    ∙ ap (λ l. old ++ record_output options p l) (sym e)

-- if the output for the names that an iterator returned up to its end was appended, the output for
-- the list that it yields was appended
pub adds_all : {S : Type 0} (options : Options) (p new old : List ℕ) {all : List (List ℕ)}
    {s : S} {steps : S → Option UnixStr → S → Type 0}
    → YieldsList steps (λ name. name.bytes.now) s all
    → (names : List UnixStr) × Drains steps s names
    × (new ≡ old ++ record_output options p (map (λ name. name.bytes.now) names))
    → new ≡ old ++ record_output options p all
adds_all options p new old {all} {s} {steps} road (names, ran, e) =
    e ∙ ap (λ items. old ++ record_output options p items)
    (gives_Drains steps (λ name. name.bytes.now) names all s road.runs ran)
