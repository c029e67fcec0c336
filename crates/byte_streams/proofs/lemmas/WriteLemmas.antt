-- Prefixes of the bytes that are to be written.
use Rattle.std.proofs.Common.{◌≡◌, ℕ, List, ◌++◌, length, take, drop, Option, Result, Ok, Err}
use Rattle.std.proofs.Common.{OnErr}
use Rattle.std.proofs.Common.{sym, ap, subst, ◌∙◌, append_assoc, take-append-drop}
use Rattle.std.proofs.Math.Seq.{take-append_seam}
use Rattle.std.proofs.KnownBytes.{Appends-trans}
use Rattle.std.specs.Io.KnownBytes.{Appends}
use Rattle.byte_streams.specs.Watched.{AppendsPrefix}

-- if `done` was appended, and `all` starts with `done`, a prefix of `all` was appended
pub AppendsPrefix-of : (a b : Option (List ℕ)) (done rest all : List ℕ) → Appends a b done
    → done ++ rest ≡ all → AppendsPrefix a b all
AppendsPrefix-of a b done rest all h e = (
  length done,
  subst (Appends a b) (sym (take-append_seam done rest)
      ∙ ap (take (length done)) e) h,
)

-- if `all` starts with `done` and then `next`, and `done` and then a prefix of `next` were
-- appended, a prefix of `all` was appended
pub AppendsPrefix-then : (a b c : Option (List ℕ)) (done next rest all : List ℕ)
    → Appends a b done → AppendsPrefix b c next → done ++ (next ++ rest) ≡ all
    → AppendsPrefix a c all
AppendsPrefix-then a b c done next rest all h (n, k) e =
    let front = take n next in
    AppendsPrefix-of a c (done ++ front) (drop n next ++ rest) all
    (Appends-trans a b c done front h k)
    (append_assoc done front (drop n next ++ rest)
    ∙ ap (λ l. done ++ l) (sym (append_assoc front (drop n next) rest)
    ∙ ap (λ l. l ++ rest) (take-append-drop n next)) ∙ e)

-- a fact that holds in any case holds if the result is an error
pub OnErr-of : {T E P : Type 0} (r : Result T E) → P → OnErr r P
OnErr-of (Ok x) h = tt
OnErr-of (Err e) h = h
