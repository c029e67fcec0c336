-- What is written and what waits in a buffer.
use Rattle.std.proofs.Common.{◌≡◌, ℕ, Bool, List, [], ◌++◌, Option, sym, ap, subst, ◌∙◌}
use Rattle.std.proofs.Common.{append_assoc, append-nil}
use Rattle.std.proofs.KnownBytes.{Appends-trans, Appends-nil}
use Rattle.std.specs.Io.KnownBytes.{Appends}
use Rattle.byte_streams.specs.Watched.{AppendsPrefix}
use Rattle.byte_streams.proofs.lemmas.WriteLemmas.{AppendsPrefix-of, AppendsPrefix-then}
use Rattle.upath_commands.specs.Outputs.{Emits, EmitsPrefix, Tells}

-- nothing was written, and bytes were added to the buffer
pub Emits-added : (a : Option (List ℕ)) (buffer rest bs : List ℕ) → rest ≡ buffer ++ bs
    → Emits a a buffer rest bs
Emits-added a buffer rest bs e = ([], Appends-nil a, e)

-- the bytes xs were added, and then the bytes ys
pub Emits-then : (a b c : Option (List ℕ)) (first second third xs ys : List ℕ)
    → Emits a b first second xs → Emits b c second third ys → Emits a c first third (xs ++ ys)
Emits-then a b c first second third xs ys (v, p, e) (w, q, d) = (
  v ++ w,
  Appends-trans a b c v w p q,
  append_assoc v w third ∙ ap (λ l. v ++ l) d ∙ sym (append_assoc v second ys)
      ∙ ap (λ l. l ++ ys) e ∙ append_assoc first xs ys,
)

-- the bytes xs were added, and then the known bytes got a prefix of what waited and ys
pub Emits-fail : (a b c : Option (List ℕ)) (first second xs ys : List ℕ)
    → Emits a b first second xs → EmitsPrefix b c second ys → EmitsPrefix a c first (xs ++ ys)
Emits-fail a b c first second xs ys (v, p, e) h =
    AppendsPrefix-then a b c v (second ++ ys) [] (first ++ (xs ++ ys)) p h
    (ap (λ l. v ++ l) (append-nil (second ++ ys)) ∙ sym (append_assoc v second ys)
    ∙ ap (λ l. l ++ ys) e ∙ append_assoc first xs ys)

-- the bytes xs were added, and nothing after them was written
pub Emits-stop : (a b : Option (List ℕ)) (first second xs ys : List ℕ)
    → Emits a b first second xs → EmitsPrefix a b first (xs ++ ys)
Emits-stop a b first second xs ys (v, p, e) =
    AppendsPrefix-of a b v (second ++ ys) (first ++ (xs ++ ys)) p
    (sym (append_assoc v second ys) ∙ ap (λ l. l ++ ys) e ∙ append_assoc first xs ys)

-- a prefix of xs is a prefix of xs and ys
pub EmitsPrefix-more : (a b : Option (List ℕ)) (buffer xs ys : List ℕ)
    → EmitsPrefix a b buffer xs → EmitsPrefix a b buffer (xs ++ ys)
EmitsPrefix-more a b buffer xs ys h =
    AppendsPrefix-then a a b [] (buffer ++ xs) ys (buffer ++ (xs ++ ys)) (Appends-nil a) h
    (append_assoc buffer xs ys)

-- all bytes were written, and the buffer is empty
pub Emits-written : (a b : Option (List ℕ)) (buffer rest : List ℕ) → Appends a b buffer
    → rest ≡ [] → Emits a b buffer rest []
Emits-written a b buffer rest h e = (buffer, h, ap (λ l. buffer ++ l) e)

-- the bytes xs were added, and then a call failed
pub EmitsPrefix-of : (a b : Option (List ℕ)) (first second xs : List ℕ)
    → Emits a b first second xs → EmitsPrefix a b first xs
EmitsPrefix-of a b first second xs (v, p, e) = AppendsPrefix-of a b v second (first ++ xs) p e

-- what was emitted, and then written
pub Emits-finish : (a b c : Option (List ℕ)) (first second xs : List ℕ)
    → Emits a b first second xs → Appends b c second → Appends a c (first ++ xs)
Emits-finish a b c first second xs (v, p, e) q =
    subst (Appends a c) e (Appends-trans a b c v second p q)

-- what was emitted, and then only a prefix of what waited was written
pub Emits-finish_fail : (a b c : Option (List ℕ)) (first second xs : List ℕ)
    → Emits a b first second xs → AppendsPrefix b c second → AppendsPrefix a c (first ++ xs)
Emits-finish_fail a b c first second xs (v, p, e) q =
    AppendsPrefix-then a b c v second [] (first ++ xs) p q
    (ap (λ l. v ++ l) (append-nil second) ∙ e)

-- nothing was reported
pub Tells-none : (a : Option (List ℕ)) (failed : Bool) → Tells failed failed a a []
Tells-none a failed = λ e. (e, Appends-nil a)

-- reporting xs and then ys reports `xs ++ ys`
pub Tells-then : (a b c : Option (List ℕ)) (first second third : Bool) (xs ys : List ℕ)
    → Tells first second a b xs → Tells second third b c ys → Tells first third a c (xs ++ ys)
Tells-then a b c first second third xs ys p q =
    λ e. let (d, more) = q e in let (f, so_far) = p d in
    (f, Appends-trans a b c xs ys so_far more)

-- nothing was written
pub EmitsPrefix-none : (a : Option (List ℕ)) (buffer bs : List ℕ) → EmitsPrefix a a buffer bs
EmitsPrefix-none a buffer bs = (0, Appends-nil a)
