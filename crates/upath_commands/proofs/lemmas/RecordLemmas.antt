-- The records of an input, one after the other.
use Rattle.std.proofs.Common.{◌≡◌, ℕ, ◌-◌, ◌<◌, Bool, true, false, ◌==◌, nat_lt}
use Rattle.std.proofs.Common.{List, [], ◌∷◌, ◌++◌, length, All, ◌⊎◌, inl, inr}
use Rattle.std.proofs.Common.{refl, sym, ap, ap₂, subst, ◌∙◌, arith, rules, slice_index}
use Rattle.std.proofs.Common.{◌+◌, ◌≤◌, suc, one-add, append-nil, append_assoc, drop, take}
use Rattle.std.proofs.Common.{length-drop, length-take}
use Rattle.std.specs.Io.BufRead.{take_through, drop_through, first_piece, strip_last}
use Rattle.std.specs.List.{slice_split, onto_first, position_or_len}
use Rattle.std.proofs.lemmas.Bool.{eqb-true}
use Rattle.std.proofs.lemmas.List.{at_drop_all, drop-drop, length-append, map-append}
use Rattle.std.proofs.lemmas.List.Elements.{All-nil, All-cons}
use Rattle.std.proofs.lemmas.List.Splits.{length-slice_split, slice_split-cons_yes}
use Rattle.std.proofs.lemmas.List.Splits.{slice_split-cons_no}
use Rattle.std.proofs.Math.Seq.{take-append_seam, get_or-append_seam}
use Rattle.unix_path.specs.declared.path.Path.{Path}
use Rattle.upath_commands.specs.Records.{paths_of, records_of, without_empty_last}

-- a test is true or false
pub by_test : {X : Type 0} (t : Bool) → (t ≡ true → X) → (t ≡ false → X) → X
by_test true y n = y refl
by_test false y n = n refl

abbrev is_end : ℕ → ℕ → Bool
is_end end b = b == end

-- no byte is `end`
abbrev Whole : ℕ → List ℕ → Type 0
Whole end xs =
    (take_through end xs ≡ xs) × (drop_through end xs ≡ [])
    × (slice_split (is_end end) xs ≡ xs ∷ []) × All (λ b. is_end end b ≡ false) xs

-- a byte is `end`
abbrev Cut : ℕ → List ℕ → Type 0
Cut end xs =
    (ys : List ℕ) × (take_through end xs ≡ ys ++ end ∷ [])
    × (slice_split (is_end end) xs ≡ ys ∷ slice_split (is_end end) (drop_through end xs))

cut_later : (end x : ℕ) (xs : List ℕ) → is_end end x ≡ false → Whole end xs ⊎ Cut end xs
    → Whole end (x ∷ xs) ⊎ Cut end (x ∷ xs)
cut_later end x xs e (inl (t, d, s, a)) = inl (
  rw e (ap (λ l. x ∷ l) t),
  rw e d,
  rw e (ap (onto_first x) s),
  All-cons (λ b. is_end end b ≡ false) x xs e a,
)
cut_later end x xs e (inr (ys, t, s)) =
    inr (x ∷ ys, rw e (ap (λ l. x ∷ l) t), rw e (ap (onto_first x) s))

cut : (end : ℕ) (xs : List ℕ) → Whole end xs ⊎ Cut end xs
cut end [] = inl (refl, refl, refl, All-nil (λ b. is_end end b ≡ false))
cut end (x ∷ xs) =
    by_test (is_end end x)
    (λ e. inr ([], rw e (ap (λ b. b ∷ []) (eqb-true x end e)), rw e refl))
    (λ e. cut_later end x xs e (cut end xs))

nonempty_test : (n : ℕ) → 0 < n → nat_lt 0 n ≡ true
nonempty_test n l = search rules

eq_self : (n : ℕ) → (n == n) ≡ true
eq_self n = search rules

-- a string that ends with `end` loses it
strip_last-end : (end : ℕ) (ys : List ℕ) → strip_last end (ys ++ end ∷ []) ≡ ys
strip_last-end end ys =
    let n : length (ys ++ end ∷ []) - 1 ≡ length ys = omega (arith, length-append ys (end ∷ [])) in
    let l : nat_lt 0 (length (ys ++ end ∷ [])) ≡ true =
    nonempty_test _ (omega (arith, length-append ys (end ∷ []))) in
    rw n (rw l (rw (get_or-append_seam ys end [] 0)
    (rw (eq_self end) (take-append_seam ys (end ∷ [])))))

-- a string without `end` stays
strip_last-whole : (end : ℕ) (xs : List ℕ) → All (λ b. is_end end b ≡ false) xs
    → strip_last end xs ≡ xs
strip_last-whole end [] h = refl
strip_last-whole end (x ∷ xs) h =
    let e : (slice_index (x ∷ xs) (length (x ∷ xs) - 1) == end) ≡ false =
    h (length (x ∷ xs) - 1) 0 (omega arith) in
    rw e (search rules)

has_first : (pieces : List (List ℕ)) → 0 < length pieces
    → (x : List ℕ) × (xs : List (List ℕ)) × (pieces ≡ x ∷ xs)
has_first [] l = absurd (omega arith)
has_first (x ∷ xs) l = (x, xs, refl)

without_empty_last-cons : (piece x : List ℕ) (xs : List (List ℕ))
    → without_empty_last (piece ∷ x ∷ xs) ≡ piece ∷ without_empty_last (x ∷ xs)
without_empty_last-cons [] x xs = refl
without_empty_last-cons (b ∷ piece) x xs = refl

whole_record : (xs : List ℕ) → 0 < length xs → without_empty_last (xs ∷ []) ≡ xs ∷ []
whole_record [] l = absurd (omega arith)
whole_record (x ∷ xs) l = refl

pub records_of-nil : (end : ℕ) → records_of end [] ≡ []
unfolding records_of
records_of-nil end = refl

of_cut : (end : ℕ) (xs : List ℕ) → 0 < length (take_through end xs) → Whole end xs ⊎ Cut end xs
    → records_of end xs
    ≡ strip_last end (take_through end xs) ∷ records_of end (drop_through end xs)
unfolding records_of
of_cut end xs l (inl (t, d, s, a)) =
    ap without_empty_last s ∙ whole_record xs (rw t at l)
    ∙ ap (λ p. p ∷ []) (sym (ap (strip_last end) t ∙ strip_last-whole end xs a))
    ∙ ap (λ r. strip_last end (take_through end xs) ∷ without_empty_last (slice_split
    (is_end end) r))
    (sym d)
of_cut end xs l (inr (ys, t, s)) =
    let rest = drop_through end xs in
    let (x, more, e) = has_first (slice_split (is_end end) rest)
    (omega (arith, length-slice_split (is_end end) rest)) in
    ap without_empty_last (s ∙ ap (λ pieces. ys ∷ pieces) e)
    ∙ without_empty_last-cons ys x more
    ∙ ap (λ pieces. ys ∷ without_empty_last pieces) (sym e)
    ∙ ap (λ p. p ∷ without_empty_last (slice_split (is_end end) rest))
    (sym (ap (strip_last end) t ∙ strip_last-end end ys))

-- an input's records are the bytes up to the first `end`, without it, and the records after it
pub records_of-next : (end : ℕ) (xs : List ℕ) → 0 < length (take_through end xs)
    → records_of end xs
    ≡ strip_last end (take_through end xs) ∷ records_of end (drop_through end xs)
records_of-next end xs l = of_cut end xs l (cut end xs)

-- an input of which nothing is taken has no record
pub records_of-end : (end : ℕ) (xs : List ℕ) → take_through end xs ≡ []
    → records_of end xs ≡ []
records_of-end end [] e = records_of-nil end
records_of-end end (x ∷ xs) e =
    by_test (is_end end x)
    (λ d. let h : x ∷ [] ≡ [] = rw d at e in absurd (omega (arith, ap length h)))
    (λ d. let h : x ∷ take_through end xs ≡ [] = rw d at e in absurd (omega (arith, ap length h)))

abbrev first_end : ℕ → List ℕ → ℕ
first_end end xs = position_or_len (is_end end) xs

first_end-later : (end x : ℕ) (xs : List ℕ) → is_end end x ≡ false
    → suc (first_end end xs) ≡ first_end end (x ∷ xs)
first_end-later end x xs e = rw e (sym (one-add (first_end end xs)))

first_end-le : (end : ℕ) (xs : List ℕ) → first_end end xs ≤ length xs
first_end-le end [] = omega arith
first_end-le end (x ∷ xs) =
    by_test (is_end end x)
    (λ e. rw e (omega arith))
    (λ e. rw (sym (first_end-later end x xs e)) (omega (arith, first_end-le end xs)))

-- the bytes after the first `end`
drop_through-at : (end : ℕ) (xs : List ℕ)
    → drop_through end xs ≡ drop (suc (first_end end xs)) xs
drop_through-at end [] = refl
drop_through-at end (x ∷ xs) =
    by_test (is_end end x)
    (λ e. rw e refl)
    (λ e. subst (λ n. drop_through end (x ∷ xs) ≡ drop (suc n) (x ∷ xs))
    (first_end-later end x xs e) (rw e (drop_through-at end xs)))

-- the bytes through the first `end`: those before it, and it, if there is one
Front : ℕ → List ℕ → List ℕ → Type 0
Front end through front =
    (through ≡ front ++ end ∷ []) ⊎ ((through ≡ front) × All (λ b. is_end end b ≡ false) front)

front_later : (end x : ℕ) (through front : List ℕ) → is_end end x ≡ false
    → Front end through front → Front end (x ∷ through) (x ∷ front)
unfolding Front
front_later end x through front e (inl h) = inl (ap (λ l. x ∷ l) h)
front_later end x through front e (inr (h, a)) =
    inr (ap (λ l. x ∷ l) h, All-cons (λ b. is_end end b ≡ false) x front e a)

front_at : (end : ℕ) (xs : List ℕ)
    → Front end (take_through end xs) (take (first_end end xs) xs)
unfolding Front
front_at end [] = inr (refl, All-nil (λ b. is_end end b ≡ false))
front_at end (x ∷ xs) =
    by_test (is_end end x)
    (λ e. rw e (inl (ap (λ b. b ∷ []) (eqb-true x end e))))
    (λ e. subst (λ n. Front end (take_through end (x ∷ xs)) (take n (x ∷ xs)))
    (first_end-later end x xs e) (rw e
    (front_later end x (take_through end xs) (take (first_end end xs) xs) e (front_at end xs))))

of_front : (end : ℕ) (through front : List ℕ) → Front end through front
    → strip_last end through ≡ front
unfolding Front
of_front end through front (inl h) = ap (strip_last end) h ∙ strip_last-end end front
of_front end through front (inr (h, a)) = ap (strip_last end) h ∙ strip_last-whole end front a

-- the bytes before the first `end`
pub first_piece_at : (end : ℕ) (xs : List ℕ)
    → take (position_or_len (λ b. b == end) xs) xs ≡ first_piece end xs
first_piece_at end xs = sym (of_front end _ _ (front_at end xs))

some_through : (end : ℕ) (xs : List ℕ) → 0 < length xs → 0 < length (take_through end xs)
some_through end [] l = absurd (omega arith)
some_through end (x ∷ xs) l =
    by_test (is_end end x) (λ e. rw e (omega arith)) (λ e. rw e (omega arith))

-- the first record isn't longer than the input
pub first_piece-le : (end : ℕ) (front xs : List ℕ) → front ≡ first_piece end xs
    → length front ≤ length xs
first_piece-le end front xs e =
    omega (
      arith,
      ap length e,
      ap length (first_piece_at end xs),
      length-take (first_end end xs) xs,
    )

-- after the first record and its `end` the records go on
records_of-drop : (end : ℕ) (front xs : List ℕ) → 0 < length xs → front ≡ first_piece end xs
    → records_of end xs ≡ front ∷ records_of end (drop (suc (length front)) xs)
records_of-drop end front xs l e =
    let n : suc (first_end end xs) ≡ suc (length front) =
    omega (
      arith,
      ap length e,
      ap length (first_piece_at end xs),
      length-take (first_end end xs) xs,
      first_end-le end xs,
    ) in
    records_of-next end xs (some_through end xs l)
    ∙ ap₂ (λ front rest. front ∷ records_of end rest) (sym e)
    (drop_through-at end xs ∙ ap (λ n. drop n xs) n)

-- the records after one of them was taken off an input as a path
pub records_taken : (end : ℕ) (input : List ℕ) (at next : ℕ) (old new : List Path) (path : Path)
    → at < length input → path.bytes.now ≡ first_piece end (drop at input)
    → drop (at + suc (length path.bytes.now)) input ≡ drop next input
    → new ≡ old ++ path ∷ []
    → paths_of old ++ records_of end (drop at input) ≡ records_of end input
    → paths_of new ++ records_of end (drop next input) ≡ records_of end input
records_taken end input at next old new path l e d added h =
    let xs = drop at input in
    let front = path.bytes.now in
    ap (λ paths. paths_of paths ++ records_of end (drop next input)) added
    ∙ ap (λ records. records ++ records_of end (drop next input))
    (map-append (λ (path : Path). path.bytes.now) old (path ∷ []))
    ∙ append_assoc (paths_of old) (front ∷ []) (records_of end (drop next input))
    ∙ ap (λ rest. paths_of old ++ front ∷ records_of end rest)
    (sym (drop-drop (suc (length front)) at input ∙ d))
    ∙ ap (λ records. paths_of old ++ records)
    (sym (records_of-drop end front xs (omega (arith, length-drop at input)) e)) ∙ h

-- all records were taken off an input
pub records_done : (end : ℕ) (input : List ℕ) (at : ℕ) (paths : List (List ℕ))
    → length input ≤ at
    → paths ++ records_of end (drop at input) ≡ records_of end input
    → paths ≡ records_of end input
records_done end input at paths l h =
    sym (append-nil paths)
    ∙ ap (λ records. paths ++ records)
    (sym (at_drop_all (records_of end) input at l ∙ records_of-nil end)) ∙ h

onto_first-front : (z : ℕ) (ps qs : List (List ℕ)) → 0 < length ps
    → onto_first z (ps ++ qs) ≡ onto_first z ps ++ qs
onto_first-front z [] qs l = absurd (omega arith)
onto_first-front z (p ∷ ps) qs l = refl

some_pieces : (end : ℕ) (xs : List ℕ) → 0 < length (slice_split (is_end end) xs)
some_pieces end xs = omega (arith, length-slice_split (is_end end) xs)

-- the pieces of two strings with `end` between them
pieces_meet : (end : ℕ) (zs ys : List ℕ) → slice_split (is_end end) (zs ++ end ∷ ys)
    ≡ slice_split (is_end end) zs ++ slice_split (is_end end) ys
pieces_meet end [] ys = slice_split-cons_yes (is_end end) end ys (eq_self end)
pieces_meet end (z ∷ zs) ys =
    by_test (is_end end z)
    (λ e. slice_split-cons_yes (is_end end) z (zs ++ end ∷ ys) e
    ∙ ap (λ ps. [] ∷ ps) (pieces_meet end zs ys)
    ∙ ap (λ ps. ps ++ slice_split (is_end end) ys)
    (sym (slice_split-cons_yes (is_end end) z zs e)))
    (λ e. slice_split-cons_no (is_end end) z (zs ++ end ∷ ys) e
    ∙ ap (onto_first z) (pieces_meet end zs ys)
    ∙ onto_first-front z (slice_split (is_end end) zs) (slice_split (is_end end) ys)
    (some_pieces end zs)
    ∙ ap (λ ps. ps ++ slice_split (is_end end) ys)
    (sym (slice_split-cons_no (is_end end) z zs e)))

-- only the last piece may go
last_pieces : (ps qs : List (List ℕ)) → 0 < length qs
    → without_empty_last (ps ++ qs) ≡ ps ++ without_empty_last qs
last_pieces [] qs l = refl
last_pieces (p ∷ []) [] l = absurd (omega arith)
last_pieces (p ∷ []) (q ∷ qs) l = without_empty_last-cons p q qs
last_pieces (p ∷ r ∷ ps) qs l =
    without_empty_last-cons p r (ps ++ qs) ∙ ap (λ l. p ∷ l) (last_pieces (r ∷ ps) qs l)

-- the pieces of the first of two strings with `end` between them, and the records of the second
pub records_before : (end : ℕ) (zs ys : List ℕ) → records_of end (zs ++ end ∷ ys)
    ≡ slice_split (is_end end) zs ++ records_of end ys
unfolding records_of
records_before end zs ys =
    ap without_empty_last (pieces_meet end zs ys)
    ∙ last_pieces (slice_split (is_end end) zs) (slice_split (is_end end) ys) (some_pieces end ys)

-- the records of two strings with `end` between them
pub records_meet : (end : ℕ) (zs ys : List ℕ) → records_of end (zs ++ end ∷ ys)
    ≡ records_of end (zs ++ end ∷ []) ++ records_of end ys
records_meet end zs ys =
    records_before end zs ys
    ∙ ap (λ ps. ps ++ records_of end ys)
    (sym (records_before end zs []
    ∙ ap (λ l. slice_split (is_end end) zs ++ l) (records_of-nil end)
    ∙ append-nil (slice_split (is_end end) zs)))
