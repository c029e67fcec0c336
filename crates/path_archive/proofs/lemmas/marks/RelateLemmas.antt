-- How a use relates to an earlier one.
use Rattle.std.proofs.Common.{◌≡◌, ◌⊎◌, ◌↔◌, ◌+◌, ℕ, Bool, IsTrue, true, false, List, [], ◌∷◌, ◌++◌}
use Rattle.std.proofs.Common.{sym, ap, ◌∙◌, subst, inl, inr, arith, length, true≢false}
use Rattle.std.proofs.lemmas.List.{append-nil, length-append}
use Rattle.unix_path.specs.Parts.{Value}
use Rattle.unix_path.specs.Prefixes.{IsPrefixOf}
use Rattle.path_archive.specs.Entries.{components}
use Rattle.path_archive.specs.Rule.{Clash, is_directory, kinds_clash}
use Rattle.path_archive.specs.Slots.{path_at, use_at, used_as_of}
use Rattle.path_archive.specs.declared.slot.Slot.{Slot}
use Rattle.path_archive.proofs.lemmas.marks.PassLemmas.{directory_clash}

-- lists that each begin with the other are equal
same_prefixes : (v w : List Value) → IsPrefixOf v w → IsPrefixOf w v → v ≡ w
same_prefixes v w ([], is) back = sym (append-nil v) ∙ is
same_prefixes v w (x ∷ more, is) (rest, back) =
    let first : length v + length (x ∷ more) ≡ length w = sym (length-append v (x ∷ more))
    ∙ ap length is in
    let second : length w + length rest ≡ length v = sym (length-append w rest) ∙ ap length back in
    absurd (omega arith)

-- a list begins with an equal one
pub begins_itself : (v w : List Value) → v ≡ w → IsPrefixOf v w
begins_itself v w same = ([], append-nil v ∙ same)

-- the components at two slots
abbrev pub Begins : List ℕ → Slot → Slot → Type 0
Begins r a b = IsPrefixOf (components (path_at r a)) (components (path_at r b))

-- what a test of the beginning says of two slots
pub begins_if : (r : List ℕ) (a b : Slot) (v w : List Value) (t : Bool)
    → (IsTrue t ↔ IsPrefixOf v w) → v ≡ components (path_at r a) → w ≡ components (path_at r b)
    → t ≡ true → Begins r a b
begins_if r a b v w t h v_is w_is is =
    subst (λ x. IsPrefixOf x (components (path_at r b))) v_is
    (subst (λ x. IsPrefixOf v x) w_is (h.0 is))

-- what a failed test of the beginning says of two slots
pub not_begins_if : (r : List ℕ) (a b : Slot) (v w : List Value) (t : Bool)
    → (IsTrue t ↔ IsPrefixOf v w) → v ≡ components (path_at r a) → w ≡ components (path_at r b)
    → t ≡ false → Begins r a b → ⊥
not_begins_if r a b v w t h v_is w_is is begins =
    true≢false (sym (h.1 (subst (λ x. IsPrefixOf x w) (sym v_is)
    (subst (λ x. IsPrefixOf (components (path_at r a)) x) (sym w_is) begins))) ∙ is)

-- a use whose path doesn't begin with the earlier one
pub relate_other : (r : List ℕ) (a b : Slot) → (Begins r a b → ⊥) → Clash (use_at r a) (use_at r b)
    → ⊥
unfolding use_at
relate_other r a b other (◌⊎◌.inl below) = other (below.name ∷ below.more, below.below)
relate_other r a b other (◌⊎◌.inr twice) =
    other (begins_itself (components (path_at r a)) (components (path_at r b)) twice.same)

-- a use whose path doesn't begin with the earlier one has another path
pub relate_not_same : (r : List ℕ) (a b : Slot) → (Begins r a b → ⊥)
    → components (path_at r a) ≡ components (path_at r b) → ⊥
relate_not_same r a b other same =
    other (begins_itself (components (path_at r a)) (components (path_at r b)) same)

-- two uses of one path
pub relate_same : (r : List ℕ) (a b : Slot) → Begins r a b → Begins r b a
    → components (path_at r a) ≡ components (path_at r b)
relate_same r a b there back =
    same_prefixes (components (path_at r a)) (components (path_at r b)) there back

-- two uses of one path clash if and only if their ranks do
pub relate_ranks_clash : (r : List ℕ) (a b : Slot) → Begins r a b → Begins r b a
    → (kinds_clash (used_as_of a.rank) (used_as_of b.rank) ≡ true)
    ↔ Clash (use_at r a) (use_at r b)
unfolding use_at
relate_ranks_clash r a b there back =
    (λ k. inr record { same = relate_same r a b there back; clash = k }, clash)
  where
    clash : Clash (use_at r a) (use_at r b) → kinds_clash (used_as_of a.rank) (used_as_of b.rank)
        ≡ true
    clash (◌⊎◌.inr twice) = twice.clash
    clash (◌⊎◌.inl below) =
        let same : components (path_at r a) ++ below.name ∷ below.more ≡ components (path_at r a) =
        below.below ∙ sym (relate_same r a b there back) in
        let sizes : length (components (path_at r a)) + length (below.name ∷ below.more)
        ≡ length (components (path_at r a)) =
        sym (length-append (components (path_at r a)) (below.name ∷ below.more))
        ∙ ap length same in
        absurd (omega arith)

-- a use below the earlier one
pub relate_below : (r : List ℕ) (a b : Slot) → Begins r a b → (Begins r b a → ⊥)
    → is_directory (used_as_of a.rank) ≡ false → Clash (use_at r a) (use_at r b)
unfolding use_at
relate_below r a b ([], is) not_back leaf =
    absurd (not_back (begins_itself (components (path_at r b)) (components (path_at r a))
    (sym (sym (append-nil (components (path_at r a))) ∙ is))))
relate_below r a b (name ∷ more, is) not_back leaf =
    inl record { leaf = leaf; name = name; more = more; below = is }

-- nothing below a directory clashes with it
pub relate_directory : (r : List ℕ) (a b : Slot) → is_directory (used_as_of a.rank) ≡ true
    → Clash (use_at r a) (use_at r b) → ⊥
unfolding use_at
relate_directory r a b directory c = directory_clash (use_at r a) (use_at r b) directory c

-- a use below an earlier one has another path
pub relate_not_back : (r : List ℕ) (a b : Slot) → (Begins r b a → ⊥)
    → components (path_at r a) ≡ components (path_at r b) → ⊥
relate_not_back r a b not_back same =
    not_back (begins_itself (components (path_at r b)) (components (path_at r a)) (sym same))
