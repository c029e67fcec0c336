-- One pass over sorted uses finds a use that clashes with each one that can't stay.
use Rattle.std.proofs.Common.{◌≡◌, ◌⊎◌, ◌≤◌, ℕ, true, false, List, [], ◌∷◌, ◌++◌, refl, sym, ap}
use Rattle.std.proofs.Common.{◌∙◌, subst, inl, inr, arith, true≢false, Ordering, Less, Equal}
use Rattle.std.proofs.Common.{Greater, length, ◌+◌}
use Rattle.std.specs.Ordering.{is_le, ordering_reverse}
use Rattle.std.proofs.lemmas.List.{append-nil, length-append}
use Rattle.unix_path.specs.Parts.{Value}
use Rattle.unix_path.specs.Order.{values_cmp}
use Rattle.unix_path.specs.OrderLaws.{values_cmp-total, values_cmp-equal}
use Rattle.unix_path.specs.Prefixes.{IsPrefixOf}
use Rattle.path_runs.proofs.lemmas.order.IntervalLemmas.{begins_between, base_not_greater}
use Rattle.path_archive.specs.Entries.{UsedAs, UsedAsSymlink, UsedAsHardLink, UsedAsTarget}
use Rattle.path_archive.specs.Entries.{UsedAsDirectory, UsedAsFile, UsedAsOther, Use, components}
use Rattle.path_archive.specs.Rule.{Clash, kinds_clash, is_directory}

-- the position of a kind among uses of one path: what clashes with others comes first
abbrev pub rank : UsedAs → ℕ
rank UsedAsSymlink = 0
rank UsedAsHardLink = 1
rank UsedAsTarget = 2
rank UsedAsFile = 3
rank UsedAsOther = 4
rank UsedAsDirectory = 5

-- v doesn't come before u, in the order of paths and then of ranks
pub record Ordered (u v : Use) : Type 0 where
  pub places : is_le (values_cmp (components u.path) (components v.path)) ≡ true
  pub ranks : components u.path ≡ components v.path → rank u.used_as ≤ rank v.used_as

-- what is at least and at most a list is that list
between_equal : (p q : List Value) → is_le (values_cmp p q) ≡ true → is_le (values_cmp q p) ≡ true
    → p ≡ q
between_equal p q there back = values_cmp-equal p q (both (values_cmp p q) (values_cmp q p)
    (values_cmp-total.antisymm q p) there back)
  where
    both : (o r : Ordering) → r ≡ ordering_reverse o → is_le o ≡ true → is_le r ≡ true → o ≡ Equal
    both Less r is there back = absurd (true≢false (sym back ∙ ap is_le is))
    both Equal r is there back = refl
    both Greater r is there back = absurd (true≢false (sym there))

-- no list is at most a list that it begins with and is longer than
not_longer : (p more : List Value) (v : Value)
    → is_le (values_cmp (p ++ v ∷ more) p) ≡ true → ⊥
not_longer p more v h =
    let same : p ++ v ∷ more ≡ p =
    between_equal (p ++ v ∷ more) p h (base_not_greater p (p ++ v ∷ more) (v ∷ more, refl)) in
    let sizes : length p + length (v ∷ more) ≡ length p =
    sym (length-append p (v ∷ more)) ∙ ap length same in
    omega arith

-- the order is transitive
le_trans : (p q r : List Value) → is_le (values_cmp p q) ≡ true → is_le (values_cmp q r) ≡ true
    → is_le (values_cmp p r) ≡ true
le_trans p q r there on =
    by_orders (values_cmp p q) (values_cmp q r) there on
    (λ less next. ap is_le (values_cmp-total.trans p q r less next))
    (λ less same. ap is_le (subst (λ x. values_cmp p x ≡ Less) (values_cmp-equal q r same) less))
    (λ same. ap is_le (values_cmp-total.congr p q r same) ∙ on)
  where
    by_orders : {A : Type 0} (a b : Ordering) → is_le a ≡ true → is_le b ≡ true
        → (a ≡ Less → b ≡ Less → A) → (a ≡ Less → b ≡ Equal → A) → (a ≡ Equal → A) → A
    by_orders Less Less h k f g e = f refl refl
    by_orders Less Equal h k f g e = g refl refl
    by_orders Less Greater h k f g e = absurd (true≢false (sym k))
    by_orders Equal b h k f g e = e refl
    by_orders Greater b h k f g e = absurd (true≢false (sym h))

-- the order of uses is transitive
pub Ordered-trans : (u v w : Use) → Ordered u v → Ordered v w → Ordered u w
Ordered-trans u v w h k = record {
  places = le_trans (components u.path) (components v.path) (components w.path) h.places k.places;
  ranks = λ same.
      let middle : components u.path ≡ components v.path =
      between_equal (components u.path) (components v.path) h.places
      (subst (λ x. is_le (values_cmp (components v.path) x) ≡ true) (sym same) k.places) in
      let first : rank u.used_as ≤ rank v.used_as = h.ranks middle in
      let second : rank v.used_as ≤ rank w.used_as = k.ranks (sym middle ∙ same) in
      omega arith;
}

-- what clashes with a use of a lower rank clashes the other way, too
kinds_back : (a b : UsedAs) → kinds_clash a b ≡ true → rank b ≤ rank a → kinds_clash b a ≡ true
kinds_back UsedAsSymlink UsedAsSymlink h low = refl
kinds_back UsedAsSymlink UsedAsHardLink h low = absurd (omega arith)
kinds_back UsedAsSymlink UsedAsTarget h low = absurd (omega arith)
kinds_back UsedAsSymlink UsedAsFile h low = absurd (omega arith)
kinds_back UsedAsSymlink UsedAsOther h low = absurd (omega arith)
kinds_back UsedAsSymlink UsedAsDirectory h low = absurd (omega arith)
kinds_back UsedAsHardLink UsedAsTarget h low = absurd (omega arith)
kinds_back UsedAsHardLink UsedAsSymlink h low = cc
kinds_back UsedAsHardLink UsedAsHardLink h low = cc
kinds_back UsedAsHardLink UsedAsFile h low = cc
kinds_back UsedAsHardLink UsedAsOther h low = cc
kinds_back UsedAsHardLink UsedAsDirectory h low = cc
kinds_back UsedAsTarget b h low = cc
kinds_back UsedAsFile b h low = cc
kinds_back UsedAsOther b h low = cc
kinds_back UsedAsDirectory b h low = cc

-- what clashes with a later use clashes with it also as the earlier one
pub clash_back : (v w : Use) → Ordered v w → Clash w v → Clash v w
clash_back v w h (◌⊎◌.inl below) = absurd (not_longer (components w.path) below.more below.name
    (subst (λ x. is_le (values_cmp x (components w.path)) ≡ true) (sym below.below) h.places))
clash_back v w h (◌⊎◌.inr twice) = inr record {
  same = sym twice.same;
  clash = kinds_back w.used_as v.used_as twice.clash (h.ranks (sym twice.same));
}

-- if b clashes with c, then a, which has no higher rank than b, clashes with b or with c
kinds_first : (a b c : UsedAs) → rank a ≤ rank b → kinds_clash b c ≡ true
    → (kinds_clash a b ≡ true) ⊎ (kinds_clash a c ≡ true)
kinds_first UsedAsSymlink b c low h = inl refl
kinds_first UsedAsHardLink UsedAsHardLink c low h = inr h
kinds_first UsedAsHardLink UsedAsSymlink c low h = absurd (omega arith)
kinds_first UsedAsTarget UsedAsSymlink c low h = absurd (omega arith)
kinds_first UsedAsTarget UsedAsHardLink c low h = absurd (omega arith)
kinds_first UsedAsFile UsedAsSymlink c low h = absurd (omega arith)
kinds_first UsedAsFile UsedAsHardLink c low h = absurd (omega arith)
kinds_first UsedAsOther UsedAsSymlink c low h = absurd (omega arith)
kinds_first UsedAsOther UsedAsHardLink c low h = absurd (omega arith)
kinds_first UsedAsDirectory UsedAsSymlink c low h = absurd (omega arith)
kinds_first UsedAsDirectory UsedAsHardLink c low h = absurd (omega arith)
kinds_first a UsedAsTarget c low h = cc
kinds_first a UsedAsFile c low h = cc
kinds_first a UsedAsOther c low h = cc
kinds_first a UsedAsDirectory c low h = cc

-- a directory clashes with nothing later
pub directory_clash : (u w : Use) → is_directory u.used_as ≡ true → Clash u w → ⊥
directory_clash u w h (◌⊎◌.inl below) = true≢false (sym h ∙ below.leaf)
directory_clash u w h (◌⊎◌.inr twice) = none u.used_as w.used_as h twice.clash
  where
    none : (a b : UsedAs) → is_directory a ≡ true → kinds_clash a b ≡ true → ⊥
    none UsedAsDirectory b h k = true≢false (sym k)
    none UsedAsSymlink b h k = true≢false (sym h)
    none UsedAsHardLink b h k = true≢false (sym h)
    none UsedAsTarget b h k = true≢false (sym h)
    none UsedAsFile b h k = true≢false (sym h)
    none UsedAsOther b h k = true≢false (sym h)

-- what clashes with u clashes with v, the first leaf of the same path, if u doesn't
pub clash_first : (u v w : Use) → is_directory v.used_as ≡ false → Ordered v u
    → components v.path ≡ components u.path → (Clash v u → ⊥) → Clash u w → Clash v w
clash_first u v w leaf h same free (◌⊎◌.inl below) = inl record {
  leaf = leaf;
  name = below.name;
  more = below.more;
  below = ap (λ x. x ++ below.name ∷ below.more) same ∙ below.below;
}
clash_first u v w leaf h same free (◌⊎◌.inr twice) =
    elim (kinds_first v.used_as u.used_as w.used_as (h.ranks same) twice.clash) [
      | ◌⊎◌.inl k ↦ absurd (free (inr record { same = same; clash = k }))
      | ◌⊎◌.inr k ↦ inr record { same = same ∙ twice.same; clash = k }
    ]

-- nothing after a use with another path clashes with v, if that use doesn't
pub clash_ends : (u v w : Use) → Ordered v u → Ordered u w
    → (components v.path ≡ components u.path → ⊥) → (Clash v u → ⊥) → Clash v w → ⊥
clash_ends u v w h k other free (◌⊎◌.inl below) =
    longer (begins_between (components v.path) (components v.path) (components u.path)
    (components w.path) ([], append-nil (components v.path))
    (below.name ∷ below.more, below.below) h.places k.places)
  where
    longer : IsPrefixOf (components v.path) (components u.path) → ⊥
    longer ([], is) = other (sym (append-nil (components v.path)) ∙ is)
    longer (name ∷ more, is) =
        free (inl record { leaf = below.leaf; name = name; more = more; below = is })
clash_ends u v w h k other free (◌⊎◌.inr twice) =
    other (between_equal (components v.path) (components u.path) h.places
    (subst (λ x. is_le (values_cmp (components u.path) x) ≡ true) (sym twice.same) k.places))
