-- Why a use is refused.
use Rattle.std.proofs.Common.{◌≡◌, ◌≢◌, ◌⊎◌, ◌↔◌, ◌<◌, ◌+◌, ◌==◌, ℕ, Bool, true, false, List, []}
use Rattle.std.proofs.Common.{◌∷◌, refl, sym, ap, ◌∙◌, subst, arith, length, map, slice_index_or}
use Rattle.std.proofs.Common.{slice_index, true≢false, if◌then◌else◌}
use Rattle.std.specs.Prelude.{AllPairs, Contains}
use Rattle.std.proofs.lemmas.List.{get_or-map, length-append, length-map}
use Rattle.path_archive.specs.Entries.{Use, use_as, components}
use Rattle.path_archive.specs.Levels.{asks_closed}
use Rattle.path_archive.specs.Marks.{Marked, use_in}
use Rattle.path_archive.specs.Refusals.{AreTwo, ClashesFor, ForbiddenFor, IsTrueOf, numbered_at}
use Rattle.path_archive.specs.Refusals.ClashesFor.{below, target, twice}
use Rattle.path_archive.specs.Refusals.ForbiddenFor.{name, kind, out}
use Rattle.path_archive.specs.Refusals.IsTrueOf.{forbidden, clashes}
use Rattle.path_archive.specs.Rule.{Clash, IsAllowedAt, IsClosedAt, IsNamed, IsUsedTwice}
use Rattle.path_archive.specs.Rule.{StaysInside}
use Rattle.path_archive.specs.Slots.{field_at, path_at, target_at, use_at, used_as_of}
use Rattle.path_archive.specs.declared.level.Level.{Level}
use Rattle.path_archive.specs.declared.refusal.Reason.{Reason}
use Rattle.path_archive.specs.declared.refusal.Reason.TheVariants.{Name, Kind, BelowLeaf}
use Rattle.path_archive.specs.declared.refusal.Reason.TheVariants.{LinkUsedTwice, TargetIsLink}
use Rattle.path_archive.specs.declared.refusal.Reason.TheVariants.{LeadsOut}
use Rattle.path_archive.specs.declared.slot.Slot.{Slot}
use Rattle.path_archive.proofs.lemmas.marks.OrderLemmas.{rank_of}
use Rattle.path_archive.proofs.lemmas.marks.PassLemmas.{rank}
use Rattle.path_archive.proofs.lemmas.marks.RelateLemmas.{Begins, begins_itself}
use Rattle.path_archive.proofs.lemmas.marks.StepLemmas.{uses_at, use_is}
use Rattle.path_archive.proofs.lemmas.marks.UnmarkedLemmas.{causes_of}

-- a use that clashes with one that doesn't begin with its path is below it
pub below_reason : (r : List ℕ) (a b : Slot) → Clash (use_at r a) (use_at r b)
    → (Begins r b a → ⊥) → ClashesFor (use_at r a) (use_at r b) BelowLeaf
unfolding use_at
below_reason r a b (◌⊎◌.inl h) other = below h
below_reason r a b (◌⊎◌.inr h) other =
    absurd (other (begins_itself (components (path_at r b)) (components (path_at r a))
    (sym h.same)))

-- a use that clashes with one that begins with its path is of the same path
used_twice : (r : List ℕ) (a b : Slot) → Clash (use_at r a) (use_at r b) → Begins r b a
    → IsUsedTwice (use_at r a) (use_at r b)
unfolding use_at
used_twice r a b (◌⊎◌.inl h) (rest, is) =
    let there : length (components (path_at r a)) + length (h.name ∷ h.more)
    ≡ length (components (path_at r b)) =
    sym (length-append (components (path_at r a)) (h.name ∷ h.more)) ∙ ap length h.below in
    let back : length (components (path_at r b)) + length rest ≡ length (components (path_at r a)) =
    sym (length-append (components (path_at r b)) rest) ∙ ap length is in
    absurd (omega arith)
used_twice r a b (◌⊎◌.inr h) begins = h

-- a target of the same path as a link
pub target_reason : (r : List ℕ) (a b : Slot) → Clash (use_at r a) (use_at r b) → Begins r b a
    → b.rank ≡ 2 → ClashesFor (use_at r a) (use_at r b) TargetIsLink
unfolding use_at
target_reason r a b clash begins is =
    target (used_twice r a b clash begins) (ap used_as_of is)

-- another use of the same path as a link
pub twice_reason : (r : List ℕ) (a b : Slot) → Clash (use_at r a) (use_at r b) → Begins r b a
    → b.rank ≢ 2 → ClashesFor (use_at r a) (use_at r b) LinkUsedTwice
unfolding use_at
twice_reason r a b clash begins other =
    twice (used_twice r a b clash begins) (λ is.
    (let first : 2 ≡ rank (used_as_of b.rank) = sym (ap rank is) in
    let second = rank_of b.rank in
    let same : b.rank ≡ 2 = omega arith in
    other same))

-- a slot of another kind
pub kind_reason : (level : Level) (r : List ℕ) (s : Slot) → s.rank ≡ 4
    → ForbiddenFor level (use_at r s) Kind
unfolding use_at
kind_reason level r s is = kind (ap used_as_of is)

-- a slot whose path is not of names
pub name_reason : (level : Level) (r : List ℕ) (s : Slot)
    → (IsNamed (use_as (used_as_of s.rank) (path_at r s)) → ⊥)
    → ForbiddenFor level (use_at r s) Name
unfolding use_at
name_reason level r s other =
    name (λ h. other record { names = h.names; no_nul = h.no_nul; ends = h.ends })

-- a slot whose path is of names, whose kind is known, and whose link doesn't lead out
pub allowed_at : (level : Level) (r : List ℕ) (s : Slot) → s.rank ≢ 4
    → IsNamed (use_as (used_as_of s.rank) (path_at r s)) → IsClosedAt level (use_at r s)
    → IsAllowedAt level (use_at r s)
unfolding use_at
allowed_at level r s other h inside = record {
  allowed = record {
    named = record { names = h.names; no_nul = h.no_nul; ends = h.ends };
    known = λ is.
        (let first : 4 ≡ rank (used_as_of s.rank) = sym (ap rank is) in
        let second = rank_of s.rank in
        let same : s.rank ≡ 4 = omega arith in
        other same);
  };
  closed = inside;
}

-- a slot of a link that leads out
pub out_reason : (level : Level) (r : List ℕ) (s : Slot) → (IsClosedAt level (use_at r s) → ⊥)
    → ForbiddenFor level (use_at r s) LeadsOut
out_reason level r s other = out other

-- a level that doesn't ask where links lead
pub not_asked : (level : Level) (u : Use) → asks_closed level ≡ false
    → (false ≡ false) ↔ IsClosedAt level u
not_asked level u is = (λ h asked. absurd (true≢false (sym asked ∙ is)), λ h. refl)

-- a slot that isn't a symbolic link's
pub no_link : (level : Level) (r : List ℕ) (s : Slot) → s.rank ≢ 0
    → (false ≡ false) ↔ IsClosedAt level (use_at r s)
unfolding use_at
no_link level r s other = (
  λ h asked is. absurd
      (let first : 0 ≡ rank (used_as_of s.rank) = sym (ap rank is) in
      let second = rank_of s.rank in
      let same : s.rank ≡ 0 = omega arith in
      other same),
  λ h. refl,
)

-- a slot of a symbolic link, at a level that asks where it leads
pub link_leads : (level : Level) (r : List ℕ) (s : Slot) (t : Bool) (path to : List ℕ)
    → asks_closed level ≡ true → s.rank ≡ 0 → path ≡ path_at r s
    → to ≡ field_at r (s.end + 1) → ((t ≡ false) ↔ StaysInside path to)
    → (t ≡ false) ↔ IsClosedAt level (use_at r s)
unfolding use_at
link_leads level r s t path to asked link path_is to_is found =
    let field : to ≡ target_at r s = to_is
    ∙ sym (ap (λ k. if k == 0 then field_at r (s.end + 1) else []) link) in (
      λ h asks is. subst (λ p. StaysInside p (target_at r s)) path_is
          (subst (StaysInside path) field (found.0 h)),
      λ h. found.1 (subst (λ p. StaysInside p to) (sym path_is)
          (subst (StaysInside (path_at r s)) (sym field) (h asked (ap used_as_of link)))),
    )

-- a slot's use is among the uses
pub use_listed : (r : List ℕ) (ss : List Slot) (k : ℕ) (d : Slot) → k < length ss
    → Contains (map (numbered_at r) ss)
    ((slice_index_or ss k d).entry, use_at r (slice_index_or ss k d))
use_listed r ss k d k_in = (
  k,
  (let size = length-map ss (numbered_at r) in omega arith),
  get_or-map (numbered_at r) ss k d (numbered_at r (slice_index_or ss k d)) k_in,
)

-- a marked slot clashes with its cause
pub cause_clashes : (r : List ℕ) (ss : List Slot) (k : ℕ) (d e : Slot) → k < length ss
    → Marked (uses_at r ss) (causes_of ss) → (slice_index_or ss k d).cause ≢ k
    → ((slice_index_or ss k d).cause < k)
    × Clash (use_at r (slice_index_or ss (slice_index_or ss k d).cause e))
    (use_at r (slice_index_or ss k d))
cause_clashes r ss k d e k_in marked other =
    let size = length-map ss (use_at r) in
    let c_is : slice_index (causes_of ss) k ≡ (slice_index_or ss k d).cause =
    get_or-map (λ (s : Slot). s.cause) ss k d 0 k_in in
    let known : (slice_index (causes_of ss) k < k)
    × Clash (use_in (uses_at r ss) (slice_index (causes_of ss) k))
    (use_in (uses_at r ss) k) =
    marked.refused k (omega arith) (λ own. other (sym c_is ∙ own)) in
    let low : (slice_index_or ss k d).cause < k = subst (λ v. v < k) c_is known.0 in
    let clash : Clash (use_in (uses_at r ss) (slice_index_or ss k d).cause)
    (use_in (uses_at r ss) k) =
    subst (λ v. Clash (use_in (uses_at r ss) v) (use_in (uses_at r ss) k)) c_is known.1 in (
      low,
      subst (λ u. Clash u (use_at r (slice_index_or ss k d)))
          (use_is r ss (slice_index_or ss k d).cause e (omega arith))
          (subst (λ u. Clash (use_in (uses_at r ss) (slice_index_or ss k d).cause) u)
          (use_is r ss k d k_in) clash),
    )

-- the refusal of a use that isn't allowed
pub forbidden_true : (level : Level) (r : List ℕ) (ss : List Slot) (k : ℕ) (d : Slot)
    (reason : Reason) → k < length ss
    → ForbiddenFor level (use_at r (slice_index_or ss k d)) reason
    → IsTrueOf level (map (numbered_at r) ss) (record {
      entry = (slice_index_or ss k d).entry;
      cause = (slice_index_or ss k d).entry;
      reason =
          reason;
    })
forbidden_true level r ss k d reason k_in why = forbidden (use_listed r ss k d k_in) refl why

-- two slots are two uses
two_at : (r : List ℕ) (ss : List Slot) (v k : ℕ) (e d : Slot)
    → AllPairs AreTwo (map (numbered_at r) ss) → v < k → k < length ss
    → AreTwo (numbered_at r (slice_index_or ss v e)) (numbered_at r (slice_index_or ss k d))
two_at r ss v k e d two before k_in =
    let size = length-map ss (numbered_at r) in
    let z : ℕ × Use = numbered_at r d in
    subst (λ a. AreTwo a (numbered_at r (slice_index_or ss k d)))
    (get_or-map (numbered_at r) ss v e z (omega arith))
    (subst (λ b. AreTwo (slice_index_or (map (numbered_at r) ss) v z) b)
    (get_or-map (numbered_at r) ss k d z k_in) (two v k z before (omega arith)))

-- the refusal of a use that clashes with its cause
pub clash_true : (level : Level) (r : List ℕ) (ss : List Slot) (k : ℕ) (d e : Slot)
    (reason : Reason) → k < length ss → AllPairs AreTwo (map (numbered_at r) ss)
    → (slice_index_or ss k d).cause < k
    → ClashesFor (use_at r (slice_index_or ss (slice_index_or ss k d).cause e))
    (use_at r (slice_index_or ss k d)) reason
    → IsTrueOf level (map (numbered_at r) ss) (record {
      entry = (slice_index_or ss k d).entry;
      cause = (slice_index_or ss (slice_index_or ss k d).cause e).entry;
      reason = reason;
    })
clash_true level r ss k d e reason k_in two before why =
    clashes (use_listed r ss (slice_index_or ss k d).cause e (omega arith))
    (use_listed r ss k d k_in)
    (two_at r ss (slice_index_or ss k d).cause k e d two before k_in) why
