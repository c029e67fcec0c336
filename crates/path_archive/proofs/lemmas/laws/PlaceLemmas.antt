-- The places that an extractor comes to for accepted entries.
use Rattle.std.specs.Prelude.{◌≡◌, Bool, true, false, ◌&&◌, not, List, [], ◌∷◌, ◌++◌, Contains}
use Rattle.std.proofs.Common.{sym, ap, ◌∙◌, subst, refl, length, ◌+◌, arith}
use Rattle.std.proofs.lemmas.List.{append_assoc, append-nil, length-append}
use Rattle.std.proofs.lemmas.Bool.{both_ways}
use Rattle.unix_path.specs.Parts.{Value, RootDir, CurDir, ParentDir, Normal}
use Rattle.unix_path.specs.Prefixes.{IsPrefixOf}
use Rattle.path_within.specs.Resolved.{AllNames}
use Rattle.path_archive.specs.FileSystems.{Place, FileSystem, Leads}
use Rattle.path_archive.specs.Entries.{EntryValue, path_of, components, is_symlink}
use Rattle.path_archive.specs.Rule.{Accepted, Closed}
use Rattle.path_archive.proofs.lemmas.laws.RuleLemmas.{Uses, used_names, used_apart}
use Rattle.path_archive.proofs.lemmas.laws.RuleLemmas.Uses.{path}
use Rattle.path_archive.specs.Extractions.{Reaches}
use Rattle.path_archive.specs.Extractions.Reaches.{way, end, unfollowed}
use Rattle.path_archive.proofs.lemmas.laws.ClosedLemmas.{closed_inside, StaysBelow-plain}
use Rattle.path_archive.proofs.lemmas.laws.StraightLemmas.{HasOwnLinks, PassesNone, straight}

-- `&&` with true
and_true : (b : Bool) → (b && true) ≡ b
and_true true = refl
and_true false = refl

-- the front of names is names
AllNames-front : (vs ws : List Value) → AllNames (vs ++ ws) → AllNames vs
AllNames-front [] ws h = tt
AllNames-front (RootDir ∷ vs) ws h = absurd h
AllNames-front (CurDir ∷ vs) ws h = absurd h
AllNames-front (ParentDir ∷ vs) ws h = absurd h
AllNames-front (Normal n ∷ vs) ws h = AllNames-front vs ws h

-- a list is not equal to itself with more after it
no_more : (vs ws xs : List Value) (v : Value) → vs ≡ (vs ++ ws) ++ v ∷ xs → ⊥
no_more vs ws xs v e =
    let sizes : length vs ≡ (length vs + length ws) + length (v ∷ xs) =
    ap length e ∙ length-append (vs ++ ws) (v ∷ xs)
    ∙ ap (λ n. n + length (v ∷ xs)) (length-append vs ws) in
    omega arith

-- what is used by an entry that is no link passes no link
pub others_pass : (entries : List EntryValue) → Accepted entries → (e : EntryValue) (q : List Value)
    → Contains entries e → Uses e q → is_symlink e ≡ false → PassesNone entries q
others_pass entries ok e q c u no_link p t in_list h =
    both_ways (is_symlink e) no_link (used_apart entries ok p t e q in_list c u h).0

-- what lies before the end of a used path passes no link
pub fronts_pass : (entries : List EntryValue) → Accepted entries
    → (e : EntryValue) (front more : List Value)
    (v : Value) → Contains entries e → components (path_of e) ≡ front ++ v ∷ more
    → PassesNone entries front
fronts_pass entries ok e front more v c e_is p t in_list h =
    let longer : IsPrefixOf (components p) (components (path_of e)) = (
      h.0 ++ v ∷ more,
      sym (append_assoc (components p) h.0 (v ∷ more)) ∙ ap (λ x. x ++ v ∷ more) h.1 ∙ sym e_is,
    ) in
    let same = (used_apart entries ok p t e (components (path_of e)) in_list c path longer).1 in
    no_more (components p) h.0 more v (same ∙ e_is ∙ ap (λ x. x ++ v ∷ more) (sym h.1))

-- the place of a front of a used path
pub front_place : (entries : List EntryValue) → Accepted entries → (top : Place) (fs : FileSystem)
    → HasOwnLinks entries top fs → (e : EntryValue) (front more : List Value) (v : Value)
    (q : Place)
    → Contains entries e → components (path_of e) ≡ front ++ v ∷ more → Leads fs top front q
    → q ≡ top ++ front
front_place entries ok top fs own e front more v q c e_is l =
    straight entries top fs own top q front l [] (sym (append-nil top))
    (AllNames-front front (v ∷ more)
    (subst AllNames e_is (used_names entries ok e (components (path_of e)) c path)))
    (fronts_pass entries ok e front more v c e_is)

-- the place of a path that is used by an entry that is no link
pub used_place : (entries : List EntryValue) → Accepted entries → (top : Place) (fs : FileSystem)
    → HasOwnLinks entries top fs → (e : EntryValue) (p : List Value) (q : Place)
    → Contains entries e → Uses e p → is_symlink e ≡ false → Leads fs top p q → q ≡ top ++ p
used_place entries ok top fs own e p q c u no_link l =
    straight entries top fs own top q p l [] (sym (append-nil top)) (used_names entries ok e p c u)
    (others_pass entries ok e p c u no_link)

-- the place of an entry's own path, followed at its end
end_inside : (careless : Bool) (entries : List EntryValue) → Accepted entries
    → (careless ≡ true → Closed entries) → (top : Place) (fs : FileSystem)
    → HasOwnLinks entries top fs → (e : EntryValue) (q : Place) → Contains entries e
    → (is_symlink e && not careless) ≡ false → Leads fs top (components (path_of e)) q
    → IsPrefixOf top q
end_inside true entries ok closed top fs own e q c follows l =
    closed_inside entries (closed refl) top fs own top q (components (path_of e)) l []
    (sym (append-nil top))
    (StaysBelow-plain (components (path_of e)) []
    (used_names entries ok e (components (path_of e)) c path))
end_inside false entries ok closed top fs own e q c follows l = (
  components (path_of e),
  sym (used_place entries ok top fs own e (components (path_of e)) q c path
      (sym (and_true (is_symlink e)) ∙ follows) l),
)

-- each place that an extractor comes to is `top` or below it
pub reaches_inside : (careless : Bool) (entries : List EntryValue) → Accepted entries
    → (careless ≡ true → Closed entries) → (top : Place) (fs : FileSystem)
    → HasOwnLinks entries top fs → (e : EntryValue) (q : Place) → Contains entries e
    → Reaches careless fs top e q → (p : List Value) × (q ≡ top ++ p)
reaches_inside careless entries ok closed top fs own e q c (way front v more e_is l) =
    (front, front_place entries ok top fs own e front more v q c e_is l)
reaches_inside careless entries ok closed top fs own e q c (end follows l) =
    let in_top = end_inside careless entries ok closed top fs own e q c follows l in
    (in_top.0, sym in_top.1)
reaches_inside careless entries ok closed top fs own e q c (unfollowed {q = at} front v e_is l) = (
  front ++ v ∷ [],
  ap (λ x. x ++ v ∷ []) (front_place entries ok top fs own e front [] v at c e_is l)
      ∙ append_assoc top front (v ∷ []),
)
