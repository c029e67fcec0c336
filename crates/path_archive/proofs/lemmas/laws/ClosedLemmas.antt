-- Paths that meet closed links stay inside.
use Rattle.std.specs.Prelude.{◌≡◌, ◌≢◌, ◌-◌, ◌+◌, List, [], ◌∷◌, ◌++◌, length, take}
use Rattle.std.proofs.Common.{sym, ap, ◌∙◌, subst, refl, arith}
use Rattle.std.proofs.lemmas.List.{append_assoc, length-append}
use Rattle.std.proofs.Math.Seq.{take-append_seam, take-append-add}
use Rattle.unix_path.specs.Parts.{Value, RootDir, CurDir, ParentDir, Normal}
use Rattle.unix_path.specs.Prefixes.{IsPrefixOf}
use Rattle.path_within.specs.Resolved.{AllNames}
use Rattle.path_archive.specs.FileSystems.{Place, FileSystem, Leads, parent}
use Rattle.path_archive.specs.FileSystems.Leads.{here, root, up, last, down, link}
use Rattle.path_archive.specs.Entries.{EntryValue, components}
use Rattle.path_archive.specs.Rule.{StaysBelow, Closed}
use Rattle.path_archive.proofs.lemmas.laws.StraightLemmas.{HasOwnLinks}

-- names, and then names
AllNames-append : (vs ws : List Value) → AllNames vs → AllNames ws → AllNames (vs ++ ws)
AllNames-append [] ws h k = k
AllNames-append (RootDir ∷ vs) ws h k = absurd h
AllNames-append (CurDir ∷ vs) ws h k = absurd h
AllNames-append (ParentDir ∷ vs) ws h k = absurd h
AllNames-append (Normal n ∷ vs) ws h k = AllNames-append vs ws h k

-- names stay below
pub StaysBelow-plain : (vs at : List Value) → AllNames vs → StaysBelow at vs
StaysBelow-plain [] at h = tt
StaysBelow-plain (RootDir ∷ vs) at h = absurd h
StaysBelow-plain (CurDir ∷ vs) at h = absurd h
StaysBelow-plain (ParentDir ∷ vs) at h = absurd h
StaysBelow-plain (Normal n ∷ vs) at h = h

-- and they may follow what stays below
StaysBelow-append : (vs ws at : List Value) → StaysBelow at vs → AllNames ws
    → StaysBelow at (vs ++ ws)
StaysBelow-append [] ws at h k = StaysBelow-plain ws at k
StaysBelow-append (RootDir ∷ vs) ws at h k = absurd h
StaysBelow-append (CurDir ∷ vs) ws at h k = absurd h
StaysBelow-append (ParentDir ∷ vs) ws at h k = (h.0, StaysBelow-append vs ws (parent at) h.1 k)
StaysBelow-append (Normal n ∷ vs) ws at h k = AllNames-append vs ws h k

-- the parent of what lies one name below
parent-name : (at : List Value) (v : Value) → parent (at ++ v ∷ []) ≡ at
parent-name at v =
    let size : length (at ++ v ∷ []) ≡ length at + 1 = length-append at (v ∷ []) in
    let count : length (at ++ v ∷ []) - 1 ≡ length at = omega arith in
    ap (λ n. take n (at ++ v ∷ [])) count ∙ take-append_seam at (v ∷ [])

-- the parent of a place below another, but not at it
parent-below : (top at : List Value) → at ≢ [] → parent (top ++ at) ≡ top ++ parent at
parent-below top [] h = absurd (h refl)
parent-below top (v ∷ vs) h =
    let size : length (top ++ v ∷ vs) ≡ length top + length (v ∷ vs) = length-append top (v ∷ vs) in
    let count : length (top ++ v ∷ vs) - 1 ≡ length top + (length (v ∷ vs) - 1) = omega arith in
    ap (λ n. take n (top ++ v ∷ vs)) count ∙ take-append-add top (v ∷ vs) (length (v ∷ vs) - 1)

-- components that stay below lead to a place inside, whatever links they meet
pub closed_inside : (entries : List EntryValue) → Closed entries → (top : Place) (fs : FileSystem)
    → HasOwnLinks entries top fs → (p q : Place) (vs : List Value) → Leads fs p vs q
    → (at : List Value) → p ≡ top ++ at → StaysBelow at vs → IsPrefixOf top q
closed_inside entries closed top fs own p q vs here at p_is h = (at, sym p_is)
closed_inside entries closed top fs own p q vs (root l) at p_is h = absurd h
closed_inside entries closed top fs own p q vs (up {vs = ws} l) at p_is h =
    closed_inside entries closed top fs own (parent p) q ws l (parent at)
    (ap parent p_is ∙ parent-below top at h.0) h.1
closed_inside entries closed top fs own p q vs (last {n = n}) at p_is h = (
  at ++ Normal n ∷ [],
  sym (ap (λ x. x ++ Normal n ∷ []) p_is ∙ append_assoc top at (Normal n ∷ [])),
)
closed_inside entries closed top fs own p q vs (down {n = n} {vs = ws} clear l) at p_is h =
    closed_inside entries closed top fs own (p ++ Normal n ∷ []) q ws l (at ++ Normal n ∷ [])
    (ap (λ x. x ++ Normal n ∷ []) p_is ∙ append_assoc top at (Normal n ∷ []))
    (StaysBelow-plain ws (at ++ Normal n ∷ []) h)
closed_inside entries closed top fs own p q vs (link {n = n} {vs = ws} t is l) at p_is h =
    let met = own (at ++ Normal n ∷ []) t
    (ap fs.at (sym (ap (λ x. x ++ Normal n ∷ []) p_is ∙ append_assoc top at (Normal n ∷ [])))
    ∙ is) in
    closed_inside entries closed top fs own p q (components t ++ ws) l at p_is
    (StaysBelow-append (components t) ws at
    (subst (λ x. StaysBelow x (components t)) (ap parent met.is ∙ parent-name at (Normal n))
    (closed.inside met.path t met.listed).below) h)
