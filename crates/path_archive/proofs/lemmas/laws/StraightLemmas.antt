-- Plain paths that pass no link lead straight down.
use Rattle.std.specs.Prelude.{◌≡◌, ℕ, List, [], ◌∷◌, ◌++◌, Contains}
use Rattle.std.proofs.Common.{sym, ap, ◌∙◌}
use Rattle.std.proofs.lemmas.List.{append_assoc, append-nil}
use Rattle.unix_path.specs.Parts.{Value, Normal}
use Rattle.unix_path.specs.Prefixes.{IsPrefixOf}
use Rattle.path_within.specs.Resolved.{AllNames}
use Rattle.path_archive.specs.FileSystems.{Place, FileSystem, Link, Leads}
use Rattle.path_archive.specs.FileSystems.Leads.{here, root, up, last, down, link}
use Rattle.path_archive.specs.Entries.{EntryValue, SymlinkEntry, components}

-- a link with this target is an entry's, whose path has these components
pub record IsOwn (entries : List EntryValue) (p : List Value) (t : List ℕ) : Type 0 where
  pub path : List ℕ
  pub is : components path ≡ p
  pub listed : Contains entries (SymlinkEntry path t)

-- each link below `top` is an entry's, with its target
abbrev pub HasOwnLinks : List EntryValue → Place → FileSystem → Type 0
HasOwnLinks entries top fs = (p : List Value) (t : List ℕ) → fs.at (top ++ p) ≡ Link t
    → IsOwn entries p t

-- no entry that is a link has a path that these components begin with
abbrev pub PassesNone : List EntryValue → List Value → Type 0
PassesNone entries vs = (p t : List ℕ) → Contains entries (SymlinkEntry p t)
    → IsPrefixOf (components p) vs → ⊥

-- one name more
step : (top done : List Value) (v : Value) (vs : List Value) (at : Place) → at ≡ top ++ done
    → at ++ v ∷ vs ≡ top ++ (done ++ v ∷ vs)
step top done v vs at e = ap (λ x. x ++ v ∷ vs) e ∙ append_assoc top done (v ∷ vs)

-- names that pass no link lead straight down
pub straight : (entries : List EntryValue) (top : Place) (fs : FileSystem)
    → HasOwnLinks entries top fs → (at q : Place) (vs : List Value) → Leads fs at vs q
    → (done : List Value) → at ≡ top ++ done → AllNames vs → PassesNone entries (done ++ vs)
    → q ≡ top ++ (done ++ vs)
straight entries top fs own at q vs here done at_is plain free =
    at_is ∙ ap (λ x. top ++ x) (sym (append-nil done))
straight entries top fs own at q vs (root l) done at_is plain free = absurd plain
straight entries top fs own at q vs (up l) done at_is plain free = absurd plain
straight entries top fs own at q vs (last {p = p} {n = n}) done at_is plain free =
    step top done (Normal n) [] at at_is
straight entries top fs own at q vs (down {n = n} {vs = ws} clear l) done at_is plain free =
    let e = append_assoc done (Normal n ∷ []) ws in
    straight entries top fs own (at ++ Normal n ∷ []) q ws l (done ++ Normal n ∷ [])
    (step top done (Normal n) [] at at_is) plain
    (λ p u c h. free p u c (h.0, h.1 ∙ e))
    ∙ ap (λ x. top ++ x) e
straight entries top fs own at q vs (link {n = n} {vs = ws} t is l) done at_is plain free =
    let met = own (done ++ Normal n ∷ []) t
    (ap fs.at (sym (step top done (Normal n) [] at at_is)) ∙ is) in
    absurd (free met.path t met.listed (
      ws,
      ap (λ x. x ++ ws) met.is ∙ append_assoc done (Normal n ∷ []) ws,
    ))
