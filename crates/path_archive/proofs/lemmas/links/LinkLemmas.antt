-- The target of a symbolic link, component by component.
use Rattle.std.proofs.Common.{◌≡◌, ◌≢◌, ◌↔◌, ◌-◌, ◌<◌, ℕ, Bool, true, false, List, [], ◌∷◌, refl}
use Rattle.std.proofs.Common.{sym, ap, ◌∙◌, subst, arith, length, true≢false}
use Rattle.std.proofs.lemmas.List.{length-take-le}
use Rattle.unix_path.specs.Parts.{Value, RootDir, CurDir, ParentDir, Normal, values}
use Rattle.path_runs.specs.JoinLaws.{drop_dot}
use Rattle.path_within.specs.Below.{has_nul}
use Rattle.path_within.specs.Escapes.{has_root_or_parent_dir}
use Rattle.path_within.specs.Resolved.{AllNames}
use Rattle.path_within.proofs.lemmas.names_only.RequestLemmas.{names_down, request_has_names}
use Rattle.path_archive.specs.Entries.{components}
use Rattle.path_archive.specs.FileSystems.{parent}
use Rattle.path_archive.specs.Rule.{StaysBelow, StaysInside}

-- from a directory with n names, these components do not lead out
abbrev pub StaysAbove : ℕ → List Value → Type 0
StaysAbove n (ParentDir ∷ vs) = (0 < n) × StaysAbove (n - 1) vs
StaysAbove n vs = AllNames vs

-- the number of names in the parent
parent_size : (here : List Value) → length (parent here) ≡ length here - 1
parent_size here = length-take-le (length here - 1) here (omega arith)

-- a list of some length isn't empty
not_empty : (here : List Value) → 0 < length here → here ≢ []
not_empty here some none = let e : length here ≡ 0 = ap length none in omega arith

-- a list that isn't empty has some length
some_long : (here : List Value) → here ≢ [] → 0 < length here
some_long [] h = absurd (h refl)
some_long (v ∷ vs) h = omega arith

-- only the number of a directory's names matters
pub below_above : (vs here : List Value) (n : ℕ) → length here ≡ n
    → StaysAbove n vs ↔ StaysBelow here vs
below_above [] here n is = (λ h. h, λ h. h)
below_above (RootDir ∷ vs) here n is = (λ h. h, λ h. h)
below_above (CurDir ∷ vs) here n is = (λ h. h, λ h. h)
below_above (Normal name ∷ vs) here n is = (λ h. h, λ h. h)
below_above (ParentDir ∷ vs) here n is =
    let size : length (parent here) ≡ n - 1 = parent_size here ∙ ap (λ k. k - 1) is in
    let rest = below_above vs (parent here) (n - 1) size in (
      λ h. (not_empty here (subst (λ k. 0 < k) (sym is) h.0), rest.0 h.1),
      λ h. (subst (λ k. 0 < k) is (some_long here h.0), rest.1 h.1),
    )

-- nothing is left
pub leads_on : (vs : List Value) (n : ℕ) → vs ≡ [] → (false ≡ false) ↔ StaysAbove n vs
leads_on vs n is = (λ h. subst (StaysAbove n) (sym is) tt, λ h. refl)

-- a test of a path that begins with a name
pub name_first : (b : List ℕ) (t : Bool) (n : ℕ) (name : List ℕ) (more : List Value)
    → t ≡ has_root_or_parent_dir (values b) → values b ≡ Normal name ∷ more
    → (t ≡ false) ↔ StaysAbove n (values b)
name_first b t n name more test is = (
  λ h. subst (StaysAbove n) (sym is) (subst (λ vs. AllNames (drop_dot vs)) is
      (request_has_names b (sym test ∙ h))),
  λ h. test ∙ names_down (values b) (subst AllNames (sym is) (subst (StaysAbove n) is h)),
)

-- a path that doesn't stay above
pub leads_away : (vs : List Value) (n : ℕ) → (StaysAbove n vs → ⊥)
    → (true ≡ false) ↔ StaysAbove n vs
leads_away vs n out = (λ h. absurd (true≢false h), λ h. absurd (out h))

-- one more `..`
pub one_up : (vs ws more : List Value) (m n : ℕ) → vs ≡ ParentDir ∷ more → 0 < m
    → StaysAbove m vs ↔ StaysAbove n ws → StaysAbove (m - 1) more ↔ StaysAbove n ws
one_up vs ws more m n is some h = (
  λ k. h.0 (subst (StaysAbove m) (sym is) (some, k)),
  λ k. (subst (StaysAbove m) is (h.1 k)).1,
)

-- the answer for what is left is the answer for the whole path
pub climbs : (t : Bool) (m n : ℕ) (vs ws here : List Value) → (t ≡ false) ↔ StaysAbove m vs
    → StaysAbove m vs ↔ StaysAbove n ws → length here ≡ n → (t ≡ false) ↔ StaysBelow here ws
climbs t m n vs ws here found left is =
    let whole = below_above ws here n is in (
      λ h. whole.0 (left.0 (found.0 h)),
      λ h. found.1 (left.1 (whole.1 h)),
    )

-- a target with a NUL leads out
pub nul_out : (path target : List ℕ) → has_nul target ≡ true
    → (true ≡ false) ↔ StaysInside path target
nul_out path target nul =
    (λ h. absurd (true≢false h), λ h. absurd (true≢false (sym nul ∙ h.no_nul)))

-- the answer for a target without a NUL
pub inside_if : (path target : List ℕ) (t : Bool) (n : ℕ) (vs : List Value)
    → has_nul target ≡ false → n ≡ length (components path) - 1 → vs ≡ components target
    → ((here : List Value) → length here ≡ n → (t ≡ false) ↔ StaysBelow here vs)
    → (t ≡ false) ↔ StaysInside path target
inside_if path target t n vs no_nul depth is found =
    let here : List Value = parent (components path) in
    let it = found here (parent_size (components path) ∙ sym depth) in (
      λ h. record { below = subst (StaysBelow here) is (it.0 h); no_nul = no_nul },
      λ h. it.1 (subst (StaysBelow here) (sym is) h.below),
    )
