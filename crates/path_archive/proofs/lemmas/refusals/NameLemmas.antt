-- Paths of names, and the last piece of a path.
use Rattle.std.proofs.Common.{◌≡◌, ◌≤◌, ◌<◌, ◌-◌, ◌+◌, ◌==◌, ℕ, true, false, not, List, [], ◌∷◌}
use Rattle.std.proofs.Common.{refl, sym, ap, ap₂, ◌∙◌, arith, length, drop, slice_index, Bool}
use Rattle.std.proofs.Common.{◌&&◌, true≢false}
use Rattle.std.specs.List.{after_last, position_or_len, suffix_len}
use Rattle.std.proofs.lemmas.List.{get_or-drop, length-drop}
use Rattle.std.proofs.lemmas.List.Sums.{fails_before_first, suffix_len_is}
use Rattle.unix_path.specs.Parts.{Value, RootDir, CurDir, ParentDir, Normal, is_slash, values}
use Rattle.path_runs.specs.JoinLaws.{drop_dot}
use Rattle.path_within.specs.Below.{has_nul}
use Rattle.path_within.specs.Escapes.{has_root_or_parent_dir}
use Rattle.path_within.specs.Resolved.{AllNames}
use Rattle.path_within.proofs.lemmas.names_only.RequestLemmas.{names_down, request_has_names}
use Rattle.path_archive.specs.Entries.{UsedAs, use_as, components}
use Rattle.path_archive.specs.Rule.{IsNamed, ends_in_name, is_directory}

-- the bytes after a last slash
pub last_piece : (s : List ℕ) (n : ℕ) → n ≤ length s → (0 < n → slice_index s (n - 1) ≡ 47)
    → position_or_len (λ b. b == 47) (drop n s) ≡ length (drop n s)
    → after_last is_slash s ≡ drop n s
last_piece s n n_in after none =
    let passes : (k : ℕ) → n ≤ k → k < length s → not (is_slash (slice_index s k)) ≡ true =
    λ k from k_in.
    (let size = length-drop n s in
    let at : k - n < position_or_len (λ b. b == 47) (drop n s) = omega arith in
    let index : n + (k - n) ≡ k = omega arith in
    ap not (ap (λ j. slice_index s j == 47) (sym index)
    ∙ ap (λ b. b == 47) (sym (get_or-drop n s (k - n) 0))
    ∙ fails_before_first (λ b. b == 47) (drop n s) (k - n) 0 at)) in
    let len : suffix_len (λ x. not (is_slash x)) s ≡ length s - n =
    suffix_len_is (λ x. not (is_slash x)) s n 0 n_in passes
    (λ some. ap (λ b. not (b == 47)) (after some)) in
    let back : length s - (length s - n) ≡ n = omega arith in
    ap (λ k. drop (length s - k) s) len ∙ ap (λ k. drop k s) back

-- names below a leading `.` are neither the root nor `..`
dot_down : (vs : List Value) → AllNames (drop_dot vs) → has_root_or_parent_dir vs ≡ false
dot_down [] h = refl
dot_down (CurDir ∷ vs) h = names_down vs h
dot_down (RootDir ∷ vs) h = absurd h
dot_down (ParentDir ∷ vs) h = absurd h
dot_down (Normal n ∷ vs) h = names_down (Normal n ∷ vs) h

-- a path of names has no root and no `..`
named_down : (path : List ℕ) (kind : UsedAs) → IsNamed (use_as kind path)
    → has_root_or_parent_dir (values path) ≡ false
unfolding components
named_down path kind h = dot_down (values path) h.names

-- a path of names passes the test
pub named_goes_down : (path : List ℕ) (kind : UsedAs) → IsNamed (use_as kind path)
    → (not (has_root_or_parent_dir (values path)) && not (has_nul path)) ≡ true
named_goes_down path kind h = ap₂ (λ a b. not a && not b) (named_down path kind h) h.no_nul

-- what a test that is passed says
pub goes_down_if : (a b : Bool) → (not a && not b) ≡ true → (a ≡ false) × (b ≡ false)
goes_down_if true b h = absurd (true≢false (sym h))
goes_down_if false true h = absurd (true≢false (sym h))
goes_down_if false false h = (refl, refl)

-- what is tested makes a path of names
pub named_if : (path : List ℕ) (kind : UsedAs) → has_root_or_parent_dir (values path) ≡ false
    → has_nul path ≡ false → (is_directory kind ≡ false → ends_in_name path ≡ true)
    → IsNamed (use_as kind path)
unfolding components
named_if path kind down no_nul ends = record {
  names = request_has_names path down;
  no_nul = no_nul;
  ends = ends;
}
