-- Layouts of resolved paths: their bytes and their length.
use Rattle.std.proofs.Common.{◌≡◌, ℕ, Bool, ◌+◌, ◌-◌, ◌*◌, ◌<◌, ◌≤◌, true, false, cond, List, []}
use Rattle.std.proofs.Common.{◌∷◌, ◌++◌, length, take, drop, refl, sym, ap, ap₂, ◌∙◌, arith}
use Rattle.std.proofs.Common.{append-nil, length-append, take-append-drop}
use Rattle.std.proofs.Math.ListN.{replicate, set}
use borrow.Rule.Slice.PartMut.{put_mid}
use Rattle.std.proofs.lemmas.List.{drop-append-le, drop_all, length-replicate, nil_from_length}
use Rattle.std.proofs.lemmas.List.Folds.{sum_by-replicate}
use Rattle.unix_path.specs.Parts.{Value, ParentDir, Normal, is_rooted, slash}
use Rattle.unix_path.specs.Parts.{values}
use Rattle.path_runs.specs.Spelling.{slash_each, slashed_bytes, spelling_of}
use Rattle.path_runs.proofs.lemmas.spelling.SpellLemmas.{spelling_of-root}
use Rattle.path_within.specs.Backward.{last_names, remaining_parent_dirs}
use Rattle.path_within.specs.Below.{names_below}
use Rattle.path_within.specs.Layouts.{layout_names, layout_values}
use Rattle.path_within.specs.declared.write.Layout.{Layout}
use Rattle.path_within.specs.NamePieces.{is_names_only}
use Rattle.path_within.specs.Resolved.{AllNames, resolved_of}
use Rattle.path_within.proofs.lemmas.backward.LeadingLemmas.{resolved_of-rooted}
use Rattle.path_within.proofs.lemmas.backward.LeadingLemmas.{resolved_of-rootless}
use Rattle.path_within.proofs.lemmas.names_only.NormalLemmas.{resolved_values}
use Rattle.path_within.specs.WrittenBytes.{slashed_len}
use Rattle.path_within.proofs.lemmas.below.BoundLemmas.{AreVerbatim}
use Rattle.path_within.proofs.lemmas.backward.LeadingLemmas.{resolved_bytes_of-rootless, straight}
use Rattle.path_within.proofs.lemmas.backward.LeadingLemmas.{remaining_parent_dirs-rooted}
use Rattle.path_within.proofs.lemmas.backward.PutLemmas.{puts_all, puts_then, slashed_len-append}
use Rattle.path_within.proofs.lemmas.below.BoundLemmas.{length-resolved, length-slashed_bytes}
use Rattle.path_within.proofs.lemmas.below.BoundLemmas.{length-le-slashed_len}
use Rattle.path_within.proofs.lemmas.below.BoundLemmas.{slashed_len-cons, slashed_len-names}
use Rattle.path_within.proofs.lemmas.below.BelowLemmas.{last_verbatim}
use Rattle.path_within.proofs.lemmas.below.NamesBelowLemmas.{AllNames-names_below}
use Rattle.path_within.proofs.lemmas.below.NamesBelowLemmas.{names_below-names}
use Rattle.path_within.proofs.lemmas.stack.BetweenLemmas.{names_drop}
use Rattle.path_within.proofs.lemmas.stack.RelativePathLemmas.{list_all-names, names_all}
use Rattle.path_within.proofs.lemmas.stack.RelativePathLemmas.{spelling_of-straight}
use Rattle.path_within.proofs.lemmas.names_only.NamesOnlyLemmas.{names_only_has_names}
use Rattle.path_within.proofs.lemmas.names_only.NamesOnlyLemmas.{resolved-names_only}
use Rattle.path_within.proofs.lemmas.backward.PutLemmas.{puts_verbatim, puts_none, no_names, Puts}
use Rattle.std.proofs.lemmas.Grind.{common_steps}

-- n times `..`, with a slash for each, have 3 * n bytes
slashed_len-replicate : (n : ℕ) → slashed_len (replicate n ParentDir) ≡ 3 * n
slashed_len-replicate n = grind (arith, sum_by-replicate)

-- n times `..` and then vs, with a slash for each, are 3 * n bytes longer than vs with a slash for
-- each
pub slashed_len-parent_dir_run : (n : ℕ) (vs : List Value)
    → slashed_len (replicate n ParentDir ++ vs) ≡ 3 * n + slashed_len vs
slashed_len-parent_dir_run n vs = grind (arith, slashed_len-append, sum_by-replicate)

-- a suffix of a list of names has only names
pub names_rest : (n : ℕ) (vs : List Value) → AllNames vs → AllNames (drop n vs)
names_rest n vs h = names_all (drop n vs) (names_drop n vs (list_all-names vs h))

-- two lists of names, one after the other, have only names
pub names_append : (vs ws : List Value) → AllNames vs → AllNames ws → AllNames (vs ++ ws)
names_append [] ws h k = k
names_append (Normal name ∷ vs) ws h k = names_append vs ws h k
names_append (v ∷ vs) ws h k = absurd h

-- bytes that are names verbatim are one byte shorter than the names with a slash for each
pub length-verbatim : {s : List ℕ} {vs : List Value} → AreVerbatim s vs
    → 1 + length s ≡ slashed_len vs
length-verbatim {s} {vs} h = by vs h.some h.is
  where
    by : (vs : List Value) → 0 < length vs → s ≡ slashed_bytes vs → 1 + length s ≡ slashed_len vs
    by [] some is = absurd (omega (arith, some))
    by (v ∷ vs) some is =
        omega (arith, ap length is, length-slashed_bytes (v ∷ vs), slashed_len-cons v vs)

-- the names and the `..` that remain of a path without a root, with a slash for each, are no longer
-- than the path and a slash
pub length-rootless : (s : List ℕ) → is_rooted s ≡ false
    → slashed_len (names_below (values s)) + 3 * remaining_parent_dirs (values s) ≤ 1 + length s
length-rootless s r = grind (
  arith,
  ap length (resolved_bytes_of-rootless s r),
  length-resolved s,
  length-slashed_bytes,
  slashed_len-parent_dir_run,
)

-- if ws are written to the end of `out`, vs before them, and `..` before vs from index 0 on, and
-- `out` is as long as n times `..`, vs and ws with slashes between them, the result `new` consists
-- of these components with slashes between them
pub puts_layout : {ws vs : List Value} {mid end : ℕ} {out made more new : List ℕ}
    → Puts ws (1 + length out) out mid made → Puts vs mid made end more
    → ((n : ℕ) → end ≡ 3 * n
    → slash ∷ new ≡ slash_each (replicate n ParentDir) ++ drop end (slash ∷ more))
    → length new ≡ length out → (n : ℕ)
    → length out ≡ length (slashed_bytes (replicate n ParentDir ++ (vs ++ ws)))
    → new ≡ slashed_bytes (replicate n ParentDir ++ (vs ++ ws))
puts_layout {ws} {vs} {mid} {end} {out} {made} {more} {new} g h parent_dirs same n e =
    grind (arith, slashed_len-append, by, length-slashed_bytes, slashed_len-parent_dir_run)
  where
    by : (all : List Value) → replicate n ParentDir ++ (vs ++ ws) ≡ all
        → length out ≡ (3 * n + (slashed_len vs + slashed_len ws)) - 1
        → new ≡ slashed_bytes (replicate n ParentDir ++ (vs ++ ws))
    by [] f size = nil_from_length new (same ∙ e ∙ ap (λ vs. length (slashed_bytes vs)) f)
        ∙ ap slashed_bytes (sym f)
    by (x ∷ xs) f size =
        let at : end ≡ 3 * n = grind (arith, common_steps) in
        puts_all (puts_then (puts_then g h) (record {
          size = omega (arith, slashed_len-replicate n, at);
          bytes = parent_dirs n at;
        }))

-- the last n resolved names of a path, with a slash for each, are no longer than the path and a
-- slash
pub last_names_fit : (n : ℕ) (s : List ℕ) → slashed_len (last_names n (values s)) ≤ 1 + length s
last_names_fit n s =
    let names = names_below (values s) in
    let k = length names - n in
    omega (
      arith,
      slashed_len-names s,
      slashed_len-append (take k names) (drop k names),
      ap slashed_len (take-append-drop k names),
    )

-- ---- layouts

pub are_layout_names : (l : Layout) → AllNames (layout_names l)
are_layout_names l = grind (arith, names_append, names_rest, AllNames-names_below)

-- if a layout has a root, its canonical form is a slash and then its names, with slashes between
-- them
pub layout-rooted : (l : Layout) → l.has_root ≡ true
    → spelling_of (layout_values l) ≡ slash ∷ slashed_bytes (layout_names l)
layout-rooted l r = grind (arith, spelling_of-root)

-- if a layout has no root, its canonical form consists of its `..` and then its names, with slashes
-- between all of them
pub layout-rootless : (l : Layout) → l.has_root ≡ false
    → spelling_of (layout_values l)
    ≡ slashed_bytes (replicate l.parent_dirs ParentDir ++ layout_names l)
layout-rootless l r = grind (arith, are_layout_names, spelling_of-straight, straight)

pub layout_names-len : (l : Layout) → slashed_len (layout_names l) ≡ l.names.len + l.more.len
layout_names-len l = grind (arith, slashed_len-append)

-- if a layout has a root, its canonical form is one byte longer than its names with slashes between
-- them
pub length-rooted_layout : (l : Layout) → l.has_root ≡ true
    → length (spelling_of (layout_values l)) ≡ 1 + ((l.names.len + l.more.len) - 1)
length-rooted_layout l r =
    grind (arith, layout-rooted l r, length-slashed_bytes (layout_names l), layout_names-len l)

pub length-rootless_layout : (l : Layout) → l.has_root ≡ false
    → length (spelling_of (layout_values l)) ≡ (3 * l.parent_dirs + (l.names.len + l.more.len)) - 1
length-rootless_layout l r =
    simp (layout-rootless, layout_names-len, length-slashed_bytes, slashed_len-parent_dir_run)

-- if t is a path of names only that represents the names of s, and s has a root or t and s resolve
-- to the same components, then no `..` remains of s
pub no_parent_dirs : (t s : List ℕ) → is_rooted t ≡ false
    → names_below (values t) ≡ names_below (values s)
    → (is_rooted s ≡ false → resolved_of (values t) ≡ resolved_of (values s))
    → is_names_only t ≡ true → 0 ≡ remaining_parent_dirs (values s)
no_parent_dirs t s rootless names same h = grind (
  arith,
  remaining_parent_dirs-rooted,
  resolved_of-rootless,
  resolved_values,
  resolved-names_only,
  names_below-names,
  names_only_has_names,
  length-append,
  length-replicate,
)

-- writing `new` over all bytes of a buffer after the first, and a slash over the first, makes the
-- buffer a slash and then `new`
pub slash_first : (out new : List ℕ) → 0 < length out → length new ≡ length out - 1
    → set (put_mid 1 (length out - 1) out new) 0 slash ≡ slash ∷ new
slash_first [] new some e = absurd (omega (arith, some))
slash_first (x ∷ s) new some e = grind (arith, drop_all, append-nil)

pub first_fits : (out new : List ℕ) → 0 < length out
    → 0 < length (put_mid 1 (length out - 1) out new)
first_fits [] new some = absurd (omega (arith, some))
first_fits (x ∷ s) new some = omega arith

pub ruleset count_resolved_cases = (
  slashed_len-names,
  length-le-slashed_len,
  length-append,
  remaining_parent_dirs-rooted,
)

pub ruleset layout_len_cases = (length-rooted_layout, length-rootless_layout)

pub ruleset names_put_before_cases = (
  last_verbatim,
  length-verbatim,
  puts_verbatim,
  puts_none,
  no_names,
)
