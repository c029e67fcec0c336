-- A key written run by run.
use Rattle.std.proofs.Common.{◌≡◌, ◌≤◌, ◌+◌, ℕ, false, cond, List, [], ◌∷◌, ◌++◌, length}
use Rattle.std.proofs.Common.{take, drop, map}
use Rattle.std.proofs.Common.{ap, arith, length-append, length-take-le}
use Rattle.std.proofs.lemmas.List.{length-map}
use Rattle.unix_path.specs.CommonDir.{inner_values}
use Rattle.unix_path.specs.Scan.{starts_with_parent_dir}
use Rattle.path_runs.specs.Overlay.{overlay}
use Rattle.path_runs.proofs.lemmas.lists.WritingLemmas.{WritesOn, writes_stretch}
use Rattle.path_keys.specs.Keys.{key_of}
use Rattle.path_keys.specs.NameBytes.{coded}
use Rattle.path_keys.specs.PathRuns.{run_key}

-- if n is at most the length of s, the first n bytes of s, coded, and an end mark are n + 1 bytes
pub names_len : (s : List ℕ) (n : ℕ) → n ≤ length s
    → length (map coded (take n s) ++ 0 ∷ []) ≡ n + 1
names_len s n l = omega (
  arith,
  length-append (map coded (take n s)) (0 ∷ []),
  length-map (take n s) coded,
  length-take-le n s l,
)

-- if s doesn't begin with `..`, the bytes in a key of its first run are its first n bytes, coded,
-- and an end mark
pub names_run : (s : List ℕ) (n : ℕ) → starts_with_parent_dir s ≡ false
    → run_key s n ≡ map coded (take n s) ++ 0 ∷ []
names_run s n e = ap (λ up. cond up (0 ∷ 3 ∷ []) (map coded (take n s) ++ 0 ∷ [])) e

-- if the key of the inner components of s remains to be written at index `at`, and the first n
-- bytes of s are a run, then, after the bytes in a key of this run are written, the key of the
-- inner components of `later`, which are those of s after its first n bytes, remains to be written
pub written_run : {whole old out new : List ℕ} {at end : ℕ} (n : ℕ) (s later : List ℕ)
    → WritesOn whole old at out (key_of (inner_values s))
    → key_of (inner_values s) ≡ run_key s n ++ key_of (inner_values (drop n s))
    → new ≡ overlay at (run_key s n) out → inner_values (drop n s) ≡ inner_values later
    → end ≡ at + length (run_key s n) → WritesOn whole old end new (key_of (inner_values later))
written_run {whole} {old} {out} {new} {at} {end} n s later h run is_put same ends =
    grind (arith, writes_stretch)
