-- A root and then names, written from the last byte to the first.
use Rattle.std.proofs.Common.{◌≡◌, ℕ, ◌+◌, ◌<◌, ◌≤◌, List, [], ◌∷◌, ◌++◌, length, drop, take, refl}
use Rattle.std.proofs.Common.{ap, arith, append_assoc, append-nil, length-append}
use Rattle.std.specs.Int.{from_bool}
use Rattle.std.specs.List.{AllByRecursion}
use Rattle.std.proofs.lemmas.List.{drop-drop, drop_all, take_at, take-take}
use Rattle.path_runs.specs.Buffer.{buffer_after}
use Rattle.path_runs.proofs.lemmas.lists.OverlayLemmas.{buffer_after-fits}
use Rattle.std.proofs.Math.Seq.{drop-length}
use Rattle.unix_bytes.proofs.lemmas.lists.ListLemmas.{drop-suc_cons}
use Rattle.unix_path.specs.Joins.{needs_no_separator}
use Rattle.unix_path.specs.Parts.{Value, slash}
use Rattle.path_runs.specs.Spelling.{slash_each, slashed_bytes}
use Rattle.path_runs.proofs.lemmas.gaps.GapSpellingLemmas.{slashed_bytes-cons}
use Rattle.path_runs.proofs.lemmas.joins.AssociativeLemmas.{separator}
use Rattle.path_runs.proofs.lemmas.spelling.UnslashedLemmas.{IsUnslashedValue}
use Rattle.path_within.proofs.lemmas.backward.PutLemmas.{Puts}
use Rattle.path_within.specs.Below.{below_of}
use Rattle.path_within.specs.WrittenBytes.{slashed_len}
use Rattle.path_within.proofs.lemmas.below.BelowLemmas.{root_prefix}
use Rattle.path_within.proofs.lemmas.below.BelowLemmas.{below_of-nil, below_of-some, length-below}
use Rattle.path_within.proofs.lemmas.below.BoundLemmas.{length-slashed_bytes, slashed_len-cons}
use Rattle.path_within.proofs.lemmas.below.BelowLemmas.{unslashed_last}

-- if vs is not empty, and no component of vs begins or ends with a slash, the length of the join of
-- the root and vs is the root's length plus the length of vs with a slash for each component, minus
-- 1 if the root needs no separator
pub length-joined : (root : List ℕ) (vs : List Value) → AllByRecursion IsUnslashedValue vs
    → 0 < slashed_len vs
    → length (below_of root vs) + from_bool (needs_no_separator root) ≡ length root + slashed_len vs
length-joined root [] h some = absurd (omega (arith, some))
length-joined root (v ∷ vs) h some = grind (
  arith,
  below_of-some root (v ∷ vs) h (omega arith),
  length-append (root_prefix root)
      (slashed_bytes (v ∷ vs)),
  length-append root
      (separator root),
  separator root,
  length-slashed_bytes (v ∷ vs),
)

-- if vs is empty, the join of the root and vs is as long as the root
pub length-nameless : (root : List ℕ) (vs : List Value) → slashed_len vs ≡ 0
    → length (below_of root vs) ≡ length root
length-nameless root [] e = ap length (below_of-nil root refl)
length-nameless root (v ∷ vs) e = absurd (omega (arith, e, slashed_len-cons v vs))

-- if no component of vs begins or ends with a slash, the join of the root and vs is at most one
-- byte shorter than vs with a slash for each, and at least as long as the root
pub joined_fits : (root : List ℕ) (vs : List Value) → AllByRecursion IsUnslashedValue vs
    → (slashed_len vs ≤ 1 + length (below_of root vs)) × (length root ≤ length (below_of root vs))
joined_fits root [] h = grind (arith, length-nameless)
joined_fits root (v ∷ vs) h = grind (arith, slashed_len-cons, length-joined)

-- if no component of vs begins or ends with a slash, and vs is written to the end of a buffer that
-- is as long as the join of the root and vs, and then the root to its beginning, the buffer
-- contains this join
pub joined : {out new : List ℕ} {start : ℕ} (root : List ℕ) (vs : List Value)
    → AllByRecursion IsUnslashedValue vs → Puts vs (1 + length out) out start new
    → length new ≡ length out → length out ≡ length (below_of root vs)
    → root ++ drop (length root) new ≡ below_of root vs
joined {out} {new} {start} root [] h puts same size =
    grind (arith, drop_all, below_of-nil, append-nil)
joined {out} {new} {start} root (v ∷ vs) h puts same size =
    let names = slashed_bytes (v ∷ vs) in grind (
      arith,
      slashed_len-cons v vs,
      length-joined,
      drop-length (slash ∷ out),
      append-nil (slash_each (v ∷ vs)),
      slashed_bytes-cons v vs,
      drop-suc_cons (length root) slash new,
      below_of-some root (v ∷ vs) h (omega arith),
      drop-drop 1 start (slash ∷ new),
      append-nil root,
      append_assoc root (slash ∷ []) names,
    )

-- if `new` is `old` with `whole` written over its beginning, `old` is at least as long as `whole`,
-- and n is at least the length of `whole`, then the first n bytes of `new` and `spare` after it
-- begin with `whole`
pub written_over : {whole new : List ℕ} {len n : ℕ} (old spare : List ℕ)
    → new ≡ buffer_after whole old → len ≡ length whole → length whole ≤ length old
    → len ≤ n → take len (take n (new ++ spare)) ≡ whole
written_over {whole} {new} {len} {n} old spare e f space l =
    grind (arith, take-take, buffer_after-fits, append_assoc, take_at)

pub ruleset join_request_in_cases = (length-below, written_over)

pub ruleset names_joined_len_cases = (length-nameless, length-joined, unslashed_last)
