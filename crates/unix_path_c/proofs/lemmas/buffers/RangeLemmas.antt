-- The end of a key's range, written to a buffer: first the key, and then its last byte is raised.
use Rattle.std.proofs.Common.{◌≡◌, ◌<◌, ◌≤◌, ℕ, ◌+◌, ◌-◌, List, [], ◌++◌, length, drop, Some}
use Rattle.std.proofs.Common.{slice_set, slice_index, sym, ap, ◌∙◌, subst, arith}
use Rattle.std.proofs.lemmas.Bool.{cond-false, lt-leb}
use Rattle.std.proofs.lemmas.List.{set-append_left, length-set, nil_from_length}
use Rattle.unix_path.proofs.lemmas.parts.PartLemmas.{values-nil}
use Rattle.path_runs.specs.Buffer.{buffer_after}
use Rattle.path_runs.specs.Overlay.{overlay}
use Rattle.path_runs.proofs.lemmas.lists.OverlayLemmas.{overlay-first, buffer_after-fits}
use Rattle.path_keys.specs.Keys.{key_of, IsKey}
use Rattle.path_keys.specs.Ranges.{IsRangeEnd}
use Rattle.path_keys.proofs.lemmas.values.KeyLemmas.{key_of-nil}
use Rattle.path_keys.proofs.lemmas.values.RangeLemmas.{range_end-some}

-- a key with its last byte raised by one
abbrev raised_end : List ℕ → List ℕ
raised_end key = slice_set key (length key - 1) (slice_index key (length key - 1) + 1)

-- a key with its last byte raised is as long as the key
length-raised_end : (key : List ℕ) → length (raised_end key) ≡ length key
length-raised_end key = length-set key (length key - 1) (slice_index key (length key - 1) + 1)

-- the end of the key's range has n bytes, and `new` is `old` with this end written to its
-- beginning, or `old` if the end does not fit
abbrev pub WritesEnd : List ℕ → ℕ → List ℕ → List ℕ → Type 0
WritesEnd key n old new = (end : List ℕ) × IsRangeEnd key (Some end) × (length end ≡ n)
    × (new ≡ buffer_after end old)

-- if a key that is not empty was written to the beginning of a buffer, raising the key's last byte
-- there by one writes the end of the key's range
pub end_written : (key old new : List ℕ) → 0 < length key → length key ≤ length old
    → new ≡ overlay 0 key old → WritesEnd key (length key) old
    (slice_set new (length key - 1) (slice_index key (length key - 1) + 1))
end_written key old new some fits e =
    let last = length key - 1 in
    let b = slice_index key last + 1 in (
      raised_end key,
      range_end-some key some,
      length-raised_end key,
      ap (λ out. slice_set out last b) (e ∙ overlay-first key old)
          ∙ set-append_left key (drop (length key) old) last b (omega arith)
          ∙ ap (λ n. raised_end key ++ drop n old) (sym (length-raised_end key))
          ∙ sym (buffer_after-fits (raised_end key) old (omega (arith, length-raised_end key))),
    )

-- if the buffer `old` is shorter than a key that is not empty, `WritesEnd` is true of the unchanged
-- buffer
pub end_not_written : (key old : List ℕ) → 0 < length key → length old < length key
    → WritesEnd key (length key) old old
end_not_written key old some len_bound = (
  raised_end key,
  range_end-some key some,
  length-raised_end key,
  sym (cond-false _ _ _ (lt-leb (length (raised_end key)) (length old)
      (omega (arith, length-raised_end key)))),
)

-- the empty byte string is the key of the empty path
pub nil_is_key : (key : List ℕ) → length key ≡ 0 → IsKey key
nil_is_key key none =
    subst IsKey (sym (nil_from_length key none)) ([], ap key_of values-nil ∙ key_of-nil)
