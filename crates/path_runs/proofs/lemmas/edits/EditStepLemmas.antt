-- The leading bytes of a path that an edit keeps. Paths without a parent or without a file name.
use Rattle.std.proofs.Common.{◌≡◌, ℕ, zero, suc, ◌+◌, ◌-◌, ◌≤◌, false, List, [], ◌∷◌}
use Rattle.std.proofs.Common.{◌++◌, ◌<◌, length, get_or, take, map, None, refl, sym}
use Rattle.std.proofs.Common.{ap, ◌∙◌, arith, length-append, length-take-le, rules}
use Rattle.std.proofs.Math.Seq.{take-length}
use Rattle.std.proofs.lemmas.List.{take-append-le, take-take, append_assoc}
use Rattle.unix_path.specs.Parts.{Part, RootDir, is_rooted, parts, values}
use Rattle.unix_path.specs.Rest.{rest}
use Rattle.unix_path.specs.Parents.{parent_of}
use Rattle.unix_path.specs.Joins.{needs_no_separator, join_of}
use Rattle.unix_path.specs.Edits.{before_name_of, popped_of, with_name_of}
use Rattle.unix_path.specs.Extensions.{name_end_of}
use Rattle.unix_bytes.proofs.lemmas.lists.ListLemmas.{by_test}
use Rattle.unix_path.proofs.lemmas.edits.JoinLemmas.{join_of_separator, join_of_no_separator}
use Rattle.unix_path.proofs.lemmas.edits.JoinLemmas.{join_of_rooted}
use Rattle.unix_path.proofs.lemmas.edits.JoinLemmas.{length-join_of_separator}
use Rattle.unix_path.proofs.lemmas.edits.JoinLemmas.{length-join_of_no_separator}
use Rattle.unix_path.proofs.lemmas.names.NameEndLemmas.{file_name_of-no_name_end}
use Rattle.unix_path.proofs.lemmas.names.ParentLemmas.{parent_of-none, parent_of-root}
use Rattle.unix_path.proofs.lemmas.parts.PartLemmas.{parts-nil, parts-root}
use Rattle.unix_path.proofs.lemmas.parts.PieceLemmas.{inner_parts-nil}
use Rattle.unix_path.proofs.lemmas.rests.RestLemmas.{take-rest}
use Rattle.path_runs.specs.declared.edits.cache.ScanCache.{ScanCache}
use Rattle.path_runs.specs.ScanCache.{IsCacheOf}
use Rattle.path_runs.proofs.lemmas.edits.ScanCacheLemmas.{CachesEnd-unchanged, CachesStem-unchanged}

-- s and t have the same first n bytes, and t has at least n bytes
pub record Keeps (s t : List ℕ) (n : ℕ) : Type 0 where
  pub in_range : n ≤ length t
  pub same : take n s ≡ take n t

-- if s has at least n bytes, and y is the first n bytes of s and then x, y keeps the first n bytes
-- of s
pub keeps-front : (s x y : List ℕ) (n : ℕ) → n ≤ length s → y ≡ take n s ++ x → Keeps s y n
keeps-front s x y n l is = grind (arith, length-take-le, length-append, take-append-le, take-take)

-- if t keeps the first n bytes of s, it keeps the first k bytes of s for each k up to n
pub keeps-fewer : (s t : List ℕ) (k n : ℕ) → Keeps s t n → k ≤ n → Keeps s t k
keeps-fewer s t k n h l = grind (arith, take-take k n s l, take-take k n t l)

-- a cache that is valid for s is also valid for t if t keeps all bytes of s
IsCacheOf-keeps : (s t : List ℕ) (k : ScanCache) → IsCacheOf s k → Keeps s t (length s)
    → IsCacheOf t k
IsCacheOf-keeps s t k h keeps = record {
  end = search (rules, CachesEnd-unchanged);
  stack = h.stack;
  stems = λ i l. CachesStem-unchanged s t (length s) _ (h.stems i l) keeps.in_range keeps.same
      (h.stems i l).in_range;
}

-- if b has no root, the join of s and b keeps all bytes of s
keeps-join : (s b : List ℕ) → is_rooted b ≡ false → Keeps s (join_of s b) (length s)
keeps-join s b r = by_test (needs_no_separator s)
    (λ o. keeps-front s b (join_of s b) (length s) (omega arith)
    (join_of_no_separator s b r o ∙ ap (λ s. s ++ b) (sym (take-length s))))
    (λ o. keeps-front s (47 ∷ [] ++ b) (join_of s b) (length s) (omega arith)
    (join_of_separator s b r o ∙ append_assoc s (47 ∷ []) b
    ∙ ap (λ s. s ++ (47 ∷ [] ++ b)) (sym (take-length s))))

-- if a cache is valid for s, and b has no root, the cache is also valid for the join of s and b
pub IsCacheOf_join : (s b : List ℕ) (k : ScanCache) → IsCacheOf s k → is_rooted b ≡ false
    → IsCacheOf (join_of s b) k
IsCacheOf_join s b k h r = IsCacheOf-keeps s (join_of s b) k h (keeps-join s b r)

-- the rest of s without its last m components has the same bytes as the beginning of s
keeps-rest : (s : List ℕ) (m : ℕ) → Keeps s (rest s 0 m) (length (rest s 0 m))
keeps-rest s m = grind (arith, take-rest, take-length)

-- if a pop of s leaves t, which has n bytes, t keeps the first n bytes of s
pub keeps-pop : (s t : List ℕ) (n : ℕ) → t ≡ popped_of s → n ≡ length t → Keeps s t n
unfolding popped_of parent_of
keeps-pop s t n e size = grind (arith, keeps-rest)

-- if s begins with a slash, and the first `end` bytes of s, at most one, have all components of s,
-- then s has no parent
pub parent_of-root_only : (s : List ℕ) (end : ℕ) → 0 < length s → get_or s 0 0 ≡ 47
    → parts (take end s) ≡ parts s → end ≤ 1 → None ≡ parent_of s
unfolding values
parent_of-root_only [] end some r same few = absurd (omega arith)
parent_of-root_only (b ∷ s) zero some r same few = grind (arith, parent_of-none, parts-nil)
parent_of-root_only (b ∷ s) (suc zero) some r same few =
    parent_of-root (b ∷ s) [] (ap (map (λ (p : Part). p.value)) (sym same ∙ parts-root (b ∷ []) r)
    ∙ ap (λ (ps : List Part). RootDir ∷ map (λ p. p.value) ps) (inner_parts-nil 1))
parent_of-root_only (b ∷ s) (suc (suc n)) some r same few = absurd (omega arith)

-- if s has no file name, s with the new file name `name` is s joined with `name`
pub with_name_of-nameless : (s name : List ℕ) → None ≡ name_end_of s
    → with_name_of s name ≡ join_of s name
unfolding before_name_of
with_name_of-nameless s name e = rw (file_name_of-no_name_end s e) refl

-- if t is s with the new file name `name`, and n is the length of t less the length of `name` and
-- one more byte (0 if t is shorter), t keeps the first n bytes of s
pub keeps-name : (s t name : List ℕ) (n : ℕ) → t ≡ with_name_of s name
    → n ≡ length t - (length name + 1) → Keeps s t n
unfolding before_name_of
keeps-name s t name n made size = grind (
  arith,
  join_of_rooted,
  length-join_of_no_separator,
  length-join_of_separator,
  keeps-fewer,
  keeps-join,
  keeps-rest,
)

pub ruleset name_cases = (with_name_of-nameless)
