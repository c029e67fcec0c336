-- The path that a key reads back as.
use Rattle.std.proofs.Common.{◌≡◌, ◌<◌, ◌≤◌, ◌-◌, ℕ, List, [], length, refl, sym, ap, ◌∙◌, arith}
use Rattle.std.proofs.Common.{◌++◌, drop, true, Some}
use Rattle.std.proofs.Common.{length-take-le}
use Rattle.std.proofs.lemmas.Bool.{cond-false, lt-leb}
use Rattle.unix_path.specs.Parts.{Value, values}
use Rattle.unix_path.proofs.lemmas.parts.PartLemmas.{values-nil}
use Rattle.path_runs.specs.Buffer.{buffer_after}
use Rattle.path_runs.specs.Spelling.{spelling_of}
use Rattle.path_runs.proofs.lemmas.lists.OverlayLemmas.{buffer_after-fits}
use Rattle.path_keys.specs.Keys.{key_of, IsKey}
use Rattle.path_keys.proofs.lemmas.values.Fitting.{AllFit}
use Rattle.path_keys.proofs.lemmas.reading.TextLemmas.{text_of}
use Rattle.path_runs.proofs.lemmas.spelling.SpellLemmas.{spelling_of-nil}
use Rattle.path_keys.proofs.lemmas.values.CodeLemmas.{values-coded}
use Rattle.path_keys.proofs.lemmas.reading.FitLemmas.{AllFit-coded, values-spelled}
use Rattle.path_keys.proofs.lemmas.values.KeyLemmas.{key_of-nil}
use Rattle.path_keys.proofs.lemmas.values.OrderLemmas.{key_of-same}
use Rattle.path_keys.proofs.lemmas.reading.TextLemmas.{text_of-spelled}

-- if vs may be all components of a path, and `key` is their key, it is the key of their canonical
-- form
pub spelled_key : {key : List ℕ} (vs : List Value) → AllFit true vs → key_of vs ≡ key
    → key_of (values (spelling_of vs)) ≡ key
spelled_key vs fit e = ap key_of (values-spelled vs fit) ∙ e

-- if vs may be all components of a path, and `key` is their key, each path with the key has these
-- components
pub same_values : {key : List ℕ} (vs : List Value) (s : List ℕ) → AllFit true vs
    → key_of vs ≡ key → key_of (values s) ≡ key → vs ≡ values s
same_values vs s fit e k =
    key_of-same vs (values s) (AllFit-coded true vs fit) (values-coded s) (e ∙ sym k)

-- if the text of vs, which may be all components of a path, has `len` bytes, more than one, the
-- canonical form of vs has one byte less
pub spelled_longer : (vs : List Value) → AllFit true vs → (len : ℕ) → len ≡ length (text_of vs)
    → 1 < len → len - 1 ≡ length (spelling_of vs)
spelled_longer vs fit len e more =
    let text = text_of vs in
    let is = (text_of-spelled vs fit text refl).0 (omega (arith, e)) in
    omega (arith, e, ap length is, length-take-le (length text - 1) text (omega arith))

-- if the text of vs, which may be all components of a path, has `len` bytes, at most one, the
-- canonical form of vs has as many bytes
pub spelled_lone : (vs : List Value) → AllFit true vs → (len : ℕ) → len ≡ length (text_of vs)
    → len ≤ 1 → len ≡ length (spelling_of vs)
spelled_lone vs fit len e few =
    e ∙ ap length ((text_of-spelled vs fit (text_of vs) refl).1 (omega (arith, e)))

-- `key` is the key of a path whose canonical form has n bytes
abbrev pub HasPath : List ℕ → ℕ → Type 0
HasPath key n = (s : List ℕ) × (key_of (values s) ≡ key) × (n ≡ length (spelling_of (values s)))

-- if `key` is a key, and n is the length of the canonical form of each path with the key, a path
-- with the key has a canonical form of m bytes if m is n
pub has_path : {key : List ℕ} {n m : ℕ} → IsKey key
    → ((s : List ℕ) → key_of (values s) ≡ key → Some n ≡ Some (length (spelling_of (values s))))
    → m ≡ n → HasPath key m
has_path (s, e) long same = (s, e, same ∙ (let is = long s e in cc))

-- if two paths have the same key, they have the same canonical form
pub same_spelling : {key : List ℕ} (s t : List ℕ) → key_of (values s) ≡ key
    → key_of (values t) ≡ key → spelling_of (values s) ≡ spelling_of (values t)
same_spelling s t e k = ap spelling_of
    (key_of-same (values s) (values t) (values-coded s) (values-coded t) (e ∙ sym k))

-- if the canonical form of s has n bytes, and the buffer `old` has fewer, a call that writes it
-- leaves the buffer unchanged
pub kept_back : {old : List ℕ} {n : ℕ} (s : List ℕ)
    → Some n ≡ Some (length (spelling_of (values s))) → length old < n
    → old ≡ buffer_after (spelling_of (values s)) old
kept_back {old} {n} s long few =
    let is : n ≡ length (spelling_of (values s)) = cc in
    sym (cond-false _ _ _ (lt-leb (length (spelling_of (values s))) (length old)
    (omega (arith, is))))

-- if `path`, the canonical form of s, has n bytes, which fit in the buffer `old`, the buffer after
-- a call that writes the canonical form of s is `path` and then the remaining bytes of `old`
pub written_back : {path : List ℕ} {n : ℕ} (old s : List ℕ)
    → Some n ≡ Some (length (spelling_of (values s))) → path ≡ spelling_of (values s)
    → n ≤ length old → path ++ drop n old ≡ buffer_after (spelling_of (values s)) old
written_back {path} {n} old s long is fits =
    let count : n ≡ length (spelling_of (values s)) = cc in
    grind (arith, buffer_after-fits)

-- if `key` is empty, it is the key of the empty path
empty_values : (key : List ℕ) → key ≡ [] → key_of (values []) ≡ key
empty_values key e = ap key_of values-nil ∙ key_of-nil ∙ sym e

-- if `key` is empty, it is a key
pub empty_key : (key : List ℕ) → key ≡ [] → IsKey key
empty_key key e = ([], empty_values key e)

-- if `key` is empty, and n is the length of the canonical form of each path with the key, n is 0
pub empty_long : (key : List ℕ) (n : ℕ)
    → ((s : List ℕ) → key_of (values s) ≡ key → Some n ≡ Some (length (spelling_of (values s))))
    → key ≡ [] → n ≡ 0
empty_long key n long e =
    let is = long [] (empty_values key e) in
    let count : n ≡ length (spelling_of (values [])) = cc in
    count ∙ ap length (ap spelling_of values-nil ∙ spelling_of-nil)
