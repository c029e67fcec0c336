-- The bits of a Bloom filter: the bit that an insertion sets, the bits that stay set, and a key
-- whose bit isn't set.
use Rattle.std.proofs.lemmas.Grind.{common_steps}
use Rattle.std.proofs.Common.{◌≡◌, ◌∙◌, ℕ, ◌*◌, ◌/◌, ◌%◌, ◌^◌, ◌<◌, ◌≤◌, Bool, true, false, cond}
use Rattle.std.proofs.Common.{List, [], ◌∷◌, None, ap, arith}
use Rattle.std.proofs.Common.{bit_and, bit_or, eq-eqb, eqb, eqb-true, get_or, le-ltb, length, ltb}
use Rattle.std.proofs.Common.{refl, set, subst, sym}
use Rattle.std.proofs.lemmas.Bool.{cases_eq}
use Rattle.std.proofs.lemmas.List.{get_or-set_other, get_or-set_same, length-set}
use Rattle.std.proofs.lemmas.List.Elements.{All-cons, All-head, All-tail}
use Rattle.std.proofs.lemmas.Map.Lookups.{exact_bytes}
use Rattle.std.proofs.lemmas.Map.Views.{tells_apart}
use Rattle.std.proofs.lemmas.Nat.{le_or_l, one_shl, or_comm, or_lt, or_mod, or_shr, shl-shr}
use Rattle.std.proofs.Math.Nat.{one-mul}
use Rattle.unix_bytes.proofs.lemmas.lists.ListLemmas.{by_test}
use Rattle.std.specs.Map.{keys_of, lookup}
use Rattle.path_tree.specs.Hashed.{has_bit}
use Rattle.path_tree.proofs.lemmas.keys.PassLemmas.{AllKeys}
use Rattle.path_tree.proofs.lemmas.keys.OwnLemmas.{is_it}

-- bit k of the word
abbrev digit : ℕ → ℕ → ℕ
digit word k = word / 2 ^ k % 2

-- bit k of the bitwise or of a and b is the or of bit k of a and bit k of b
digit-or : (a b k : ℕ) → digit (bit_or a b) k ≡ bit_or (digit a k) (digit b k)
digit-or a b k = ap (λ n. n % 2) (or_shr a b k) ∙ or_mod (a / 2 ^ k) (b / 2 ^ k) 1

-- a bit is 0 or 1
digit-below : (a k : ℕ) → digit a k < 2
digit-below a k = let n = a / 2 ^ k in omega arith

-- if x is 1, and y is less than 2, the bitwise or of x and y is 1
or-one : (x y : ℕ) → x ≡ 1 → y < 2 → bit_or x y ≡ 1
or-one x y is below = grind (arith, common_steps, le_or_l, or_lt)

-- if bit k of a is set, bit k of the bitwise or of a and b is set
digit-or_left : (a b k : ℕ) → digit a k ≡ 1 → digit (bit_or a b) k ≡ 1
digit-or_left a b k is = digit-or a b k ∙ or-one (digit a k) (digit b k) is (digit-below b k)

-- if bit k of b is set, bit k of the bitwise or of a and b is set
digit-or_right : (a b k : ℕ) → digit b k ≡ 1 → digit (bit_or a b) k ≡ 1
digit-or_right a b k is = ap (λ n. digit n k) (or_comm a b) ∙ digit-or_left b a k is

-- if k is less than 64, bit k of 1 shifted left by k bits is set
digit-one : (k : ℕ) → k < 64 → digit (1 * 2 ^ k % 2 ^ 64) k ≡ 1
digit-one k below =
    ap (λ n. digit n k) (one_shl k 64 below ∙ sym (one-mul (2 ^ k))) ∙ ap (λ n. n % 2) (shl-shr 1 k)

-- the word with the bit of the hash set
abbrev pub word_with : ℕ → ℕ → ℕ
word_with word hash = bit_or word (1 * 2 ^ (hash / 2 ^ 58) % 2 ^ 64)

-- the words with the bit of the hash set
abbrev pub words_with : ℕ → List ℕ → ℕ → List ℕ
words_with mask words hash =
    set words (bit_and hash mask) (word_with (get_or words (bit_and hash mask) 0) hash)

module _ (mask : ℕ) (words : List ℕ) (hash : ℕ) (there : bit_and hash mask < length words) where
  -- if there is a word for the hash, the words have the bit of the hash after this bit is set
  pub has_bit-set : hash < 2 ^ 64 → has_bit mask (words_with mask words hash) hash ≡ true
  unfolding has_bit
  has_bit-set fits =
      let slot = bit_and hash mask in
      let k = hash / 2 ^ 58 in
      let word = get_or words slot 0 in
      let new = words_with mask words hash in
      let below : k < 64 = omega arith in
      let is : digit (get_or new slot 0) k ≡ 1 =
      ap (λ w. digit w k) (get_or-set_same words slot (word_with word hash) 0 there)
      ∙ digit-or_right word (1 * 2 ^ k % 2 ^ 64) k (digit-one k below) in
      elim (ltb slot (length new)) as (λ t.
      cond t (eqb (digit (get_or new slot 0) k) 1) true ≡ true) [
        | true ↦ eq-eqb _ 1 is
        | false ↦ refl
      ]

  -- each bit of the words that was set is still set after the bit of `hash` is set
  stays : (place k : ℕ) → digit (get_or words place 0) k ≡ 1
      → digit (get_or (words_with mask words hash) place 0) k ≡ 1
  stays place k is = grind (arith, get_or-set_same, digit-or_left, get_or-set_other, cases_eq)

  -- if the words have the bit of `other`, they still have it after the bit of `hash` is set
  pub has_bit-kept : (other : ℕ) → has_bit mask words other ≡ true
      → has_bit mask (words_with mask words hash) other ≡ true
  unfolding has_bit
  has_bit-kept other has =
      let place = bit_and other mask in
      let k = other / 2 ^ 58 in
      let new = words_with mask words hash in
      let old_bit = digit (get_or words place 0) k in
      let new_bit = digit (get_or new place 0) k in
      subst (λ n. cond (ltb place n) (eqb new_bit 1) true ≡ true)
      (sym (length-set words (bit_and hash mask) _))
      (elim (ltb place (length words)) as (λ t. cond t (eqb old_bit 1) true ≡ true
      → cond t (eqb new_bit 1) true ≡ true) [
        | true ↦ λ is. eq-eqb new_bit 1 (stays place k (eqb-true old_bit 1 is))
        | false ↦ λ _. refl
      ] has)

-- if there is no word for the hash, its bit counts as set
pub has_bit-outside : (mask hash : ℕ) (words : List ℕ) → length words ≤ bit_and hash mask
    → has_bit mask words hash ≡ true
unfolding has_bit
has_bit-outside mask hash words out =
    let place = bit_and hash mask in
    ap (λ t. cond t (eqb (digit (get_or words place 0) (hash / 2 ^ 58)) 1) true)
    (le-ltb place (length words) out)

-- if there are no words, the bit of each hash counts as set
pub has_bit-none : (mask hash : ℕ) (words : List ℕ) → words ≡ [] → has_bit mask words hash ≡ true
has_bit-none mask hash words none = grind (arith, has_bit-outside)

-- a key that fails a test
module _ {K V : Type 0} (bytes_of : K → List ℕ) (test : List ℕ → Bool) (key : List ℕ)
    (fails : test key ≡ false) where
  -- if `key` fails a test that all keys of the entries pass, looking up `key` finds nothing
  pub lookup-filtered : (entries : List (K × V)) → AllKeys bytes_of test entries
      → lookup (is_it bytes_of key) entries ≡ None
  lookup-filtered [] all = refl
  lookup-filtered (e ∷ entries) all =
      let P : K → Type 0 = λ k. test (bytes_of k) ≡ true in
      by_test (is_it bytes_of key e.0)
      (λ same.
      let exact = tells_apart exact_bytes key (bytes_of e.0) same in
      let clash : false ≡ true = sym fails ∙ ap test exact ∙ All-head P e.0 _ all in
      absurd (cc))
      (λ other. rw other (lookup-filtered entries (All-tail P e.0 (keys_of entries) all)))

-- the filter `has` has the keys of all entries before the rest `remaining`: each filter that has
-- all keys of `has` and the keys of `remaining` has the keys of all entries
abbrev pub FiltersRest : {K V : Type 0} → (K → List ℕ) → (List ℕ → Bool) → List (K × V)
    → List (K × V) → Type 0
FiltersRest bytes_of has remaining all = (more : List ℕ → Bool)
    → ((key : List ℕ) → has key ≡ true → more key ≡ true)
    → AllKeys bytes_of more remaining → AllKeys bytes_of more all

-- if the filter `old` has the keys of all entries before e, and the filter `new` has the key of e
-- and each key that `old` has, then `new` has the keys of all entries before the rest after e
pub filters_more : {K V : Type 0} (bytes_of : K → List ℕ) (old new : List ℕ → Bool) (e : K × V)
    (remaining all : List (K × V)) → FiltersRest bytes_of old (e ∷ remaining) all
    → new (bytes_of e.0) ≡ true → ((key : List ℕ) → old key ≡ true → new key ≡ true)
    → FiltersRest bytes_of new remaining all
filters_more bytes_of old new e remaining all before has kept =
    λ more wider rest. before more (λ key is. wider key (kept key is))
    (All-cons (λ k. more (bytes_of k) ≡ true) e.0 (keys_of remaining)
    (wider (bytes_of e.0) has) rest)
