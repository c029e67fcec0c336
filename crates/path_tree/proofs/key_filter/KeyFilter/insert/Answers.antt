use Rattle.std.proofs.Common.{◌≡◌, ◌<◌, arith, bit_and, get_or, length, set, subst, sym, true}
use Rattle.std.proofs.lemmas.List.{get_or_read}
use Rattle.path_tree.specs.Hashed.{has_bit, hash_of}
use Rattle.path_tree.proofs.lemmas.keys.FilterLemmas.{has_bit-kept, has_bit-outside, has_bit-set}
use Rattle.path_tree.proofs.lemmas.keys.FilterLemmas.{word_with}
use Rattle.path_tree.proofs.key_filter.KeyFilter.insert.Goals as goal

pub returns-then-slot-len-clause-contained : goal.returns-then-slot-len-clause-contained
returns-then-slot-len-clause-contained c = grind (arith, has_bit-outside)

pub returns-clause-contained : goal.returns-clause-contained
returns-clause-contained c =
    let words = c.args.self.now.words.items in
    let mask = c.args.self.now.mask in
    let hash = c.key_hash-hash.result in
    let slot = bit_and hash mask in
    let word = c.index-word.result.now in
    let there : slot < length words = omega (arith, c.len.ensures) in
    let read : get_or words slot 0 ≡ word =
    sym (get_or_read words slot word there c.index-word.ensures 0) in
    subst (λ h. has_bit mask (set words slot (word_with word hash)) h ≡ true)
    c.key_hash-hash.ensures
    (subst (λ w. has_bit mask (set words slot (word_with w hash)) hash ≡ true) read
    (has_bit-set mask words hash there c.key_hash-hash.type_inv))

pub returns-clause-kept : goal.returns-clause-kept
returns-clause-kept c = λ other has.
    let words = c.args.self.now.words.items in
    let mask = c.args.self.now.mask in
    let hash = c.key_hash-hash.result in
    let slot = bit_and hash mask in
    let word = c.index-word.result.now in
    let there : slot < length words = omega (arith, c.len.ensures) in
    let read : get_or words slot 0 ≡ word =
    sym (get_or_read words slot word there c.index-word.ensures 0) in
    subst (λ w. has_bit mask (set words slot (word_with w hash)) (hash_of other) ≡ true) read
    (has_bit-kept mask words hash there (hash_of other) has)
