-- Where the stem of a file name ends.
use Rattle.std.proofs.Common.{◌≡◌, ℕ, ◌+◌, ◌-◌, ◌≤◌, List, [], ◌∷◌, ◌++◌, length, map, Option, Some}
use Rattle.std.proofs.Common.{None, option_map, sym, ap, subst, ◌∙◌, arith}
use Rattle.std.specs.Option.{option_map_or}
use Rattle.std.specs.List.{AllByRecursion}
use Rattle.std.proofs.lemmas.List.{map-append, length-take}
use Rattle.std.proofs.lemmas.Option.{none-some}
use Rattle.unix_path.specs.Parts.{Part, Normal, value_bytes}
use Rattle.unix_path.specs.Parts.{parts_of_pieces, inner_parts, leading_part, parts, values}
use Rattle.unix_path.specs.Rest.{rest}
use Rattle.unix_path.proofs.lemmas.parts.PlaceLemmas.{parts_end}
use Rattle.unix_path.specs.Names.{name_of, file_name_of, split_name}
use Rattle.unix_path.specs.Edits.{last_start_of, stem_end_of}
use Rattle.unix_bytes.proofs.lemmas.lists.ListLemmas.{Snoc, Empty, Push, snoc}
use Rattle.unix_bytes.proofs.lemmas.lists.ListLemmas.{last_or-push}
use Rattle.unix_path.proofs.lemmas.names.ParentLemmas.{file_name_of-last}
use Rattle.unix_path.proofs.lemmas.rests.RestLemmas.{take-rest}
use Rattle.unix_path.proofs.lemmas.steps.SpanLemmas.{length-rest_whole, parts_end-append}
use Rattle.unix_path.proofs.lemmas.parts.ValueLemmas.{value_bytes-piece, name_of-some}

-- the component p spans as many bytes as its value has
abbrev SpansValue : Part → Type 0
SpansValue p = p.end ≡ p.start + length (value_bytes p.value)

-- each component of the pieces ps spans as many bytes as its value has
SpansValue-parts_of_pieces : (at : ℕ) (ps : List (List ℕ))
    → AllByRecursion SpansValue (parts_of_pieces at ps)
SpansValue-parts_of_pieces at [] = tt
SpansValue-parts_of_pieces at (p ∷ ps) =
    grind (arith, value_bytes-piece, SpansValue-parts_of_pieces (at + length p + 1) ps)

SpansValue-append : (ps qs : List Part) → AllByRecursion SpansValue ps
    → AllByRecursion SpansValue qs → AllByRecursion SpansValue (ps ++ qs)
SpansValue-append [] qs h k = k
SpansValue-append (p ∷ ps) qs h k = (h.0, SpansValue-append ps qs h.1 k)

SpansValue-leading_part : (s : List ℕ) → AllByRecursion SpansValue (leading_part s)
unfolding leading_part
SpansValue-leading_part s = grind arith

-- each component of a path spans as many bytes as its value has
SpansValue-parts : (s : List ℕ) → AllByRecursion SpansValue (parts s)
unfolding parts inner_parts
SpansValue-parts s =
    grind (arith, SpansValue-append, SpansValue-leading_part, SpansValue-parts_of_pieces)

SpansValue-last : (ps : List Part) (p : Part) → AllByRecursion SpansValue (ps ++ p ∷ [])
    → SpansValue p
SpansValue-last [] p h = h.0
SpansValue-last (q ∷ ps) p h = SpansValue-last ps p h.1

-- if p is the last of a list of components, `last_start_of` this list is the index where p starts
last_start_of-push : (ps : List Part) (p : Part) → last_start_of (ps ++ p ∷ []) ≡ p.start
last_start_of-push ps p = ap (λ o. option_map_or (λ p. p.start) o 0) (last_or-push None ps p)

-- if s has the file name `name`, the start of the last component plus the length of `name` is the
-- length of s without its trailing filler
pub last_start_of-name : (s name : List ℕ) → Some name ≡ file_name_of (values s)
    → last_start_of (parts s) + length name ≡ length (rest s 0 0)
unfolding file_name_of values
last_start_of-name s name e = by_last (snoc (parts s))
  where
    by_last : Snoc (parts s) → last_start_of (parts s) + length name ≡ length (rest s 0 0)
    by_last (Empty n) =
        let none : Some name ≡ None =
        e ∙ ap (λ ps. file_name_of (map (λ p. p.value) ps)) n in
        absurd (none-some name (sym none))
    by_last (Push ps p n) =
        let last : file_name_of (map (λ p. p.value) (parts s)) ≡ name_of p.value =
        ap (λ ps. file_name_of (map (λ p. p.value) ps)) n
        ∙ ap file_name_of (map-append (λ p. p.value) ps (p ∷ []))
        ∙ file_name_of-last (map (λ p. p.value) ps) p.value in
        let v : p.value ≡ Normal name = name_of-some p.value name (sym last ∙ sym e) in
        let size : p.end ≡ p.start + length (value_bytes p.value) =
        SpansValue-last ps p (subst (AllByRecursion SpansValue) n (SpansValue-parts s)) in
        let bytes : length (value_bytes p.value) ≡ length name =
        ap (λ v. length (value_bytes v)) v in
        let from : last_start_of (parts s) ≡ p.start =
        ap last_start_of n ∙ last_start_of-push ps p in
        let to : parts_end (parts s) ≡ p.end = ap parts_end n ∙ parts_end-append ps p in
        omega (arith, length-rest_whole s)

-- if s has the file name `name`, and s without its trailing filler has `end` bytes, `name` has at
-- most `end` bytes
pub length-name : (s name : List ℕ) (end : ℕ) → Some name ≡ file_name_of (values s)
    → end ≡ length (rest s 0 0) → length name ≤ end
length-name s name end e at = omega (arith, last_start_of-name s name e, at)

-- the index in s where the stem of the file name `name` ends, or None if `name` is None
abbrev pub stem_end_by : List ℕ → Option (List ℕ) → Option ℕ
stem_end_by s name = option_map (λ stem. last_start_of (parts s) + length stem)
    (option_map (λ name. (split_name name).0) name)

-- if s has no file name, there is no index where the stem ends
pub stem_end_of-none : (s : List ℕ) → None ≡ file_name_of (values s) → None ≡ stem_end_of s
unfolding stem_end_of
stem_end_of-none s e = ap (stem_end_by s) e

-- if s has the file name `name` with the stem `stem`, and `end` bytes without its trailing filler,
-- then the name starts at index `end - length name`, and the stem ends `length stem` bytes later
pub stem_end_of-some : {stem : List ℕ} (s name : List ℕ) (end : ℕ)
    → Some name ≡ file_name_of (values s) → end ≡ length (rest s 0 0)
    → stem ≡ (split_name name).0 → Some (end - length name + length stem) ≡ stem_end_of s
unfolding stem_end_of
stem_end_of-some {stem} s name end e at is = grind (arith, last_start_of-name)

-- s without its trailing filler, `rest s 0 0`, is no longer than s
pub length-rest_whole-le : (s : List ℕ) → length (rest s 0 0) ≤ length s
length-rest_whole-le s =
    omega (arith, ap length (take-rest s 0), length-take (length (rest s 0 0)) s)
