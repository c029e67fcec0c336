-- Strings that end in a name, which is their file name.
use Rattle.std.proofs.Common.{◌≡◌, ℕ, ◌-◌, ◌<◌, ◌≤◌, true, false, eqb, ltb, List, [], ◌∷◌}
use Rattle.std.proofs.Common.{◌++◌, length, get_or, take, drop, map, Option, Some, None}
use Rattle.std.proofs.Common.{refl, sym, ap, ◌∙◌, arith, ltb-true, ltb-false}
use Rattle.std.proofs.Common.{length-take-le, length-drop, get_or-drop, take_all}
use Rattle.std.specs.Str.{bytes_eq}
use Rattle.std.proofs.lemmas.Bool.{true≢false}
use Rattle.std.proofs.lemmas.List.{map-append}
use Rattle.std.proofs.lemmas.List.Sums.{fails_before_first}
use Rattle.std.proofs.lemmas.Option.{none-some}
use Rattle.std.proofs.lemmas.Slice.Eq.{bytes_eq-Decides}
use Rattle.std.proofs.lemmas.Grind.{common_steps}
use Rattle.unix_path.specs.Parts.{Normal, value_bytes}
use Rattle.unix_path.specs.Parts.{cur_dir, parts, values}
use Rattle.unix_path.specs.Rest.{rest}
use Rattle.unix_path.specs.Names.{name_of, file_name_of}
use Rattle.unix_path.specs.Extensions.{name_end_of}
use Rattle.unix_path.specs.Scan.{is_trailing, ends_with_parent_dir, EndsInPart}
use Rattle.unix_bytes.proofs.lemmas.lists.ListLemmas.{by_test}
use Rattle.unix_path.proofs.lemmas.steps.LastLemmas.{last_part, last_start, root_alone, IsLastStart}
use Rattle.unix_path.proofs.lemmas.steps.LastPieceLemmas.{last_name, starts_parent}
use Rattle.unix_path.proofs.lemmas.names.NameEndLemmas.{name_end_of-none, name_end_of-some}
use Rattle.unix_path.proofs.lemmas.names.ParentLemmas.{file_name_of-none, file_name_of-push}
use Rattle.unix_path.proofs.lemmas.parts.PartLemmas.{parts-none}
use Rattle.unix_path.proofs.lemmas.rests.RestLemmas.{take-rest}
use Rattle.unix_path.proofs.lemmas.steps.SpanLemmas.{length-rest_whole, parts_end-whole}
use Rattle.unix_path.proofs.lemmas.steps.SpanLemmas.{rest-trimmed, trims_end}
use Rattle.unix_path.proofs.lemmas.names.StemLemmas.{length-rest_whole-le}
use Rattle.unix_path.proofs.lemmas.filler.TrimLemmas.{parts_shorter}
use Rattle.unix_path.proofs.lemmas.parts.ValueLemmas.{first_value, name_of-some, value_bytes-first}
use Rattle.unix_path.proofs.lemmas.parts.PlaceLemmas.{parts_end}

-- the last piece of s, which begins at `start`, is the file name of s
pub record EndsInName (s : List ℕ) : Type 0 where
  pub start : ℕ
  pub last : IsLastStart s start
  pub some : start < length s
  pub value : first_value (drop start s) ≡ Normal (drop start s)
  pub name : Some (drop start s) ≡ file_name_of (values s)
  pub end : length s ≡ length (rest s 0 0)

-- s has a file name, which ends at `end`
pub record HasNameEnd (s : List ℕ) (end : ℕ) : Type 0 where
  pub bytes : List ℕ
  pub name : Some bytes ≡ file_name_of (values s)
  pub is : end ≡ length (rest s 0 0)

has_name_end : (s : List ℕ) (end : ℕ) (o : Option (List ℕ)) → o ≡ file_name_of (values s)
    → name_end_of s ≡ Some end → HasNameEnd s end
has_name_end s end None is e = absurd (none-some end (name_end_of-none s is ∙ e))
has_name_end s end (Some bytes) is e = grind (arith, name_end_of-some)

-- if the file name of s ends at `end`, s without its trailing filler has `end` bytes
pub name_end : (s : List ℕ) (end : ℕ) → name_end_of s ≡ Some end → HasNameEnd s end
name_end s end e = has_name_end s end (file_name_of (values s)) refl e

-- if s ends in a component, and its last piece, which begins at `start`, isn't empty, the
-- components of s are those of its first `start` bytes, and then that of the piece
last_value : (s : List ℕ) (start : ℕ) → IsLastStart s start → start < length s → EndsInPart s
    → values s ≡ values (take start s) ++ first_value (drop start s) ∷ []
unfolding values
last_value s start h l ends = grind (arith, last_part s start h l ends, map-append)

-- if s ends in a component, and its last piece, which begins at `start`, isn't empty and is a name,
-- the piece is the file name of s
name_of_piece : (s : List ℕ) (start : ℕ) → IsLastStart s start → start < length s → EndsInPart s
    → first_value (drop start s) ≡ Normal (drop start s) → EndsInName s
name_of_piece s start h l ends is = record {
  start = start;
  last = h;
  some = l;
  value = is;
  name = ap name_of (sym is)
      ∙ file_name_of-push s (take start s) _ (last_value s start h l ends);
  end = sym (length-rest_whole s ∙ parts_end-whole s ends);
}

-- if s isn't empty, ends in a component, and its last byte is a slash, which then is the root, s
-- has no file name
root_nameless : (s : List ℕ) → 0 < length s → EndsInPart s → get_or s (length s - 1) 0 ≡ 47
    → None ≡ file_name_of (values s)
unfolding values file_name_of
root_nameless s l ends e = grind (arith, root_alone)

-- if s ends in a component and has the file name `name`, the last piece of s is its file name
pub named_end : (s name : List ℕ) → EndsInPart s → Some name ≡ file_name_of (values s)
    → EndsInName s
unfolding values
named_end s name ends is =
    let at = last_start s in
    let l = at.1.in_range in
    by_test (ltb at.0 (length s))
    (λ t.
    let few = ltb-true _ _ t in
    let y = drop at.0 s in
    let v : first_value y ≡ Normal name =
    name_of-some (first_value y) name
    (file_name_of-push s (take at.0 s) _ (last_value s at.0 at.1 few ends) ∙ sym is) in
    let same : y ≡ name = sym (value_bytes-first y) ∙ ap value_bytes v in
    name_of_piece s at.0 at.1 few ends (v ∙ ap Normal (sym same)))
    (λ t. by_test (ltb 0 (length s))
    (λ some.
    let here : at.0 ≡ length s = omega (arith, ltb-false _ _ t) in
    let l : 0 < length s = ltb-true _ _ some in
    absurd (none-some name (root_nameless s l ends
    (ap (λ k. get_or s (k - 1) 0) (sym here) ∙ at.1.after_slash (omega arith)) ∙ sym is)))
    (λ none.
    let nil = parts-none s (omega (arith, ltb-false _ _ none)) in
    absurd (none-some name (file_name_of-none s (ap (λ ps. map (λ p. p.value) ps) nil)
    ∙ sym is))))

-- if s is as long as s without its trailing filler, s is empty or ends in a component
pub ends_part : (s : List ℕ) → length s ≡ length (rest s 0 0) → EndsInPart s
ends_part s e some =
    let n = length s in
    by_test (is_trailing s (n - 1))
    (λ t.
    let same : parts (take (n - 1) s) ≡ parts s =
    parts_shorter s n some (omega arith) t ∙ ap parts (take_all n s (omega arith)) in
    absurd (omega (
      arith,
      e,
      length-rest_whole s,
      ap parts_end same,
      length-rest_whole (take (n - 1) s),
      length-rest_whole-le (take (n - 1) s),
      length-take-le (n - 1) s (omega arith),
    )))
    (λ f. f)

-- if the file name of s ends where s ends, the last piece of s is its file name
pub ends_in_name : (s : List ℕ) → name_end_of s ≡ Some (length s) → EndsInName s
ends_in_name s e =
    let h = name_end s (length s) e in
    named_end s h.bytes (ends_part s h.is) h.name

-- if the last piece of s is its file name, the file name ends where s ends
pub name_end_of-named : (s : List ℕ) → EndsInName s → name_end_of s ≡ Some (length s)
name_end_of-named s h = sym (name_end_of-some s (drop h.start s) (length s) h.name h.end)

-- if s and t have the same components at the same positions, their file names end at the same
-- index, or neither has a file name
pub name_end_of-same : (s t : List ℕ) → parts s ≡ parts t → name_end_of s ≡ name_end_of t
unfolding name_end_of values
name_end_of-same s t e = grind arith

-- if the file name of s ends at `end`, the first `end` bytes of s have the same components as s
pub parts-named : (s : List ℕ) (end : ℕ) → name_end_of s ≡ Some end
    → parts (take end s) ≡ parts s
parts-named s end e =
    let h = name_end s end e in
    let trim = trims_end s in
    let size : trim.len ≡ end = sym (length-take-le trim.len s trim.in_range)
    ∙ sym (ap length (rest-trimmed s trim.len trim.in_range trim.same trim.ends)) ∙ sym h.is in
    ap (λ k. parts (take k s)) (sym size) ∙ trim.same

-- if the file name of s ends at `end`, the file name of the first `end` bytes of s ends at their
-- end
pub name_end_of-take : (s : List ℕ) (end : ℕ) → name_end_of s ≡ Some end → end ≤ length s
    → name_end_of (take end s) ≡ Some (length (take end s))
name_end_of-take s end e l = grind (arith, name_end_of-same, parts-named, length-take-le)

-- if the last piece of s begins at `start`, no byte of s at index `start` or later is a slash
pub piece_slash : (s : List ℕ) (start i : ℕ) → IsLastStart s start → start ≤ i → i < length s
    → eqb (get_or s i 0) 47 ≡ false
piece_slash s start i h from to =
    grind (arith, get_or-drop start s (i - start) 0, length-drop start s, fails_before_first)

-- if the last piece of s begins at i and at j, i is at most j; so it begins at only one index
pub last_start_same : (s : List ℕ) (i j : ℕ) → IsLastStart s i → IsLastStart s j → i ≤ j
last_start_same s i j h k = by_test (ltb j i)
    (λ t.
    let less = ltb-true _ _ t in
    let l = h.in_range in
    let some : 0 < i = omega arith in
    absurd (true≢false (sym (ap (λ b. eqb b 47) (h.after_slash some))
    ∙ piece_slash s j (i - 1) k (omega arith) (omega arith))))
    (λ f. omega (arith, ltb-false _ _ f))

-- a string that ends in a name is not empty
pub nameless-nil : (s : List ℕ) → length s ≡ 0 → name_end_of s ≡ Some (length s) → ⊥
nameless-nil s e is = let h = ends_in_name s is in let l = h.some in omega arith

-- a string that ends in a name doesn't end in a slash
pub nameless-slash : (s : List ℕ) → get_or s (length s - 1) 0 ≡ 47
    → name_end_of s ≡ Some (length s) → ⊥
nameless-slash s e is = grind (arith, common_steps, ends_in_name s is, piece_slash)

-- a string that ends in a name isn't `.`
pub nameless-dot : (s : List ℕ) → bytes_eq s cur_dir ≡ true → name_end_of s ≡ Some (length s) → ⊥
nameless-dot s e is = grind (arith, ends_in_name s is)

-- the last piece of a string that ends in a name isn't `..`
pub nameless-parent : (s : List ℕ) → ends_with_parent_dir s ≡ true
    → name_end_of s ≡ Some (length s) → ⊥
nameless-parent s e is =
    let h = ends_in_name s is in
    let two = starts_parent s e in
    let at : h.start ≡ length s - 2 = omega (
      arith,
      last_start_same s h.start (length s - 2) h.last two.0,
      last_start_same s (length s - 2) h.start two.0 h.last,
    ) in
    grind arith

-- a string that ends in a name has no trailing filler
pub nameless-trailing : (s : List ℕ) → 0 < length s → is_trailing s (length s - 1) ≡ true
    → name_end_of s ≡ Some (length s) → ⊥
nameless-trailing s some t is =
    true≢false (sym t ∙ ends_part s (ends_in_name s is).end some)

-- if s isn't empty, its last byte is neither a slash nor trailing filler, s isn't `.`, and its last
-- piece isn't `..`, then s ends in a name
pub named-piece : (s : List ℕ) → 0 < length s → eqb (get_or s (length s - 1) 0) 47 ≡ false
    → is_trailing s (length s - 1) ≡ false → bytes_eq s cur_dir ≡ false
    → ends_with_parent_dir s ≡ false → name_end_of s ≡ Some (length s)
named-piece s some no_slash ends no_dot no_parent =
    let at = last_start s in
    let l = at.1.in_range in
    by_test (ltb at.0 (length s))
    (λ t.
    let few = ltb-true _ _ t in
    name_end_of-named s (name_of_piece s at.0 at.1 few (λ _. ends)
    (last_name s at.0 at.1 few (λ _. ends) no_dot no_parent)))
    (λ f.
    let here : at.0 ≡ length s = omega (arith, ltb-false _ _ f) in
    absurd (true≢false (sym (ap (λ b. eqb b 47) (ap (λ k. get_or s (k - 1) 0) (sym here)
    ∙ at.1.after_slash (omega arith))) ∙ no_slash)))

-- if the first `end` bytes of s have the same components as s, and are empty or end in a component
-- that isn't a name, then s has no file name
pub name_end_of-unnamed : (s : List ℕ) (end : ℕ) → parts (take end s) ≡ parts s
    → EndsInPart (take end s)
    → (name_end_of (take end s) ≡ Some (length (take end s)) → ⊥) → None ≡ name_end_of s
name_end_of-unnamed s end same ends none = by (file_name_of (values (take end s))) refl
  where
    by : (o : Option (List ℕ)) → o ≡ file_name_of (values (take end s)) → None ≡ name_end_of s
    by None is = name_end_of-none (take end s) is ∙ name_end_of-same (take end s) s same
    by (Some name) is =
        absurd (none (name_end_of-named (take end s) (named_end (take end s) name ends is)))

-- if the first `end` bytes of s have the same components as s, and end in a name, the file name of
-- s ends at `end`
pub name_end_of-ended : (s : List ℕ) (end : ℕ) → end ≤ length s → parts (take end s) ≡ parts s
    → name_end_of (take end s) ≡ Some (length (take end s)) → Some end ≡ name_end_of s
name_end_of-ended s end l same is = grind (arith, length-take-le, name_end_of-same)

-- if s isn't empty, and its last byte is neither a slash nor a dot, s ends in a name
pub named-other : (s : List ℕ) → 0 < length s → eqb (get_or s (length s - 1) 0) 47 ≡ false
    → eqb (get_or s (length s - 1) 0) 46 ≡ false → name_end_of s ≡ Some (length s)
named-other s some no_slash no_dot =
    let n = length s in
    named-piece s some no_slash
    (by_test (ltb 0 (n - 1)) (λ e. rw (e, no_slash, no_dot) refl) (λ e. rw e refl))
    (by_test (bytes_eq s cur_dir)
    (λ e.
    let is = (bytes_eq-Decides s cur_dir).0 e in
    absurd (true≢false (sym (ap (λ s. eqb (get_or s (length s - 1) 0) 46) is) ∙ no_dot)))
    (λ e. e))
    (rw no_dot refl)

-- if s has at least two bytes, the last is a dot, the byte before it is no slash, and the last
-- piece isn't `..`, then s ends in a name
pub named-dot : (s : List ℕ) → 1 < length s → get_or s (length s - 1) 0 ≡ 46
    → eqb (get_or s (length s - 2) 0) 47 ≡ false → ends_with_parent_dir s ≡ false
    → name_end_of s ≡ Some (length s)
named-dot s some dot before no_parent =
    let n = length s in
    let no_slash : eqb (get_or s (n - 1) 0) 47 ≡ false = rw dot refl in
    grind (arith, common_steps, named-piece)

-- a string that is a single dot doesn't end in a name
pub nameless-one : (s : List ℕ) → length s ≡ 1 → get_or s (length s - 1) 0 ≡ 46
    → name_end_of s ≡ Some (length s) → ⊥
nameless-one [] e dot = absurd (omega (arith, e))
nameless-one (b ∷ []) e dot = nameless-dot (b ∷ []) (rw dot refl)
nameless-one (b ∷ c ∷ s) e dot = absurd (omega (arith, e))

-- a string that ends in a slash and a dot doesn't end in a name
pub nameless-after : (s : List ℕ) → 1 < length s → get_or s (length s - 1) 0 ≡ 46
    → get_or s (length s - 2) 0 ≡ 47 → name_end_of s ≡ Some (length s) → ⊥
nameless-after s some dot slash = grind (arith, nameless-trailing)

-- if the file name of s ends at `end`, the first `end` bytes of s are s without its trailing filler
pub take-name_end : (s : List ℕ) (end : ℕ) → name_end_of s ≡ Some end → take end s ≡ rest s 0 0
take-name_end s end e = ap (λ n. take n s) (name_end s end e).is ∙ take-rest s 0

-- which last bytes a string that ends in a name has
pub ruleset name_endings = (
  nameless-nil,
  nameless-slash,
  nameless-one,
  nameless-after,
  nameless-parent,
  named-other,
  named-dot,
)
