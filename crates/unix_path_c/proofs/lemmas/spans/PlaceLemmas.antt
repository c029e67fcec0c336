-- The indices in a path of its parent, file name, stem and extension, and of the rest after a base.
use Rattle.std.proofs.Common.{◌≡◌, ℕ, zero, suc, ◌+◌, ◌-◌, ◌≤◌, ◌<◌, ltb, List, [], ◌∷◌, ◌++◌}
use Rattle.std.proofs.Common.{Bool, true, false, cond}
use Rattle.std.proofs.Common.{length, take, drop, Option, Some, None, option_map, refl, sym, ap}
use Rattle.std.proofs.Common.{ap₂, subst, ◌∙◌, arith, append_assoc, length-drop, take_all}
use Rattle.std.proofs.Math.Seq.{take-append_seam, drop-append_seam}
use Rattle.std.specs.Option.{option_and_then}
use Rattle.std.proofs.lemmas.List.{length-take, take-take}
use Rattle.std.proofs.lemmas.Option.{same_Some, none-some}
use Rattle.unix_path.specs.Parts.{Part, parts, values}
use Rattle.unix_path.specs.Rest.{rest, span_of}
use Rattle.unix_path.specs.Parents.{parent_of}
use Rattle.unix_path.specs.Names.{after_last, file_name_of, split_name, stem_of, extension_of}
use Rattle.unix_path.specs.Prefixes.{stripped_of}
use Rattle.unix_path.specs.Edits.{last_start_of, stem_end_of}
use Rattle.unix_path.specs.Extensions.{name_end_of}
use Rattle.unix_path.proofs.lemmas.parts.PlaceLemmas.{parts_end}
use Rattle.unix_path.proofs.lemmas.names.NameLemmas.{is_dot}
use Rattle.unix_path.proofs.lemmas.names.NamedLemmas.{name_end}
use Rattle.unix_path.proofs.lemmas.names.NameStemLemmas.{take-stem_end}
use Rattle.unix_path.proofs.lemmas.names.ParentLemmas.{parent_of-some}
use Rattle.unix_path.proofs.lemmas.rests.RestLemmas.{take-rest}
use Rattle.unix_path.proofs.lemmas.steps.SpanLemmas.{length-rest_whole}
use Rattle.unix_path.proofs.lemmas.names.StemLemmas.{last_start_of-name, length-name}
use Rattle.unix_path.proofs.lemmas.names.StemLemmas.{length-rest_whole-le}
use Rattle.unix_path.proofs.lemmas.names.NameCutLemmas.{name_cut}
use Rattle.unix_path_c.specs.Spans.{name_start_of}
use Rattle.unix_path_c.proofs.lemmas.spans.StretchLemmas.{LiesInside, stands, stands-end, EndsAt}
use Rattle.unix_path_c.proofs.lemmas.spans.StretchLemmas.{nothing_ends, range_ends}

-- the parent of s is a prefix of s
pub parent_inside : (s parent : List ℕ) → Some parent ≡ parent_of s → LiesInside s 0 parent
parent_inside s parent e =
    let is = parent_of-some s parent (sym e) in
    stands s parent 0 (omega arith)
    (ap (λ w. take (length w) s) is ∙ take-rest s 1 ∙ sym is)

-- x followed by y and then z contains y at index `length x`
pub take-inside : (x y z : List ℕ) → take (length y) (drop (length x) ((x ++ y) ++ z)) ≡ y
take-inside x y z =
    ap (λ t. take (length y) (drop (length x) t)) (append_assoc x y z)
    ∙ ap (take (length y)) (drop-append_seam x (y ++ z)) ∙ take-append_seam y z

-- s contains its file name at the index where the last component of s begins
name_inside : (s name : List ℕ) → Some name ≡ file_name_of (values s)
    → LiesInside s (last_start_of (parts s)) name
name_inside s name e =
    let cut = name_cut s name (sym e) in
    stands s name (last_start_of (parts s))
    (omega (arith, last_start_of-name s name e, length-rest_whole-le s))
    (ap₂ (λ i t. take (length name) (drop i t)) cut.start cut.whole
    ∙ take-inside cut.prefix name cut.back)

-- s contains its file name, which ends at the index `end` where the last component of s ends
pub name_ends : (s name : List ℕ) (end : ℕ) → Some name ≡ file_name_of (values s)
    → end ≡ length (rest s 0 0) → EndsAt s end name
name_ends s name end e at =
    let from : last_start_of (parts s) ≡ end - length name =
    omega (arith, last_start_of-name s name e) in
    record {
      fits = length-name s name end e at;
      stands = subst (λ i. LiesInside s i name) from (name_inside s name e);
    }

-- a path without a file name has no index at which a file name starts
pub name_start_of-none : (s : List ℕ) → None ≡ file_name_of (values s) → None ≡ name_start_of s
unfolding name_start_of
name_start_of-none s e = ap (option_map (λ name. last_start_of (parts s))) e

-- the index at which the file name starts is the end of the last component minus the length of the
-- file name
pub name_start_of-some : (s name : List ℕ) (end : ℕ) → Some name ≡ file_name_of (values s)
    → end ≡ length (rest s 0 0) → Some (end - length name) ≡ name_start_of s
unfolding name_start_of
name_start_of-some s name end e at =
    let start : end - length name ≡ last_start_of (parts s) =
    omega (arith, last_start_of-name s name e) in
    ap Some start ∙ ap (option_map (λ name. last_start_of (parts s))) e

-- if the n bytes at index `start` are the file name, so are the bytes from `start` up to
-- `start + n`
pub name_at : (s : List ℕ) (start n : ℕ) → Some (take n (drop start s)) ≡ file_name_of (values s)
    → Some (take (start + n - start) (drop start s)) ≡ file_name_of (values s)
name_at s start n named =
    ap (λ k. Some (take k (drop start s))) {x = start + n - start} {y = n} (omega arith) ∙ named

-- if the n bytes at index `start` are the file name, and its stem ends at index `stem` of the file
-- name, then the path's stem is the first `stem` bytes of the file name
pub stem_is : (s : List ℕ) (start n stem : ℕ)
    → Some (take n (drop start s)) ≡ file_name_of (values s)
    → stem ≤ length (take n (drop start s)) → stem_end_of (take n (drop start s)) ≡ Some stem
    → Some (take stem (drop start s)) ≡ stem_of (values s)
stem_is s start n stem named l at =
    let name = take n (drop start s) in
    ap Some (sym (take-take stem n (drop start s) (omega (arith, length-take n (drop start s))))
    ∙ take-stem_end s name stem named at)
    ∙ ap (option_map (λ name. (split_name name).0)) named

-- the extension is a suffix of the name, and begins at index `from` of the name
record IsEnd (name extension : List ℕ) : Type 0 where
  from : ℕ
  in_range : from ≤ length name
  is : drop from name ≡ extension

-- a name's stem and its extension, if it has one
abbrev Split : Type 0
Split = List ℕ × Option (List ℕ)

-- the extension of a name is a suffix of it
split_name-extension : (name extension : List ℕ) → Some extension ≡ (split_name name).1
    → IsEnd name extension
unfolding split_name
split_name-extension name extension = by (ltb 1 (after_last is_dot name))
  where
    by : (c : Bool) → Some extension
        ≡ (cond {A = Split} c (
          take (after_last is_dot name - 1) name,
          Some (drop (after_last is_dot name) name),
        ) (name, None)).1 → IsEnd name extension
    by false e = absurd (none-some extension (sym e))
    by true e = record {
      from = after_last is_dot name;
      in_range = omega arith;
      is = sym (same_Some extension _ e);
    }

-- s contains its extension, which ends at the index `end` where the file name of s ends
pub extension_ends : (s extension : List ℕ) (end : ℕ) → Some end ≡ name_end_of s
    → Some extension ≡ extension_of (values s) → EndsAt s end extension
extension_ends s extension end at e =
    let h = name_end s end (sym at) in
    let whole = name_ends s h.bytes end h.name h.is in
    let part = split_name-extension h.bytes extension
    (e ∙ ap (option_and_then (λ name. (split_name name).1)) (sym h.name)) in
    let in_range = part.in_range in
    let fits = whole.fits in
    let left : length extension ≡ length h.bytes - part.from =
    sym (ap length part.is) ∙ length-drop part.from h.bytes in
    let from : end - length h.bytes + part.from ≡ end - length extension = omega arith in
    record {
      fits = omega arith;
      stands = subst (LiesInside s (end - length extension)) part.is
          (subst (λ i. LiesInside s i (drop part.from h.bytes)) from
          (stands-end s h.bytes (end - length h.bytes) part.from whole.stands in_range));
    }

-- dropping components from the beginning, but not all of them, does not change where the last one
-- ends
parts_end-drop : (k : ℕ) (ps : List Part) → k < length ps → parts_end (drop k ps) ≡ parts_end ps
parts_end-drop zero ps l = refl
parts_end-drop (suc k) [] l = absurd (omega arith)
parts_end-drop (suc k) (p ∷ []) l = absurd (omega arith)
parts_end-drop (suc k) (p ∷ q ∷ ps) l = parts_end-drop k (q ∷ ps) (omega arith)

-- if the components ps end at index `end` of s, or ps is empty, the bytes from the start of the
-- first to the end of the last end at `end`
span_ends : (s : List ℕ) (ps : List Part) (end : ℕ) → end ≤ length s
    → (0 < length ps → parts_end ps ≡ end) → EndsAt s end (span_of s ps)
span_ends s [] end l h = nothing_ends s end l
span_ends s (p ∷ ps) end l h =
    subst (λ e. EndsAt s end (take (e - p.start) (drop p.start s))) (sym (h (omega arith)))
    (range_ends s p.start end l)

-- the rest after the first k components ends where the last component ends
rest_ends : (s : List ℕ) (k : ℕ) → EndsAt s (length (rest s 0 0)) (rest s k 0)
unfolding rest
rest_ends s k =
    let all = parts s in
    let end = length (rest s 0 0) in
    let whole : take (length all - (k + 0)) (drop k all) ≡ drop k all =
    take_all (length all - (k + 0)) (drop k all) (omega (arith, length-drop k all)) in
    subst (λ ps. EndsAt s end (span_of s ps)) (sym whole)
    (span_ends s (drop k all) end (length-rest_whole-le s)
    (λ l. parts_end-drop k all (omega (arith, length-drop k all)) ∙ sym (length-rest_whole s)))

-- the rest of a path after a base ends where the path's last component ends
pub stripped_ends : (s base left : List ℕ) (end : ℕ) → left ≡ stripped_of s base
    → end ≡ length (rest s 0 0) → EndsAt s end left
stripped_ends s base left end is at =
    let h = rest_ends s (length (values base)) in
    subst (EndsAt s end) (sym is)
    (subst (λ e. EndsAt s e (stripped_of s base)) (sym at) h)
