-- A path cut at its file name.
use Rattle.std.proofs.Common.{◌≡◌, ℕ, zero, suc, ◌+◌, ◌-◌, ◌≤◌, ◌<◌, Bool, true, false, cond}
use Rattle.std.proofs.Common.{ltb, List, [], ◌∷◌, ◌++◌, length, take, drop, get_or}
use Rattle.std.proofs.Common.{map, Some, refl, sym, ap, subst, ◌∙◌, arith, length-append}
use Rattle.std.proofs.Common.{take-append-drop, ltb-true}
use Rattle.std.proofs.Common.{ltb-false, length-drop}
use Rattle.std.specs.List.{position_or_len}
use Rattle.std.specs.Str.{bytes_eq}
use Rattle.std.proofs.lemmas.List.{map-append, nil_from_length}
use Rattle.std.proofs.lemmas.Option.{none-some}
use Rattle.std.proofs.lemmas.Grind.{common_steps}
use Rattle.unix_path.specs.Parts.{is_slash, cur_dir, parent_dir, Part, Value, RootDir, CurDir}
use Rattle.unix_path.specs.Parts.{ParentDir, Normal, parts, values}
use Rattle.unix_path.specs.Rest.{rest}
use Rattle.unix_path.specs.Joins.{needs_no_separator}
use Rattle.unix_path.specs.Names.{file_name_of}
use Rattle.unix_path.specs.Edits.{last_start_of}
use Rattle.unix_bytes.proofs.lemmas.lists.ListLemmas.{by_test}
use Rattle.unix_path.proofs.lemmas.edits.JoinLemmas.{needs_no_separator-at}
use Rattle.unix_path.proofs.lemmas.steps.LastLemmas.{last_part, last_start, root_alone, IsLastStart}
use Rattle.unix_path.proofs.lemmas.names.ParentLemmas.{file_name_of-last}
use Rattle.unix_path.proofs.lemmas.parts.PartLemmas.{values-nil, parts-name}
use Rattle.unix_path.proofs.lemmas.steps.SpanLemmas.{TrimsEnd, trims_end, length-rest_whole}
use Rattle.unix_path.proofs.lemmas.steps.SpanLemmas.{parts_end-whole}
use Rattle.unix_path.proofs.lemmas.names.StemLemmas.{last_start_of-name}
use Rattle.unix_path.proofs.lemmas.parts.ValueLemmas.{first_value}
use Rattle.unix_path.proofs.lemmas.parts.PlaceLemmas.{parts_end}
use Rattle.unix_path.proofs.lemmas.parts.PieceLemmas.{inner_parts-nil, no_slash_head}

-- `name` is one piece, and neither empty nor `.` nor `..`
pub record IsName (name : List ℕ) : Type 0 where
  pub some : 0 < length name
  pub no_slash : position_or_len is_slash name ≡ length name
  pub no_dot : bytes_eq name cur_dir ≡ false
  pub no_dots : bytes_eq name parent_dir ≡ false

-- s is a prefix that is empty or ends in a slash, then the file name `name`, and then the filler
-- after it
pub record NameCut (s name : List ℕ) : Type 0 where
  pub prefix : List ℕ
  pub back : List ℕ
  pub whole : s ≡ (prefix ++ name) ++ back
  pub ends : needs_no_separator prefix ≡ true
  pub start : last_start_of (parts s) ≡ length prefix
  pub before : values s ≡ values prefix ++ Normal name ∷ []
  pub is_name : IsName name

-- if the last component of s is v, and s has the file name `name`, then v is the component `name`
name_of_push : (s name : List ℕ) (vs : List Value) (v : Value) → values s ≡ vs ++ v ∷ []
    → file_name_of (values s) ≡ Some name → v ≡ Normal name
name_of_push s name vs v is e = grind (arith, file_name_of-last)

-- if s has no components, it has no file name
no_name : (s name : List ℕ) → values s ≡ [] → file_name_of (values s) ≡ Some name → ⊥
unfolding file_name_of
no_name s name is e = none-some name (sym (ap file_name_of is) ∙ e)

-- the piece y is `name`, and neither `.` nor `..`
record IsNamePiece (y name : List ℕ) : Type 0 where
  same : y ≡ name
  no_dot : bytes_eq y cur_dir ≡ false
  no_dots : bytes_eq y parent_dir ≡ false

-- if the piece y, at the beginning of a string, is the component `name`, then y is `name`, and
-- neither `.` nor `..`
name_piece : (y name : List ℕ) → first_value y ≡ Normal name → IsNamePiece y name
name_piece y name h = by (bytes_eq y cur_dir) refl (bytes_eq y parent_dir) refl h
  where
    by : (c : Bool) → bytes_eq y cur_dir ≡ c → (d : Bool) → bytes_eq y parent_dir ≡ d
        → cond c CurDir (cond d ParentDir (Normal y)) ≡ Normal name → IsNamePiece y name
    by true e d k h = absurd (let no : CurDir ≡ Normal name = h in cc)
    by false e true k h = absurd (let no : ParentDir ≡ Normal name = h in cc)
    by false e false k h = record { same = cc; no_dot = e; no_dots = k }

-- if `a` is 0, or the last of the first `a` bytes of t is a slash, a join to these bytes needs no
-- separator
needs_no_separator-take : (t : List ℕ) (a : ℕ) → a ≤ length t → (0 < a → get_or t (a - 1) 0 ≡ 47)
    → needs_no_separator (take a t) ≡ true
needs_no_separator-take t zero l h = refl
needs_no_separator-take t (suc k) l h = grind (arith, common_steps, needs_no_separator-at)

-- if s has the file name `name`, and the last piece of s without its trailing filler starts at
-- index `a` and isn't empty, then s is a prefix, `name` and filler (`NameCut`)
cut_at : (s name : List ℕ) (trim : TrimsEnd s) (a : ℕ) → file_name_of (values s) ≡ Some name
    → IsLastStart (take trim.len s) a → a < length (take trim.len s) → NameCut s name
unfolding values
cut_at s name trim a e h l =
    let t = take trim.len s in
    let last = last_part t a h l trim.ends in
    let y = drop a t in
    let v = first_value y in
    let prefix = take a t in
    let all : values s ≡ values prefix ++ v ∷ [] =
    ap (map (λ (p : Part). p.value)) (sym trim.same ∙ last.1)
    ∙ map-append (λ (p : Part). p.value) (parts prefix)
    (record { start = last.0; end = length t; value = v } ∷ []) in
    let named = name_of_push s name (values prefix) v all e in
    let piece = name_piece y name named in
    let same = piece.same in
    let t_is : prefix ++ name ≡ t = ap (λ y. prefix ++ y) (sym same) ∙ take-append-drop a t in
    let size : length t ≡ length prefix + length name =
    sym (ap length t_is) ∙ length-append prefix name in
    let end : length (rest s 0 0) ≡ length t = length-rest_whole s
    ∙ ap parts_end (sym trim.same) ∙ parts_end-whole t trim.ends in
    record {
      prefix = prefix;
      back = drop trim.len s;
      whole = sym (ap (λ t. t ++ drop trim.len s) t_is ∙ take-append-drop trim.len s);
      ends = needs_no_separator-take t a h.in_range h.after_slash;
      start = omega (arith, last_start_of-name s name (sym e));
      before = all ∙ ap (λ v. values prefix ++ v ∷ []) named;
      is_name = record {
        some = omega (arith, length-drop a t, ap length same);
        no_slash = subst (λ y. position_or_len is_slash y ≡ length y) same h.no_slash;
        no_dot = subst (λ y. bytes_eq y cur_dir ≡ false) same piece.no_dot;
        no_dots = subst (λ y. bytes_eq y parent_dir ≡ false) same piece.no_dots;
      };
    }

-- if s has a file name, the last piece of s without its trailing filler, which starts at index `a`,
-- isn't empty
no_name_at_end : (s name : List ℕ) (trim : TrimsEnd s) (a : ℕ) → file_name_of (values s) ≡ Some name
    → IsLastStart (take trim.len s) a → length (take trim.len s) ≤ a → ⊥
unfolding values
no_name_at_end s name trim a e h l =
    let t = take trim.len s in
    let m = h.in_range in
    let here : a ≡ length t = omega arith in
    by_test (ltb 0 (length t))
    (λ some.
    let root = root_alone t (ltb-true _ _ some) trim.ends
    (ap (λ k. get_or t (k - 1) 0) (sym here) ∙ h.after_slash (omega (arith, ltb-true _ _ some))) in
    let all : values s ≡ RootDir ∷ [] =
    ap (map (λ (p : Part). p.value)) (sym trim.same ∙ root) in
    absurd (let no : RootDir ≡ Normal name = name_of_push s name [] RootDir all e in cc))
    (λ none.
    let nil : t ≡ [] = nil_from_length t (omega (arith, ltb-false _ _ none)) in
    no_name s name (ap (map (λ (p : Part). p.value)) (sym trim.same) ∙ ap values nil ∙ values-nil)
    e)

-- if s has the file name `name`, then s is a prefix, `name` and filler (`NameCut`)
pub name_cut : (s name : List ℕ) → file_name_of (values s) ≡ Some name → NameCut s name
name_cut s name e =
    let trim = trims_end s in
    let at = last_start (take trim.len s) in
    by_test (ltb at.0 (length (take trim.len s)))
    (λ l. cut_at s name trim at.0 e at.1 (ltb-true _ _ l))
    (λ l. absurd (no_name_at_end s name trim at.0 e at.1 (ltb-false _ _ l)))

-- a string s that is a name (`IsName`) has one component, which is this name
pub values-name : (s : List ℕ) → IsName s → values s ≡ Normal s ∷ []
unfolding values
values-name s h =
    grind (
      arith,
      common_steps,
      parts-name s h.some (no_slash_head s h.no_slash h.some),
      inner_parts-nil,
    )
