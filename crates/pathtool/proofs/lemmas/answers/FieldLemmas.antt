-- Edits that fields name, one after the other.
use Rattle.std.proofs.Common.{◌≡◌, ℕ, ◌+◌, ◌<◌, List, [], ◌∷◌, ◌++◌, length, get_or, drop}
use Rattle.std.proofs.Common.{Option, Some, None, option_map, is_some, refl, sym, ap, ap₂, ◌∙◌}
use Rattle.std.proofs.Common.{arith, map}
use Rattle.std.proofs.Common.{Bool, true, false, ◌&&◌, if◌then◌else◌}
use Rattle.std.specs.List.{cons_option, filter_map, list_all}
use Rattle.std.proofs.Common.{append-nil, append_assoc}
use Rattle.std.proofs.lemmas.List.{at_drop_more, at_drop_all, length_push, map-append}
use Rattle.unix_bytes.proofs.lemmas.lists.ListLemmas.{by_test}
use Rattle.path_runs.specs.EditLists.{EditValue}
use Rattle.path_runs.specs.EditViews.{edit_value}
use Rattle.path_runs.specs.declared.edits.Edit.{Edit}
use Rattle.pathtool.proofs.lemmas.lines.LoopLemmas.{IsStep}
use Rattle.pathtool.specs.EditFields.{edit_of_field, edit_answer}
use Rattle.pathtool.specs.EditFields.{edit_items}
use Rattle.pathtool.specs.Fields.{bad_command, tabs}

-- an edit followed by a list of edits, or `None` if either is `None`
abbrev pub prepend_edit : Option EditValue → Option (List EditValue) → Option (List EditValue)
prepend_edit (Some edit) (Some edits) = Some (edit ∷ edits)
prepend_edit (Some edit) None = None
prepend_edit None edits = None

-- the edits that the fields name, or `None` if one of the fields names no edit
abbrev pub edits_of_fields : List (List ℕ) → Option (List EditValue)
edits_of_fields [] = Some []
edits_of_fields (field ∷ fields) = prepend_edit (edit_of_field field) (edits_of_fields fields)

-- the answer to a list of edits, or `bad command` for `None`, which means that a field names no
-- edit
abbrev pub edited_answer : List ℕ → Option (List EditValue) → List ℕ
edited_answer path None = bad_command
edited_answer path (Some edits) = tabs (edit_items path edits)

-- the edits `done`, followed by the edits that `fields` name, or `None` if a field names no edit
abbrev pub edits_then : List EditValue → List (List ℕ) → Option (List EditValue)
edits_then done fields = option_map (λ edits. done ++ edits) (edits_of_fields fields)

map_before : (done : List EditValue) (edit : EditValue) (o : Option (List EditValue))
    → option_map (λ edits. done ++ edits) (prepend_edit (Some edit) o)
    ≡ option_map (λ edits. (done ++ edit ∷ []) ++ edits) o
map_before done edit None = refl
map_before done edit (Some edits) = ap Some (sym (append_assoc done (edit ∷ []) edits))

-- the edits `done`, followed by the edits that the fields from n on name, are `done`, then `said`,
-- the edit that field n names, and then the edits that the fields after n name; both are `None` if
-- field n or a field after it names no edit
edits_then-next : (done : List EditValue) (fields : List (List ℕ)) (n : ℕ) (field : List ℕ)
    (said : Option EditValue) → (n < length fields) × (field ≡ get_or fields n field)
    → said ≡ edit_of_field field → edits_then done (drop n fields)
    ≡ option_map (λ edits. done ++ edits)
    (prepend_edit said (edits_of_fields (drop (n + 1) fields)))
edits_then-next done fields n field said h e =
    at_drop_more (edits_then done) fields n field h.0
    ∙ ap (λ said. option_map (λ edits. done ++ edits)
    (prepend_edit said (edits_of_fields (drop (n + 1) fields))))
    (ap edit_of_field (sym h.1) ∙ sym e)

-- `so_far`: the edits so far, followed by the edits that the remaining fields name, are the edits
-- of all fields
module _ {A : Type 0} (shown : A → List ℕ) (fields : List (List ℕ)) (taken : List A)
    (edits : List Edit) (so_far : edits_then (map edit_value edits) (drop (length taken) fields)
    ≡ edits_of_fields fields) where
  -- if the next field names `edit`, the fact `so_far` still holds after `edit` is added to the
  -- edits so far and the field is taken from the remaining fields
  pub edits_then-more : (field : A) (edit : Edit) (found : Option Edit) (more : List Edit)
      → IsStep shown fields taken (Some field) → found ≡ Some edit
      → option_map edit_value found ≡ edit_of_field (shown field) → more ≡ edits ++ edit ∷ []
      → edits_then (map edit_value more) (drop (length (taken ++ field ∷ [])) fields)
      ≡ edits_of_fields fields
  edits_then-more field edit found more h is e pushed =
      let done = map edit_value edits in
      let left = drop (length taken + 1) fields in
      ap₂ (λ done n. edits_then done (drop n fields))
      (ap (map edit_value) pushed ∙ map-append edit_value edits (edit ∷ []))
      (length_push taken field)
      ∙ sym (edits_then-next done fields (length taken) (shown field)
      (Some (edit_value edit)) h (sym (ap (option_map edit_value) is) ∙ e)
      ∙ map_before done (edit_value edit) (edits_of_fields left))
      ∙ so_far

  -- if the next field names no edit, `edits_of_fields` is `None` for the list of all fields
  pub edits_then-bad : (field : A) (found : Option Edit) → IsStep shown fields taken (Some field)
      → found ≡ None → option_map edit_value found ≡ edit_of_field (shown field)
      → None ≡ edits_of_fields fields
  edits_then-bad field found h is e =
      sym (edits_then-next (map edit_value edits) fields (length taken) (shown field) None h
      (sym (ap (option_map edit_value) is) ∙ e)) ∙ so_far

  -- if no field remains, the edits so far are the edits of all fields
  pub edits_then-all : IsStep shown fields taken None
      → Some (map edit_value edits) ≡ edits_of_fields fields
  edits_then-all h =
      let done = map edit_value edits in
      sym (at_drop_all (edits_then done) fields (length taken) (omega (arith, h))
      ∙ ap Some (append-nil done)) ∙ so_far

-- each of the fields names an edit
abbrev pub are_edits : List (List ℕ) → Bool
are_edits fields = list_all (λ field. is_some (edit_of_field field)) fields

-- if `edit` is `Some` and `known` is true, `prepend_edit` returns this edit and then `edits`;
-- otherwise it returns `None`
prepend_edit-known : (edit : Option EditValue) (known : Bool) (edits : List EditValue)
    → prepend_edit edit (if known then Some edits else None)
    ≡ (if is_some edit && known then Some (cons_option edit edits) else None)
prepend_edit-known None known edits = refl
prepend_edit-known (Some edit) true edits = refl
prepend_edit-known (Some edit) false edits = refl

pub edits_of_fields-known : (fields : List (List ℕ)) → edits_of_fields fields
    ≡ (if are_edits fields then Some (filter_map edit_of_field fields) else None)
edits_of_fields-known [] = refl
edits_of_fields-known (field ∷ fields) =
    ap (prepend_edit (edit_of_field field)) (edits_of_fields-known fields)
    ∙ prepend_edit-known (edit_of_field field) (are_edits fields) (filter_map edit_of_field fields)

-- the answer to the edits that the fields name is the answer of the command `edit`
pub edited_answer-fields : (path : List ℕ) (fields : List (List ℕ))
    → edited_answer path (if are_edits fields then Some (filter_map edit_of_field fields) else None)
    ≡ edit_answer path fields
edited_answer-fields path fields =
    by_test (are_edits fields) (λ e. rw e refl) (λ e. rw e refl)
