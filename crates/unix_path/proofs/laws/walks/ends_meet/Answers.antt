use Rattle.std.proofs.Common.{length, sym, ap, ◌∙◌}
use Rattle.std.proofs.lemmas.List.{length-map, nil_from_length}
use Rattle.unix_path.specs.Cursor.{cursor_rest, cursor_values, GivesFirstPart, GivesLastPart}
use Rattle.unix_path.specs.Cursor.{iter_bytes, iter_cursor, name_bytes, GivesFirstName}
use Rattle.unix_path.specs.Cursor.{GivesLastName}
use Rattle.unix_path.specs.Views.{value_of}
use Rattle.unix_path.specs.Parts.{value_bytes}
use Rattle.unix_path.proofs.lemmas.walks.MixedLemmas.{ends_meet, none-cursor_rest, rest_between}
use Rattle.unix_path.proofs.lemmas.walks.CursorLemmas.{cursor_rest-whole}
use Rattle.unix_path.proofs.laws.walks.ends_meet.Goals as goal

pub returns-clause-parts : goal.returns-clause-parts
returns-clause-parts c = ends_meet value_of cursor_values GivesFirstPart GivesLastPart
    (λ s t item h. h.item_is) (λ s t item h. h.item_is)

pub returns-clause-items : goal.returns-clause-items
returns-clause-items c = ends_meet name_bytes iter_bytes GivesFirstName GivesLastName
    (λ s t item h. h.item_is) (λ s t item h. h.item_is)

pub returns-clause-rest : goal.returns-clause-rest
returns-clause-rest c =
    rest_between value_of cursor_values cursor_rest GivesFirstPart GivesLastPart
    (λ s t item h. h.item_is) (λ s t item h. h.item_is)
    (λ s t item h. h.rest_is) (λ s t item h. h.rest_is)
    cursor_rest-whole none-cursor_rest

pub returns-clause-items_rest : goal.returns-clause-items_rest
returns-clause-items_rest c =
    rest_between name_bytes iter_bytes (λ it. cursor_rest (iter_cursor it)) GivesFirstName
    GivesLastName
    (λ s t item h. h.item_is) (λ s t item h. h.item_is)
    (λ s t item h. h.rest_is) (λ s t item h. h.rest_is)
    (λ it. cursor_rest-whole it.components)
    (λ it none. none-cursor_rest it.components
    (nil_from_length _ (sym (length-map (cursor_values it.components) value_bytes)
    ∙ ap length none)))
