use Rattle.std.proofs.Common.{length, ap}
use Rattle.std.proofs.iter.runs.Sources.{from_front, from_back}
use Rattle.unix_path.specs.Ancestors.{GivesAncestor, remaining_ancestors}
use Rattle.unix_path.specs.Cursor.{cursor_values, iter_bytes, GivesFirstPart, GivesLastPart}
use Rattle.unix_path.specs.Cursor.{name_bytes, GivesFirstName, GivesLastName}
use Rattle.unix_path.specs.Views.{value_of}
use Rattle.unix_path.specs.declared.path.Path.{Path}
use Rattle.unix_path.proofs.laws.walks.walks_in_order.Goals as goal

pub returns-clause-parts : goal.returns-clause-parts
returns-clause-parts c = from_front GivesFirstPart value_of cursor_values
    (λ s t h. ap length h.item_is.0) (λ s x t h. h.item_is)

pub returns-clause-parts_back : goal.returns-clause-parts_back
returns-clause-parts_back c = from_back GivesLastPart value_of cursor_values
    (λ s t h. ap length h.item_is.0) (λ s x t h. h.item_is)

pub returns-clause-items : goal.returns-clause-items
returns-clause-items c = from_front GivesFirstName name_bytes iter_bytes
    (λ s t h. ap length h.item_is.0) (λ s x t h. h.item_is)

pub returns-clause-items_back : goal.returns-clause-items_back
returns-clause-items_back c = from_back GivesLastName name_bytes iter_bytes
    (λ s t h. ap length h.item_is.0) (λ s x t h. h.item_is)

pub returns-clause-ancestors : goal.returns-clause-ancestors
returns-clause-ancestors c =
    from_front {A = Path} GivesAncestor (λ path. path.bytes.now) remaining_ancestors
    (λ s t h. ap length h.item_is.0) (λ s x t h. h.item_is)
