use Rattle.std.proofs.Common.{◌≡◌, ◌∙◌, List, [], ℕ, Option, ap, map, rules, tests, arith}
use Rattle.std.specs.Iterator.{Drains}
use Rattle.std.proofs.iter.Yields.{gives_Drains}
use Rattle.std.proofs.lemmas.Iterator.{YieldsList, YieldsList-from_map_by}
use Rattle.std.proofs.lemmas.Iterator.Consumers.{YieldsList-at}
use Rattle.std.proofs.lemmas.Result.{IfOk-weaker}
use Rattle.std.specs.Prelude.{fold}
use Rattle.unix_path.specs.Cursor.{cursor_rest, cursor_values}
use Rattle.unix_path.specs.Joins.{join_of}
use Rattle.unix_path.specs.Parts.{value_bytes}
use Rattle.unix_path.specs.declared.path.Path.{Path}
use Rattle.unix_path.proofs.lemmas.walks.CursorLemmas.{Components-yields}
use Rattle.path_runs.proofs.lemmas.joins.ExtendLemmas.{JoinsFit-none}
use Rattle.path_runs.proofs.lemmas.spelling.JoinAllLemmas.{joins-values}
use Rattle.path_runs.proofs.canonical.collected.Goals as goal

map-Drains : {S A B : Type 0} {steps : S → Option A → S → Type 0} (v : A → B) (xs : List A)
    (ys : List B) {s : S} → Drains steps s xs → YieldsList steps v s ys → map v xs ≡ ys
map-Drains {S} {A} {B} {steps} v xs ys {s} drains yields = grind (arith, gives_Drains)

pub returns-clause-succeeds : goal.returns-clause-succeeds
returns-clause-succeeds c = λ none.
    let walk = c.args.components in
    let bytes_of : Path → List ℕ = λ path. path.bytes.now in
    c.from_iter.ensures.succeeds (JoinsFit-none bytes_of (map value_bytes (cursor_values walk))
    (ap (map value_bytes) none)
    (YieldsList-from_map_by _ bytes_of value_bytes
    (YieldsList-at c.map.ensures.source (Components-yields walk))
    c.map.ensures.closure
    (λ x r q k. search (rules, tests))))

pub returns-clause-bytes : goal.returns-clause-bytes
returns-clause-bytes c =
    let bytes_of : Path → List ℕ = λ path. path.bytes.now in
    let walk = c.args.components in
    IfOk-weaker c.from_iter.result _ _ (λ p joins. joins.bytes
    ∙ ap (fold join_of []) (map-Drains bytes_of joins.paths (map value_bytes (cursor_values walk))
    joins.all_items
    (YieldsList-from_map_by _ bytes_of value_bytes
    (YieldsList-at c.map.ensures.source (Components-yields walk))
    c.map.ensures.closure
    (λ x r q k. search (rules, tests))))
    ∙ joins-values (cursor_rest walk)) c.from_iter.ensures.ok
