use Rattle.std.proofs.Common.{◌==◌, ◌≡◌, ◌≤◌, ◌<◌, arith, length, drop}
use Rattle.std.specs.List.{position_or_len}
use Rattle.std.proofs.lemmas.Grind.{common_steps}
use Rattle.std.proofs.lemmas.List.{length-drop}
use Rattle.path_archive.proofs.lemmas.records.FieldLemmas.{field_bytes, field_first, field_last}
use Rattle.path_archive.proofs.records.field_end.Goals as goal

pub returns-then-len-records-clause-some : goal.returns-then-len-records-clause-some
returns-then-len-records-clause-some c =
    let value : c.find_byte-len.result
    ≡ position_or_len (λ b. b == 0) (drop c.args.at c.args.records.now) =
    grind (arith, common_steps, c.find_byte-len.ensures.value) in
    let size = length-drop c.args.at c.args.records.now in
    let n_in : c.find_byte-len.result < length (drop c.args.at c.args.records.now) = omega arith in
    field_first c.args.records.now c.args.at c.find_byte-len.result c.requires
    value n_in

pub returns-then-len-records-clause-field : goal.returns-then-len-records-clause-field
returns-then-len-records-clause-field c =
    let value : c.find_byte-len.result
    ≡ position_or_len (λ b. b == 0) (drop c.args.at c.args.records.now) =
    grind (arith, common_steps, c.find_byte-len.ensures.value) in
    field_bytes c.args.records.now c.args.at c.find_byte-len.result value

pub returns-else-len-records-clause-none : goal.returns-else-len-records-clause-none
returns-else-len-records-clause-none c = λ is.
    let value : c.find_byte-len.result
    ≡ position_or_len (λ b. b == 0) (drop c.args.at c.args.records.now) =
    grind (arith, common_steps, c.find_byte-len.ensures.value) in
    let size = length-drop c.args.at c.args.records.now in
    let end : length (drop c.args.at c.args.records.now) ≤ c.find_byte-len.result = omega arith in
    field_last c.args.records.now c.args.at c.find_byte-len.result value end
