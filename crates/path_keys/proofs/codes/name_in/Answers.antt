use Rattle.std.proofs.Common.{take, ap, sym, ◌∙◌, arith, rules}
use Rattle.std.proofs.lemmas.Bool.{true≢false}
use Rattle.std.specs.Str.{bytes_eq}
use Rattle.unix_path.specs.Parts.{cur_dir, parent_dir}
use Rattle.path_keys.proofs.lemmas.reading.NameLemmas.{no_name_first, no_name_read, takes_name}
use Rattle.path_keys.proofs.codes.name_in.Goals as goal

pub returns-then-len-eq0-clause-none : goal.returns-then-len-eq0-clause-none
returns-then-len-eq0-clause-none c = λ _.
    no_name_first c.args.bytes.now c.find_byte-len.result c.find_byte-len.ensures.value
    (λ some l. omega arith)

pub returns-then-len-bytes-clause-none : goal.returns-then-len-bytes-clause-none
returns-then-len-bytes-clause-none c = λ _.
    no_name_first c.args.bytes.now c.find_byte-len.result c.find_byte-len.ensures.value
    (λ some l. omega arith)

pub returns-then-eq-clause-none : goal.returns-then-eq-clause-none
returns-then-eq-clause-none c = λ _.
    let n = c.find_byte-len.result in
    no_name_read c.args.bytes.now cur_dir n c.find_byte-len.ensures.value
    (ap (bytes_eq (take n c.args.bytes.now)) (sym c.as_slice.ensures) ∙ sym c.eq.ensures
    ∙ c.if-eq.true)
    (λ h. true≢false h.no_dot) (search rules)

pub returns-then-eq-2-clause-none : goal.returns-then-eq-2-clause-none
returns-then-eq-2-clause-none c = λ _.
    let n = c.find_byte-len.result in
    no_name_read c.args.bytes.now parent_dir n c.find_byte-len.ensures.value
    (ap (bytes_eq (take n c.args.bytes.now)) (sym c.as_slice-2.ensures) ∙ sym c.eq-2.ensures
    ∙ c.if-eq-2.true)
    (λ h. true≢false h.no_up) (search rules)

pub returns-clause-some : goal.returns-clause-some
returns-clause-some c =
    let n = c.find_byte-len.result in
    takes_name c.args.bytes.now n c.find_byte-len.ensures.value (omega arith)
    (omega (arith, c.find_byte-len.ensures.in_range))
    (ap (bytes_eq (take n c.args.bytes.now)) (sym c.as_slice.ensures) ∙ sym c.eq.ensures
    ∙ c.if-eq.false)
    (ap (bytes_eq (take n c.args.bytes.now)) (sym c.as_slice-2.ensures) ∙ sym c.eq-2.ensures
    ∙ c.if-eq-2.false)
