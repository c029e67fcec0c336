use Rattle.std.proofs.Common.{refl, arith, drop, get_or}
use Rattle.path_keys.proofs.lemmas.reading.MarkLemmas.{code_two, marked_in, no_name_code, not_begun}
use Rattle.path_keys.proofs.lemmas.reading.MarkLemmas.{takes_any}
use Rattle.path_keys.proofs.codes.code_in.Goals as goal

pub returns-then-bytes-lt2-clause-none : goal.returns-then-bytes-lt2-clause-none
returns-then-bytes-lt2-clause-none c = λ _ v h begins.
    omega (arith, code_two c.args.first v c.args.bytes.now h begins)

pub returns-then-bytes-eq0-clause-some : goal.returns-then-bytes-eq0-clause-some
returns-then-bytes-eq0-clause-some c =
    marked_in c.args.first c.args.bytes.now c.mark_code.result (omega arith) (omega arith)
    c.mark_code.ensures.some

pub returns-then-bytes-eq0-clause-none : goal.returns-then-bytes-eq0-clause-none
returns-then-bytes-eq0-clause-none c = λ e v h.
    let s = c.args.bytes.now in
    not_begun s (get_or s 1 0) v (omega arith) (omega arith) refl
    (λ begins. c.mark_code.ensures.none e v (drop 2 s) h begins)

pub returns-in_default-clause-none : goal.returns-in_default-clause-none
returns-in_default-clause-none c = λ _.
    no_name_code c.args.first c.args.bytes.now (λ e. omega arith) (c.in_default.ensures.none refl)

pub returns-clause-some : goal.returns-clause-some
returns-clause-some c =
    takes_any c.args.first c.args.bytes.now c.in-Some.name.now c.in-Some.ensures.some
