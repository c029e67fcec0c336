use Rattle.std.proofs.Common.{◌≡◌, ℕ, ◌<◌, false, arith, subst}
use Rattle.std.proofs.lemmas.List.{take_rest}
use Rattle.unix_path.specs.NameRunEnds.{ends_name_run_of}
use Rattle.unix_path.proofs.lemmas.name_run_ends.NameRunEndLemmas.{no_end_in_both}
use Rattle.unix_path.proofs.name_run_ends.name_run_end_min_expect_short.Goals as goal

pub returns-clause-none_before : goal.returns-clause-none_before
returns-clause-none_before c =
    let s = c.args.bytes.now in
    let n = c.name_run_end_min.result in
    no_end_in_both c.args.separator c.args.dot s 16 n (omega arith)
    (λ i l. c.name_run_end_simd16-len.ensures.none_before i (omega arith) (omega arith))
    (subst (λ r. (i : ℕ) → i < n → ends_name_run_of c.args.separator c.args.dot r i ≡ false)
    (take_rest s 16) c.name_run_end_min.ensures.none_before)
