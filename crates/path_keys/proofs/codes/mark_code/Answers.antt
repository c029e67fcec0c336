use Rattle.std.proofs.Common.{[], ◌∷◌, ap, sym, arith}
use Rattle.std.proofs.lemmas.Bool.{true≢false}
use Rattle.unix_path.specs.Parts.{RootDir, CurDir, ParentDir}
use Rattle.path_keys.proofs.lemmas.reading.MarkLemmas.{is_marked, no_mark}
use Rattle.path_keys.proofs.codes.mark_code.Goals as goal

pub returns-then-mark-eq-PARENT_DIR_MARK-clause-some :
    goal.returns-then-mark-eq-PARENT_DIR_MARK-clause-some
returns-then-mark-eq-PARENT_DIR_MARK-clause-some c =
    is_marked c.args.first c.args.mark ParentDir tt
    (ap (λ m. 0 ∷ m ∷ []) (sym c.if-mark-eq-PARENT_DIR_MARK.true))

pub returns-then-mark-eq-ROOT_MARK-clause-some : goal.returns-then-mark-eq-ROOT_MARK-clause-some
returns-then-mark-eq-ROOT_MARK-clause-some c =
    is_marked c.args.first c.args.mark RootDir (grind arith)
    (ap (λ m. 0 ∷ m ∷ []) (sym c.if-mark-eq-ROOT_MARK.true))

pub returns-then-mark-eq-CUR_DIR_MARK-clause-some :
    goal.returns-then-mark-eq-CUR_DIR_MARK-clause-some
returns-then-mark-eq-CUR_DIR_MARK-clause-some c =
    is_marked c.args.first c.args.mark CurDir (grind arith)
    (ap (λ m. 0 ∷ m ∷ []) (sym c.if-mark-eq-CUR_DIR_MARK.true))

pub returns-then-not-first-clause-none : goal.returns-then-not-first-clause-none
returns-then-not-first-clause-none c = λ _.
    no_mark c.args.first c.args.mark (grind arith) (grind (arith, true≢false))
    (grind (arith, true≢false))

pub returns-clause-none : goal.returns-clause-none
returns-clause-none c = λ _.
    no_mark c.args.first c.args.mark (grind arith) (grind arith) (grind arith)
