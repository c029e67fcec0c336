use Rattle.std.proofs.Common.{arith}
use Rattle.std.proofs.lemmas.Grind.{common_steps}
use Rattle.std.proofs.Common.{[], length, refl, sym, subst, ◌∙◌, inl, inr}
use Rattle.std.proofs.lemmas.Bool.{false≢true}
use Rattle.std.proofs.lemmas.List.{take_rest}
use Rattle.unix_path.specs.Steps.{SharesPrefix}
use Rattle.unix_path.proofs.lemmas.order.AfterCutLemmas.{begins-rest_bytes}
use Rattle.unix_path.proofs.lemmas.order.PairLemmas.{CanCut, apart-unless, shares-written}
use Rattle.unix_path.proofs.pair.Pair.rest_bytes.Goals.{then-piece_rank-eq0, else-piece_rank-eq0}
use Rattle.unix_path.proofs.pair.Pair.rest_bytes.Goals as goal

pub returns-then-is_piece_start-clause-rest_bytes :
    goal.returns-then-is_piece_start-clause-rest_bytes
returns-then-is_piece_start-clause-rest_bytes c =
    let a = c.args.first.now in
    let b = c.args.second.now in
    let cut : CanCut a (length b) = elim c.if-piece_rank-eq0.branch [
      | then-piece_rank-eq0 w ↦ inr (sym c.piece_rank.ensures ∙ w.if-piece_rank-eq0.true)
      | else-piece_rank-eq0 w ↦
          inl (sym w.is_piece_start.ensures ∙ sym w.value-is ∙ c.if-is_piece_start.true)
    ] in
    subst (λ x. SharesPrefix a b x []) (sym (take_rest a (length b)))
    (shares-written a b c.common_len-common.result c.common_len-common.ensures.value c.requires
    c.if-len-common.true cut)

pub returns-then-is_piece_start-clause-begins : goal.returns-then-is_piece_start-clause-begins
returns-then-is_piece_start-clause-begins c =
    (λ _. begins-rest_bytes (returns-then-is_piece_start-clause-rest_bytes c), λ _. refl)

pub returns-in_default : goal.returns-in_default
returns-in_default c = grind (arith, common_steps, false≢true, apart-unless)
