use Rattle.std.proofs.lemmas.Grind.{common_steps}
use Rattle.std.proofs.Common.{◌≡◌, ◌-◌, false}
use Rattle.std.proofs.Common.{sym, ap₂, subst, ◌∙◌, arith, eq-eqb, length-drop}
use Rattle.std.specs.Ordering.{nat_cmp}
use Rattle.std.proofs.lemmas.Bool.{false≢true}
use Rattle.std.proofs.lemmas.List.{take_rest}
use Rattle.std.proofs.lemmas.List.Sums.{common_prefix_len-le}
use Rattle.unix_path.specs.Steps.{is_piece_start, piece_rank, AreApart}
use Rattle.unix_path.proofs.lemmas.order.ApartLemmas.{apart-here, apart-inside}
use Rattle.unix_path.proofs.lemmas.order.PairLemmas.{CutsAt, cuts-begins, cuts-ends, inside_piece}
use Rattle.unix_path.proofs.lemmas.rests.SourceLemmas.{IsTail-from}
use Rattle.unix_path.proofs.pair.Pair.first_difference.Goals.{
  Joined-is_piece_start,
  Joined-x-y,
  then-x-y,
  else-x-y,
  then-is_piece_start,
  else-is_piece_start+then-first-common-eq46+then-is_piece_start-2,
  else-first-common-eq46-via-then-first-common-eq46+else-is_piece_start-2,
  else-first-common-eq46-via-else-first-common-eq46,
}
use Rattle.unix_path.proofs.pair.Pair.first_difference.Goals as goal

pub returns-then-is_in_name-2 : goal.returns-then-is_in_name-2
returns-then-is_in_name-2 c =
    let pair = c.args.self in
    let a = pair.first.now in
    let b = pair.second.now in
    let first = c.is_in_name.ensures in
    let second = c.is_in_name-then-is_in_name.ensures in
    let is_x = c.if-is_in_name.true in
    let is_y = c.if-is_in_name-2.true in
    subst (AreApart a b)
    (sym (c.cmp-order.ensures
    ∙ ap₂ nat_cmp c.piece_rank.ensures c.piece_rank-then-is_in_name-2.ensures))
    (apart-here a b pair.common pair.alike (first.no_end is_x) (first.no_dot is_x)
    (second.no_end is_y) (second.no_dot is_y))

pub is_piece_start-requires : goal.is_piece_start-requires
is_piece_start-requires c = grind (arith, common_steps, common_prefix_len-le)

-- if the condition for a cut at the first difference is false, no piece of the first path begins
-- there, and the two paths have different `piece_rank`s there
told : (c : Joined-x-y) → c.if-x-y.value ≡ false
    → (is_piece_start c.args.self.first.now c.args.self.common ≡ false)
    × (piece_rank c.args.self.first.now c.args.self.common
    ≡ piece_rank c.args.self.second.now c.args.self.common → ⊥)
told c e = grind (arith, common_steps, false≢true, eq-eqb)

pub bounds-first-common : goal.bounds-first-common
bounds-first-common c = grind (arith, common_steps, common_prefix_len-le, told, inside_piece)

pub returns-else-first-common-eq46 : goal.returns-else-first-common-eq46
returns-else-first-common-eq46 c = grind (arith, common_steps, told, is_piece_start, apart-inside)

-- both paths can be cut at `cut_index`
cut : (c : Joined-is_piece_start) → CutsAt c.args.self.first.now c.args.self.second.now
    c.if-is_piece_start.cut_index
cut c =
    let pair = c.args.self in
    let a = pair.first.now in
    let b = pair.second.now in
    let n = pair.common in
    elim c.if-is_piece_start.branch [
      | then-is_piece_start w ↦ subst (CutsAt a b) (sym w.cut_index-is) (elim c.if-x-y.branch [
        | then-x-y v ↦ cuts-ends a b n pair.alike
            (sym c.piece_rank-x.ensures ∙ v.if-x-y.true ∙ c.piece_rank-y.ensures)
        | else-x-y v ↦ cuts-begins a b n n pair.alike (omega arith)
            (sym v.is_piece_start.ensures ∙ sym v.value-is ∙ w.if-is_piece_start.true)
      ])
      | else-is_piece_start+then-first-common-eq46+then-is_piece_start-2 w ↦
          subst (CutsAt a b) (sym w.cut_index-is)
          (cuts-begins a b n (n - 1) pair.alike (omega arith)
          (sym w.is_piece_start-then-first-common-eq46.ensures ∙ w.if-is_piece_start-2.true))
    ]

pub slice_bounds-result-count : goal.slice_bounds-result-count
slice_bounds-result-count c = grind (arith, common_steps, cut)

pub slice_bounds-result-start : goal.slice_bounds-result-start
slice_bounds-result-start c = slice_bounds-result-count c

pub slice_bounds-result-count-2 : goal.slice_bounds-result-count-2
slice_bounds-result-count-2 c = grind (arith, common_steps, cut)

pub slice_bounds-result-start-2 : goal.slice_bounds-result-start-2
slice_bounds-result-start-2 c = slice_bounds-result-count-2 c

pub returns : goal.returns
returns c = grind (arith, common_steps, cut, take_rest, length-drop, IsTail-from)
