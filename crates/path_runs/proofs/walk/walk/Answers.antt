use Rattle.std.proofs.lemmas.Bool.{false≢true}
use Rattle.std.proofs.lemmas.List.{map-append}
use Rattle.unix_path.specs.Views.{value_of}
use Rattle.unix_path.proofs.lemmas.rests.SourceLemmas.{lies_deeper}
use Rattle.path_runs.proofs.lemmas.walks.WalkStepLemmas.{HasWalked-front, HasWalked-back}
use Rattle.path_runs.proofs.lemmas.walks.WalkStepLemmas.{none_after, none_before}
use Rattle.path_runs.proofs.walk.walk.Goals.{in-Front+in_ok-push_some-in-Front}
use Rattle.path_runs.proofs.walk.walk.Goals.{in-Back+in_ok-push_some-in-Back}
use Rattle.path_runs.proofs.walk.walk.Goals as goal
use Rattle.std.proofs.Common.{arith}
use Rattle.unix_path.proofs.lemmas.parts.PartLemmas.{rest-nil, values-nil}

pub loop-turn-preserved : goal.loop-turn-preserved
loop-turn-preserved c =
    let s = c.args.path.bytes.now in
    let ts = c.args.turns.now in
    let i = c.loop-turn.turn-index in
    let h = c.loop-turn.invariant.so_far in
    let l = c.loop-turn-test.true in
    elim c.match-turn.branch [
      | in-Front+in_ok-push_some-in-Front w ↦
          let gives = w.next.ensures.steps in
          let pushed = w.in_ok-push_some-in-Front.ensures.items in
          let added = map-append value_of c.loop-turn.front.items in
          rw (w.remaining-is, w.front-is, w.behind-is, pushed, added) (record {
            so_far = HasWalked-front value_of s ts i _ _ _ w.next.result _ h l w.in-Front.is
                gives.item_is gives.rest_is;
            place = lies_deeper gives.place_is c.loop-turn.invariant.place;
          })
      | in-Back+in_ok-push_some-in-Back w ↦
          let gives = w.next_back.ensures.steps in
          let pushed = w.in_ok-push_some-in-Back.ensures.items in
          let added = map-append value_of c.loop-turn.behind.items in
          rw (w.remaining-is, w.front-is, w.behind-is, pushed, added) (record {
            so_far = HasWalked-back value_of s ts i _ _ _ w.next_back.result _ h l w.in-Back.is
                gives.item_is gives.rest_is;
            place = lies_deeper gives.place_is c.loop-turn.invariant.place;
          })
    ]

pub returns-in_err-push_some-in-Front-clause-succeeds_empty :
    goal.returns-in_err-push_some-in-Front-clause-succeeds_empty
returns-in_err-push_some-in-Front-clause-succeeds_empty c =
    grind (arith, none_before, false≢true, rest-nil, values-nil)

pub returns-in_err-push_some-in-Back-clause-succeeds_empty :
    goal.returns-in_err-push_some-in-Back-clause-succeeds_empty
returns-in_err-push_some-in-Back-clause-succeeds_empty c =
    grind (arith, none_after, false≢true, rest-nil, values-nil)
