use Rattle.std.proofs.Common.{map}
use Rattle.unix_path.specs.Cursor.{cursor_rest, cursor_source}
use Rattle.unix_path.specs.Slices.{LiesIn}
use Rattle.unix_path.specs.Views.{value_of}
use Rattle.path_runs.proofs.lemmas.walks.WalkLemmas.{HasWalked}
use Rattle.path_runs.proofs.walk.walk.Given as goal

abbrev pub invariant-loop-turn : goal.invariant-loop-turn
invariant-loop-turn l =
    record {
      so_far : HasWalked l.fn.path.bytes.now l.turns l.turn-index (map value_of l.front.items)
          (cursor_rest l.remaining) (map value_of l.behind.items);
      place : LiesIn (cursor_source l.remaining) l.fn.path.bytes;
    }
