use Rattle.std.proofs.lemmas.Bool.{false≢true}
use Rattle.unix_path.specs.Cursor.{cursor_values}
use Rattle.unix_path.proofs.lemmas.lists.SuffixLemmas.{ends_last, ends_without_shared}
use Rattle.unix_path.proofs.suffixes.ends_with_parts.Goals as goal

pub returns-then-not-has_same_value : goal.returns-then-not-has_same_value
returns-then-not-has_same_value c = (
  λ h. absurd (false≢true h),
  λ h.
      let same = c.if-not-has_same_value.ensures.1 (ends_last
      (cursor_values c.next_back-in-Some.new.self) (cursor_values c.next_back.new.self)
      c.in-Some-next_back.ensures.steps.item_is c.in-Some.ensures.steps.item_is
      (ends_without_shared c.loop-part.invariant h)) in
      cc,
)
