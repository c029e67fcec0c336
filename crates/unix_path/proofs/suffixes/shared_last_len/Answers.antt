use Rattle.std.proofs.Common.{◌≡◌, true, false, refl, sym, ◌∙◌}
use Rattle.unix_path.proofs.lemmas.order.EndingLemmas.{ends_apart, LongestSuffix, shares_longest}
use Rattle.unix_path.proofs.suffixes.shared_last_len.Goals.{
  After-common_suffix_len-len,
  else-is_piece_start-via-then-is_piece_start+else-is_piece_start-2,
  else-is_piece_start-via-else-is_piece_start,
}
use Rattle.unix_path.proofs.suffixes.shared_last_len.Goals as goal

-- both paths end in their last components, and their common suffix is the longest without a slash
suffix : (c : After-common_suffix_len-len)
    → LongestSuffix c.args.a.now c.args.b.now c.common_suffix_len-len.result
suffix c =
    let len = c.common_suffix_len-len.ensures in
    record {
      first = record {
        some = c.if-not-ends_in_part.ensures.some refl;
        no_slash = c.if-not-ends_in_part.ensures.no_slash refl;
        part = c.if-not-ends_in_part.ensures.part refl;
      };
      second = record {
        some = c.if-not-ends_in_part-2.ensures.some refl;
        no_slash = c.if-not-ends_in_part-2.ensures.no_slash refl;
        part = c.if-not-ends_in_part-2.ensures.part refl;
      };
      suffix = record {
        in_first = len.in_first;
        in_second = len.in_second;
        same = len.same;
        no_slash = len.no_slash;
      };
      longest = len.longest;
    }

pub returns-then-is_piece_start-2-clause-shared : goal.returns-then-is_piece_start-2-clause-shared
returns-then-is_piece_start-2-clause-shared c =
    shares_longest
    (suffix (goal.at.returns-then-is_piece_start-2-clause-shared c).After-common_suffix_len-len)
    (sym c.is_piece_start.ensures ∙ c.if-is_piece_start.true)
    (sym c.is_piece_start-then-is_piece_start.ensures ∙ c.if-is_piece_start-2.true)

pub returns-else-is_piece_start-clause-apart : goal.returns-else-is_piece_start-clause-apart
returns-else-is_piece_start-clause-apart c _ = ends_apart
    (suffix (goal.at.returns-else-is_piece_start-clause-apart c).After-common_suffix_len-len)
    (λ first second. elim c.else-is_piece_start.branch [
      | else-is_piece_start-via-then-is_piece_start+else-is_piece_start-2 w ↦
          let no : true ≡ false = sym second
          ∙ sym w.is_piece_start-then-is_piece_start.ensures ∙ w.if-is_piece_start-2.false in cc
      | else-is_piece_start-via-else-is_piece_start w ↦
          let no : true ≡ false = sym first ∙ sym c.is_piece_start.ensures
          ∙ w.if-is_piece_start.false in cc
    ])
