use Rattle.std.proofs.Common.{◌≡◌, ◌≤◌, ◌<◌, ◌-◌, ◌∙◌, ap, ap₂, arith, drop, length, refl, subst}
use Rattle.std.proofs.Common.{subst₂, sym, take}
use Rattle.std.proofs.lemmas.List.{nil_from_length, take_rest}
use Rattle.unix_path.specs.Slices.{IsTail}
use Rattle.unix_path.proofs.lemmas.order.AfterCutLemmas.{after_filler-is, AfterFiller}
use Rattle.path_tree.proofs.lemmas.keys.RestLemmas.{rest-after, rest-none, rest_short, tail_of_rest}
use Rattle.path_tree.proofs.tree.longest_prefix.rest_after.Goals as goal

pub returns-then-len-eq0-clause-bytes : goal.returns-then-len-eq0-clause-bytes
returns-then-len-eq0-clause-bytes c = grind (arith, rest-none, nil_from_length)

pub slice_bounds-after_filler-count : goal.slice_bounds-after_filler-count
slice_bounds-after_filler-count c = omega (
  arith,
  c.len-len.ensures,
  ap length c.as_unix_str.ensures.bytes,
  ap length c.requires.base.1,
  rest_short c.args.path.bytes.now c.requires.base.0,
  ap length (c.as_bytes.ensures.bytes ∙ c.as_unix_str-2.ensures.bytes),
)

pub slice_bounds-after_filler-start : goal.slice_bounds-after_filler-start
slice_bounds-after_filler-start c = slice_bounds-after_filler-count c

pub returns-clause-tail : goal.returns-clause-tail
returns-clause-tail c =
    let path = c.args.path.bytes in
    let whole : c.as_bytes.result ≡ path = c.as_bytes.ensures.place ∙ c.as_unix_str-2.ensures.place
    in
    let short : c.len-len.result ≤ length c.as_bytes.result.now =
    omega (
      arith,
      c.len-len.ensures,
      ap length c.as_unix_str.ensures.bytes,
      ap length c.requires.base.1,
      rest_short path.now c.requires.base.0,
      ap (λ part. length part.now) whole,
    ) in
    subst (λ part. IsTail part path) (sym c.from_bytes.ensures.place)
    (subst (IsTail c.after_filler.result) whole
    (tail_of_rest c.after_filler.result _ c.as_bytes.result c.len-len.result short
    c.after_filler.ensures.tail refl refl (omega arith)))

pub returns-clause-bytes : goal.returns-clause-bytes
returns-clause-bytes c =
    let s = c.args.path.bytes.now in
    let b = c.args.base.bytes.now in
    let n = c.len-len.result in
    let long : n ≡ length b = c.len-len.ensures ∙ ap length c.as_unix_str.ensures.bytes in
    let some : 0 < length b = omega (arith, long, c.if-len-eq0.false) in
    let tail : IsTail c.from_bytes.result.bytes c.args.path.bytes = returns-clause-tail c in
    let whole : c.as_bytes.result.now ≡ s =
    c.as_bytes.ensures.bytes ∙ c.as_unix_str-2.ensures.bytes in
    let from : take (length c.as_bytes.result.now - n) (drop n c.as_bytes.result.now)
    ≡ drop (length b) s =
    take_rest c.as_bytes.result.now n ∙ ap₂ drop long whole in
    rest-after s b c.from_bytes.result.bytes.now c.requires.base.0
    (length s - length c.from_bytes.result.bytes.now) c.requires.trimmed c.requires.base.1 some
    (subst₂ AfterFiller from (sym (ap (λ part. part.now) c.from_bytes.ensures.place))
    (after_filler-is _ _ c.after_filler.ensures.tail c.after_filler.ensures.filler
    c.after_filler.ensures.not_filler)) (omega arith) tail.bytes
