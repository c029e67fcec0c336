use Rattle.std.proofs.Common.{◌≡◌, ◌+◌, ℕ, cond, map, nat_le, sym, ap, ap₂, ◌∙◌}
use Rattle.std.specs.Prelude.{replicate}
use Rattle.std.specs.Simd.Lanes.{mask_l, zip2}
use Rattle.std.proofs.lemmas.Bool.{eqb-true}
use Rattle.unix_bytes.proofs.lemmas.vectors.ContinueLemmas.{all_continue, unfinished_lanes}
use Rattle.unix_bytes.proofs.windows.all_continue.Goals as goal

pub returns-then-lanes_ge-begin : goal.returns-then-lanes_ge-begin
returns-then-lanes_ge-begin c = λ same.
    let mark : ℕ → ℕ → ℕ → ℕ = λ k b o. cond (nat_le k b) 255 o in
    let s = c.args.first in
    let t = c.args.second in
    let u = c.args.third in
    let v = c.args.bytes in
    let third = c.select_ge-short.ensures
    ∙ ap (λ n. zip2 (mark 0xC0) u (replicate n 0)) (sym c.fits-third.0) in
    let second = c.select_ge.ensures ∙ ap (zip2 (mark 0xE0) t) third in
    let lanes : c.select_ge-unfinished.result ≡ unfinished_lanes s t u =
    c.select_ge-unfinished.ensures ∙ ap (zip2 (mark 0xF0) s) second in
    let begin = c.lanes_ge-begin.ensures.bits in
    let sum = ap₂ (λ n m. n + m)
    (sym (c.lanes_ge.ensures.bits ∙ ap (λ xs. mask_l (map (nat_le 0x80) xs)) lanes)) (sym begin)
    ∙ c.if-lanes_ge-begin.true ∙ c.lanes_ge-2.ensures.bits in
    let bits = sym begin ∙ eqb-true _ _ same ∙ c.lanes_ge-then-lanes_ge-begin.ensures.bits in
    let long = sym c.fits-bytes.0 in
    all_continue s t u v sum bits (c.fits-first.0 ∙ long) (c.fits-second.0 ∙ long)
    (c.fits-third.0 ∙ long)
