use Rattle.std.proofs.Common.{◌≡◌, ℕ, ◌+◌, ◌-◌, ◌≤◌, ◌<◌, List, drop, take, length, ap, arith}
use Rattle.std.proofs.Common.{eq-eqb, length-drop, ne_eqb}
use Rattle.std.proofs.lemmas.List.{take_rest}
use Rattle.unix_path.proofs.lemmas.names.NamedLemmas.{ends_in_name}
use Rattle.unix_path.proofs.lemmas.names.StemCutLemmas.{dot_at, ordinary_from, stem_end-cut}
use Rattle.unix_path.proofs.lemmas.names.StemCutLemmas.{stem_end-known}
use Rattle.unix_path.proofs.lemmas.names.StemCutLemmas.{stem_end-lead, stem_end-slash}
use Rattle.unix_path.proofs.stems.stem_end.Goals.{
  then-index-eq0-via-then-index-eq0,
  then-index-eq0-via-else-index-eq0+then-bytes-index-eq47,
  then-index-eq0-via-else-index-eq0+else-bytes-index-eq47+then-bytes-index-eq47-2,
}
use Rattle.unix_path.proofs.stems.stem_end.Goals as goal

pub returns-then-past-eq0-clause-value : goal.returns-then-past-eq0-clause-value
returns-then-past-eq0-clause-value c =
    let s = c.args.bytes.now in
    let past = c.after_last_of_two-past in
    stem_end-known s c.args.known (ends_in_name s c.requires.name) c.requires.in_range
    c.requires.stem
    (ordinary_from s _ c.args.known past.result c.args.known c.requires.in_range
    (take_rest s c.args.known) past.ensures.none_after (omega (arith, c.if-past-eq0.true)))

-- if s has at least `known` bytes, at least `past` bytes follow these, and `past` is not 0, then
-- the byte before index `known` + `past` is in s
fits : (s : List ℕ) (known past : ℕ) → known ≤ length s
    → past ≤ length (take (length s - known) (drop known s)) → (past ≡ 0 → ⊥)
    → known + past - 1 < length s
fits s known past l h some =
    omega (arith, ap length (take_rest s known), length-drop known s)

pub returns-then-index-eq0-clause-value : goal.returns-then-index-eq0-clause-value
returns-then-index-eq0-clause-value c =
    let s = c.args.bytes.now in
    let known = c.args.known in
    let past = c.after_last_of_two-past in
    let index = known + past.result - 1 in
    let some = c.if-past-eq0.false in
    let h = ends_in_name s c.requires.name in
    let l = fits s known past.result c.requires.in_range past.ensures.in_range some in
    let ordinary = ordinary_from s _ known past.result (index + 1) c.requires.in_range
    (take_rest s known) past.ensures.none_after (omega arith) in
    elim c.then-index-eq0.branch [
      | then-index-eq0-via-then-index-eq0 w ↦
          stem_end-lead s index h l ordinary (λ some. absurd (omega (arith, w.if-index-eq0.true)))
      | then-index-eq0-via-else-index-eq0+then-bytes-index-eq47 w ↦
          stem_end-slash s index h l ordinary w.if-bytes-index-eq47.true
      | then-index-eq0-via-else-index-eq0+else-bytes-index-eq47+then-bytes-index-eq47-2 w ↦
          stem_end-lead s index h l ordinary (λ _. eq-eqb _ 47 w.if-bytes-index-eq47-2.true)
    ]

pub returns-clause-value : goal.returns-clause-value
returns-clause-value c =
    let s = c.args.bytes.now in
    let known = c.args.known in
    let past = c.after_last_of_two-past in
    let index = known + past.result - 1 in
    let some = c.if-past-eq0.false in
    let h = ends_in_name s c.requires.name in
    let l = fits s known past.result c.requires.in_range past.ensures.in_range some in
    let ordinary = ordinary_from s _ known past.result (index + 1) c.requires.in_range
    (take_rest s known) past.ensures.none_after (omega arith) in
    stem_end-cut s index h l ordinary
    (dot_at s _ known past.result index (take_rest s known) (omega arith) (omega arith)
    (past.ensures.after (omega arith)) c.if-bytes-index-eq47.false)
    (omega (arith, c.if-index-eq0.false)) (ne_eqb _ 47 c.if-bytes-index-eq47-2.false)
