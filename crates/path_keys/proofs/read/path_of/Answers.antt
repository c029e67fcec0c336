use Rattle.std.proofs.Common.{refl, ap, ◌∙◌}
use Rattle.std.proofs.lemmas.Bool.{false≢true}
use Rattle.unix_path.specs.Parts.{values}
use Rattle.path_runs.proofs.lemmas.spelling.ReadBackLemmas.{values-spelling_of}
use Rattle.path_keys.specs.Keys.{key_of}
use Rattle.path_keys.proofs.lemmas.reading.KeyReadLemmas.{empty_key, empty_long, has_path}
use Rattle.path_keys.proofs.read.path_of.Goals as goal

pub read_text-requires : goal.read_text-requires
read_text-requires c =
    has_path (c.in-Some.ensures.is_key.0 refl) c.in-Some.ensures.length refl

pub returns-clause-values : goal.returns-clause-values
returns-clause-values c =
    let (s, e) = c.in-Some.ensures.is_key.0 refl in
    ap (λ p. key_of (values p))
    (c.from-2.ensures.0 ∙ c.from.ensures.0 ∙ c.in_ok-text.ensures.read s e)
    ∙ ap key_of (values-spelling_of s) ∙ e

pub returns-clause-read_back : goal.returns-clause-read_back
returns-clause-read_back c = λ s e.
    c.from-2.ensures.0 ∙ c.from.ensures.0 ∙ c.in_ok-text.ensures.read s e

pub returns-in_default-clause-succeeds : goal.returns-in_default-clause-succeeds
returns-in_default-clause-succeeds c = λ e.
    absurd (false≢true (c.in_default.ensures.is_key.1 (empty_key c.args.key.now e)))

pub returns-in_err-text-clause-succeeds : goal.returns-in_err-text-clause-succeeds
returns-in_err-text-clause-succeeds c = λ e. absurd (let k = c.in_err-text.ensures.succeeds
    (empty_long c.args.key.now c.in-Some.len c.in-Some.ensures.length e) in cc)
