use Rattle.std.proofs.Common.{◌≤◌, ◌*◌, length, refl, arith}
use Rattle.path_keys.specs.Keys.{IsKey}
use Rattle.unix_path_c.proofs.lemmas.buffers.KeyPathLemmas.{path_of_key_bound}
use Rattle.unix_path_c.proofs.keys.unix_path_from_key.Goals.{After-len_or_too_long}
use Rattle.unix_path_c.proofs.keys.unix_path_from_key.Goals as goal

-- the bytes are the key of a path
is_read : (c : After-len_or_too_long) → IsKey c.args.key.now
is_read c = c.in-Some.ensures.is_key.0 refl

-- the path is at most 3/2 times as long as the key
has_len_bound : (c : After-len_or_too_long) → 2 * c.in-Some.len ≤ 3 * length c.args.key.now
has_len_bound c = path_of_key_bound c.args.key.now c.in-Some.len (is_read c)
    c.in-Some.ensures.length

pub returns-in-Some-clause-not_a_key : goal.returns-in-Some-clause-not_a_key
returns-in-Some-clause-not_a_key c = (
  λ e. absurd (omega (arith, c.len_or_too_long.ensures, e)),
  λ none. absurd (none (is_read c)),
)

pub returns-in-Some-clause-len_bound : goal.returns-in-Some-clause-len_bound
returns-in-Some-clause-len_bound c = λ _. omega (arith, c.len_or_too_long.ensures, has_len_bound c)
