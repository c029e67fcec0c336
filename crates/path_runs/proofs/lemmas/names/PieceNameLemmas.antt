-- Strings without a slash that are names.
use Rattle.std.proofs.Common.{◌≡◌, ℕ, ◌<◌, false, List, length, ap, arith, eq-eqb, rules}
use Rattle.std.proofs.lemmas.Bool.{both_ways}
use Rattle.std.proofs.lemmas.List.Sums.{fails_before_first}
use Rattle.std.specs.List.{position_or_len}
use Rattle.std.specs.Str.{bytes_eq}
use Rattle.std.proofs.lemmas.Slice.Eq.{bytes_eq-Decides}
use Rattle.unix_path.specs.Parts.{is_slash}
use Rattle.unix_bytes.proofs.lemmas.lists.ListLemmas.{by_test}
use Rattle.path_runs.specs.EditLaws.{HasNoByte}
use Rattle.path_runs.proofs.lemmas.names.DotLemmas.{none_found}
use Rattle.unix_path.proofs.lemmas.names.NameCutLemmas.{IsName}

-- if searching s for a slash yields the length of s, no byte of s is a slash
pub no_slash_byte : (s : List ℕ) → position_or_len is_slash s ≡ length s → HasNoByte 47 s
no_slash_byte s h = grind (arith, both_ways, fails_before_first, eq-eqb)

-- a string longer than `..` in which no byte is a slash is a name
pub long-name : (s : List ℕ) → 2 < length s → HasNoByte 47 s → IsName s
long-name s l h = search (rules, none_found, differs)
  where
    differs : (t : List ℕ) → length t < length s → bytes_eq s t ≡ false
    differs t m = by_test (bytes_eq s t)
        (λ e. absurd (omega (arith, ap length ((bytes_eq-Decides s t).0 e)))) (λ e. e)
