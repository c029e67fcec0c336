-- Tests, and what calls that make them return.
use Rattle.std.proofs.Common.{◌≡◌, ℕ, List, Option, Some, option_map, Result, Ok, Err, IfOk, IsOk}
use Rattle.std.proofs.Common.{◌↔◌, ap, sym, ◌∙◌, refl, rules, true≢false}
use Rattle.std.specs.List.{starts_with}
use Rattle.std.specs.Result.{result_ok}
use Rattle.unix_path.specs.Order.{same_value}
use Rattle.unix_path.specs.Parts.{values}
use Rattle.unix_path.specs.Prefixes.{IsPrefixOf, stripped_of}
use Rattle.unix_path.specs.declared.path.Path.{Path}
use Rattle.upath_commands.specs.Answers.{rest_after}
use Rattle.upath_commands.proofs.lemmas.AnswerLemmas.{starts_with-Decides}
use Rattle.upath_commands.proofs.lemmas.RecordLemmas.{by_test}

rest_after-is : {E : Type 0} (r : Result Path E) (base p : List ℕ)
    → (IsOk r ↔ IsPrefixOf (values base) (values p))
    → IfOk r (λ rest. rest.bytes.now ≡ stripped_of p base)
    → option_map (λ rest. rest.bytes.now) (result_ok r) ≡ rest_after base p
rest_after-is (Ok rest) base p h e =
    rw ((starts_with-Decides (values p) (values base)).1 (h.0 (search rules)))
    (ap (λ bytes. Some bytes) e)
rest_after-is (Err error) base p h e =
    by_test (starts_with same_value (values p) (values base))
    (λ t. absurd (true≢false
    (sym (h.1 ((starts_with-Decides (values p) (values base)).0 t)))))
    (λ t. rw t refl)

-- if r is `Ok` if and only if p starts with base, and holds the rest, then `found` is
-- `rest_after base p`
pub rest_after_found : {E : Type 0} (found : Option Path) (r : Result Path E) (base p : List ℕ)
    → found ≡ result_ok r → (IsOk r ↔ IsPrefixOf (values base) (values p))
    → IfOk r (λ rest. rest.bytes.now ≡ stripped_of p base)
    → option_map (λ rest. rest.bytes.now) found ≡ rest_after base p
rest_after_found found r base p f h e =
    ap (λ found. option_map (λ rest. rest.bytes.now) found) f ∙ rest_after-is r base p h e
