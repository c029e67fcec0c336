use Rattle.std.proofs.Common.{rules, ◌≡◌, Result, Err, inr}
use Rattle.std.specs.Result.{IsErrOf}
use Rattle.path_within.specs.declared.request.Request.{Request}
use Rattle.path_within.specs.declared.request.RequestError.{RequestError}
use Rattle.path_within.specs.declared.request.RequestError.TheVariants.{Rooted, Escapes, Nul}
use Rattle.callers.proofs.mounts.mounted_file.Goals as goal

only_nul : (e : RequestError) {r : Result Request RequestError} → r ≡ Err e
    → (IsErrOf r Rooted → ⊥) → (IsErrOf r Escapes → ⊥) → IsErrOf r Nul
only_nul Rooted is not_rooted not_escapes = absurd (not_rooted is)
only_nul Escapes is not_rooted not_escapes = absurd (not_escapes is)
only_nul Nul is not_rooted not_escapes = is

pub returns-in_default-in_root-clause-none : goal.returns-in_default-in_root-clause-none
returns-in_default-in_root-clause-none c =
    let is_nul = only_nul c.in_default-in_root.field-0 c.in_default-in_root.is
    c.in_root.ensures.rooted c.in_root.ensures.escapes in
    λ none. inr (
      c.in-Some.root.now,
      (
        c.in-Some.rest.bytes.now,
        search rules,
        c.in_root.ensures.nul.0 is_nul,
      ),
    )

pub returns-clause-file : goal.returns-clause-file
returns-clause-file c = record {
  root = c.in-Some.root.now;
  rest = c.in-Some.rest.bytes.now;
  nearest = search rules;
  file_is = search rules;
  below = search rules;
}
