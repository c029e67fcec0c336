use Rattle.std.proofs.Common.{inl, inr, ⊎_elim}
use Rattle.path_within.specs.Below.{has_nul}
use Rattle.upath_commands.specs.Escaping.{escapes}
use Rattle.upath_commands.proofs.lemmas.AnswerLemmas.{escapes-Decides, or_cases, or_left, or_right}
use Rattle.upath_commands.proofs.answer_laws.escapes_tested.Goals as goal

pub returns : goal.returns
returns c = λ p. (
  λ e. ⊎_elim (λ h. inl ((escapes-Decides p).0 h)) (λ h. inr h)
      (or_cases (escapes p) (has_nul p) e),
  λ h. ⊎_elim (λ h. or_left (escapes p) (has_nul p) ((escapes-Decides p).1 h))
      (λ h. or_right (escapes p) (has_nul p) h) h,
)
