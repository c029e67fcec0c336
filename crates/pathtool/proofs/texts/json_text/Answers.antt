use Rattle.std.proofs.Common.{◌≡◌, Result, Ok, Err, IfOk, MatchResult, is_ok, ap, ◌∙◌, sym, subst}
use Rattle.serde_json.specs.Written.{compact_text, has_float}
use Rattle.pathtool.proofs.texts.json_text.Goals as goal

-- if `mapped` is r with at most its error replaced, and P holds of the value of r, if it has one,
-- then Q, which follows from P, holds of the value of `mapped`
ok_of-map_err : {T D E : Type 0} (r : Result T D) (mapped : Result T E) (P Q : T → Type 0)
    (R : D → Type 0) → is_ok mapped ≡ is_ok r → MatchResult r (λ x. mapped ≡ Ok x) R
    → ((x : T) → P x → Q x) → IfOk r P → IfOk mapped Q
ok_of-map_err (Ok x) mapped P Q R same is weaker holds =
    subst (λ m. IfOk m Q) (sym is) (weaker x holds)
ok_of-map_err (Err d) (Ok x) P Q R same is weaker holds = absurd (cc)
ok_of-map_err (Err d) (Err e) P Q R same is weaker holds = tt

pub returns-clause-value : goal.returns-clause-value
returns-clause-value c =
    let is_string = c.in_ok-value.ensures.value in
    ok_of-map_err c.to_string.result c.map_err.result _ _ _ c.map_err.ensures.variant
    c.map_err.ensures.cases
    (λ text says. says (ap has_float is_string) ∙ ap compact_text is_string)
    c.to_string.ensures.text
