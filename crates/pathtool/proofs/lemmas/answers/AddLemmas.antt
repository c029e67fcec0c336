-- The bytes that a call appended to the answer.
use Rattle.std.proofs.Common.{◌≡◌, ℕ, List, ◌++◌, Result, Ok, Err, OnOk, ap, subst, append_assoc}
use Rattle.std.proofs.Common.{◌∙◌}

-- if `said` equals `bytes`, a step that appended `said` to `old` appended `bytes` to `old`
pub adds : {T E : Type 0} (r : Result T E) (new old : List ℕ) {said bytes : List ℕ} → said ≡ bytes
    → OnOk r (new ≡ old ++ said) → OnOk r (new ≡ old ++ bytes)
adds r new old e h = subst (λ bs. OnOk r (new ≡ old ++ bs)) e h

-- if `mid` is `old` followed by `front`, and a step appended `said` to `mid`, then `bytes`, which
-- are `front` followed by `said`, were appended to `old`
pub adds_after : {T E : Type 0} (r : Result T E) (new mid old front said : List ℕ)
    {bytes : List ℕ} → mid ≡ old ++ front → front ++ said ≡ bytes → OnOk r (new ≡ mid ++ said)
    → OnOk r (new ≡ old ++ bytes)
adds_after (Ok x) new mid old front said m e h =
    h ∙ ap (λ l. l ++ said) m ∙ append_assoc old front said ∙ ap (λ l. old ++ l) e
adds_after (Err x) new mid old front said m e h = tt
