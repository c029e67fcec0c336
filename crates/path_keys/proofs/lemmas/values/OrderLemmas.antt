-- Keys are in the order of their components. The key of components is a prefix of another key if
-- and only if the components are a prefix of those of the other key.
use Rattle.std.proofs.Common.{◌≡◌, ℕ, List, [], ◌∷◌, ◌++◌, length, Less, Greater}
use Rattle.std.proofs.Common.{refl, sym, ap, ap₂, ◌∙◌, arith, append_assoc}
use Rattle.std.proofs.Common.{length-append}
use Rattle.std.proofs.lemmas.Cmp.{tied_itself, nat_list_cmp_total}
use Rattle.std.specs.List.{AllByRecursion}
use Rattle.std.specs.Ordering.{ordering_then}
use Rattle.unix_path.specs.Parts.{Value}
use Rattle.unix_path.specs.Order.{value_cmp, values_cmp}
use Rattle.unix_path.specs.OrderLaws.{values_cmp-equal}
use Rattle.unix_path.specs.Prefixes.{IsPrefixOf}
use Rattle.path_keys.specs.Keys.{code, key_of}
use Rattle.path_keys.specs.Ranges.{bytes_cmp}
use Rattle.path_keys.proofs.lemmas.values.CodeLemmas.{IsCoded, bytes_cmp-codes, codes_split}
use Rattle.path_keys.proofs.lemmas.values.CodeLemmas.{code-some}
use Rattle.path_keys.proofs.lemmas.values.CodeLemmas.{code-length}
use Rattle.path_keys.proofs.lemmas.values.KeyLemmas.{key_of-nil, key_of-cons, key_of-append}

-- the empty byte string is less than bytes that begin with a code
bytes_cmp-none : (w : Value) (y : List ℕ) → bytes_cmp [] (code w ++ y) ≡ Less
bytes_cmp-none w y = let some = code-some w in rw some.2 refl

-- bytes that begin with a code are greater than the empty byte string
bytes_cmp-some : (v : Value) (x : List ℕ) → bytes_cmp (code v ++ x) [] ≡ Greater
bytes_cmp-some v x = let some = code-some v in rw some.2 refl

-- if all components of vs and ws are `IsCoded`, their keys are in the order of vs and ws
pub bytes_cmp-keys : (vs ws : List Value) → AllByRecursion IsCoded vs → AllByRecursion IsCoded ws
    → bytes_cmp (key_of vs) (key_of ws) ≡ values_cmp vs ws
unfolding key_of
bytes_cmp-keys [] [] h k = refl
bytes_cmp-keys [] (w ∷ ws) h k = bytes_cmp-none w (key_of ws)
bytes_cmp-keys (v ∷ vs) [] h k = bytes_cmp-some v (key_of vs)
bytes_cmp-keys (v ∷ vs) (w ∷ ws) h k =
    bytes_cmp-codes v w (key_of vs) (key_of ws) h.0 k.0
    ∙ ap (ordering_then (value_cmp v w)) (bytes_cmp-keys vs ws h.1 k.1)

-- if all components of vs and ws are `IsCoded`, and their keys are the same, then vs and ws are the
-- same
pub key_of-same : (vs ws : List Value) → AllByRecursion IsCoded vs → AllByRecursion IsCoded ws
    → key_of vs ≡ key_of ws → vs ≡ ws
key_of-same vs ws h k e =
    values_cmp-equal vs ws (sym (bytes_cmp-keys vs ws h k) ∙ ap (bytes_cmp (key_of vs)) (sym e)
    ∙ tied_itself nat_list_cmp_total (key_of vs))

-- if all components of vs and ws are `IsCoded`, and the key of vs is a prefix of the key of ws,
-- then vs is a prefix of ws
pub key_of-begins : (vs ws : List Value) → AllByRecursion IsCoded vs → AllByRecursion IsCoded ws
    → (x : List ℕ) → key_of vs ++ x ≡ key_of ws → IsPrefixOf vs ws
key_of-begins [] ws h k x e = (ws, refl)
key_of-begins (v ∷ vs) [] h k x e =
    let whole = ap (λ ys. ys ++ x) (sym (key_of-cons v vs)) ∙ e ∙ key_of-nil in
    absurd (omega (
      arith,
      code-length v,
      ap length whole,
      length-append (code v ++ key_of vs) x,
      length-append (code v) (key_of vs),
    ))
key_of-begins (v ∷ vs) (w ∷ ws) h k x e =
    let first = codes_split v w (key_of vs ++ x) (key_of ws) h.0 k.0
    (sym (append_assoc (code v) (key_of vs) x) ∙ ap (λ ys. ys ++ x) (sym (key_of-cons v vs)) ∙ e
    ∙ key_of-cons w ws) in
    let others = key_of-begins vs ws h.1 k.1 x first.1 in
    (others.0, ap₂ (λ u us. u ∷ us) first.0 others.1)

-- if vs is a prefix of ws, the key of vs is a prefix of the key of ws
pub begins-key_of : (vs ws : List Value) → IsPrefixOf vs ws → IsPrefixOf (key_of vs) (key_of ws)
begins-key_of vs ws h = (key_of h.0, sym (key_of-append vs h.0) ∙ ap key_of h.1)
