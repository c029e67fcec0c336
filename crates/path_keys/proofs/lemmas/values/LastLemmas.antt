-- The last byte of a key is less than 4.
use Rattle.std.proofs.Common.{◌≡◌, ◌<◌, ℕ, ◌-◌, List, [], ◌∷◌, ◌++◌, length, map, get_or}
use Rattle.std.proofs.Common.{sym, ap, ◌∙◌, subst, refl, ⊎_elim, arith}
use Rattle.std.proofs.Common.{append-nil, length-append}
use Rattle.std.proofs.lemmas.Bool.{cases_lt}
use Rattle.std.proofs.lemmas.List.{get_or-append_right, nil_from_length}
use Rattle.std.proofs.Math.Logic.{∥∥₁_elim}
use Rattle.std.proofs.Props.{props}
use Rattle.unix_path.specs.Parts.{Value, RootDir, CurDir, ParentDir, Normal, values}
use Rattle.path_keys.specs.Keys.{code, key_of, raised, IsKey}
use Rattle.path_keys.proofs.lemmas.values.KeyLemmas.{key_of-nil, key_of-cons}

-- if xs is not empty, its last byte is less than 4
record EndsLow (xs : List ℕ) : Type 0 where
  low : 0 < length xs → get_or xs (length xs - 1) 0 < 4

-- if ys is not empty and its last byte is less than 4, the last byte of xs followed by ys is less
-- than 4
EndsLow-append : (xs ys : List ℕ) → 0 < length ys → EndsLow ys → EndsLow (xs ++ ys)
EndsLow-append xs ys l h = record {
  low = λ _.
      let n : length (xs ++ ys) - 1 - length xs ≡ length ys - 1 =
      omega (arith, length-append xs ys) in
      subst (λ b. b < 4)
      (sym (get_or-append_right xs ys (length xs) (length (xs ++ ys) - 1) 0 refl
      (omega (arith, length-append xs ys)) ∙ ap (λ k. get_or ys k 0) n))
      (h.low l);
}

-- the last byte of a code is less than 4
EndsLow-code : (v : Value) → EndsLow (code v)
EndsLow-code RootDir = record { low = λ _. omega arith }
EndsLow-code CurDir = record { low = λ _. omega arith }
EndsLow-code ParentDir = record { low = λ _. omega arith }
EndsLow-code (Normal name) =
    EndsLow-append (map raised name) (0 ∷ []) (omega arith) (record { low = λ _. omega arith })

-- if vs is not empty, the last byte of its key is less than 4
EndsLow-key_of : (vs : List Value) → EndsLow (key_of vs)
EndsLow-key_of [] = record { low = λ l. absurd (omega (arith, ap length key_of-nil)) }
EndsLow-key_of (v ∷ vs) = subst EndsLow (sym (key_of-cons v vs)) (⊎_elim
    (λ some. EndsLow-append (code v) (key_of vs) some (EndsLow-key_of vs))
    (λ none. subst EndsLow
    (sym (ap (λ ys. code v ++ ys) (nil_from_length (key_of vs) (omega arith))
    ∙ append-nil (code v)))
    (EndsLow-code v))
    (cases_lt 0 (length (key_of vs))))

-- if `key` is a key and not empty, its last byte is less than 4
pub last_low : (key : List ℕ) → ∥ IsKey key ∥₁ → 0 < length key
    → get_or key (length key - 1) 0 < 4
last_low key is l = ∥∥₁_elim is (hlevel props)
    (λ h. subst (λ k. get_or k (length k - 1) 0 < 4) h.1
    ((EndsLow-key_of (values h.0)).low (omega (arith, ap length h.1))))
