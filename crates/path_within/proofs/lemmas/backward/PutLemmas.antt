-- Components that are written from the last to the first.
use Rattle.std.proofs.Common.{◌≡◌, ℕ, ◌+◌, ◌<◌, List, [], ◌∷◌, ◌++◌, length, drop, refl, sym, ap}
use Rattle.std.proofs.Common.{◌∙◌, arith, append_assoc, append-nil}
use Rattle.std.proofs.Math.Seq.{drop-length}
use Rattle.std.proofs.lemmas.Grind.{flat_map-append}
use Rattle.std.proofs.lemmas.List.Sums.{sum_by-append}
use Rattle.unix_path.specs.Parts.{Value, Normal, slash, value_bytes}
use Rattle.path_runs.specs.Spelling.{slash_each, slashed_bytes}
use Rattle.path_runs.proofs.lemmas.gaps.GapSpellingLemmas.{slashed_bytes-cons}
use Rattle.path_within.specs.WrittenBytes.{slashed_len}
use Rattle.path_within.proofs.lemmas.below.BoundLemmas.{AreVerbatim}
use Rattle.path_within.proofs.lemmas.below.BoundLemmas.{length-slashed_bytes, slashed_len-cons}

pub slashed_len-append : (vs ws : List Value)
    → slashed_len (vs ++ ws) ≡ slashed_len vs + slashed_len ws
slashed_len-append vs ws = sum_by-append (λ v. 1 + length (value_bytes v)) vs ws

-- adding `name` after ws adds the length of `name`, and 1 for its slash, to the length of ws with a
-- slash for each component
pub slashed_len-push : (ws : List Value) (name : List ℕ)
    → slashed_len (ws ++ Normal name ∷ []) ≡ slashed_len ws + (1 + length name)
slashed_len-push ws name = omega (arith, slashed_len-append ws (Normal name ∷ []))

slash_each-append : (vs ws : List Value) → slash_each (vs ++ ws) ≡ slash_each vs ++ slash_each ws
slash_each-append vs ws = flat_map-append (λ v. slash ∷ value_bytes v) vs ws

-- if the length of components, with a slash for each, is 0, there are no components
pub no_names : (vs : List Value) → slashed_len vs ≡ 0 → vs ≡ []
no_names [] e = refl
no_names (v ∷ vs) e = absurd (omega (arith, e, slashed_len-cons v vs))

-- vs, each after a slash, are the bytes of `new` from index `start` to just before `end`, and the
-- bytes from `end` on are those of `out`. Both indices count an imaginary slash before `out` and
-- `new`, at index 0
pub record Puts (vs : List Value) (end : ℕ) (out : List ℕ) (start : ℕ) (new : List ℕ) : Type 0 where
  pub size : start + slashed_len vs ≡ end
  pub bytes : drop start (slash ∷ new) ≡ slash_each vs ++ drop end (slash ∷ out)

-- writing no components changes nothing
pub puts_none : {vs : List Value} {end : ℕ} {out : List ℕ} → vs ≡ [] → Puts vs end out end out
puts_none {vs} {end} {out} e = grind arith

-- if ws are written before `end`, and then vs before ws, this writes vs and then ws before `end`
pub puts_then : {vs ws : List Value} {end mid start : ℕ} {out made new : List ℕ}
    → Puts ws end out mid made → Puts vs mid made start new → Puts (vs ++ ws) end out start new
puts_then {vs} {ws} g h = grind (arith, slashed_len-append, slash_each-append, append_assoc)

-- if the bytes of `new` from `start` on are a slash, `bytes`, which are the names vs verbatim, and
-- then the bytes of `out` from `end` on, `Puts` is true of vs
pub puts_verbatim : {end start : ℕ} {out new bytes : List ℕ} {vs : List Value}
    → AreVerbatim bytes vs → start + (1 + length bytes) ≡ end
    → drop start (slash ∷ new) ≡ slash ∷ bytes ++ drop end (slash ∷ out)
    → Puts vs end out start new
puts_verbatim {end} {start} {out} {new} {bytes} {vs} h e f = by vs h.some h.is
  where
    by : (vs : List Value) → 0 < length vs → bytes ≡ slashed_bytes vs → Puts vs end out start new
    by [] some is = absurd (omega (arith, some))
    by (v ∷ vs) some is =
        let each : slash ∷ bytes ≡ slash_each (v ∷ vs) =
        ap (λ s. slash ∷ s) (is ∙ slashed_bytes-cons v vs) in
        record {
          size = grind (arith, length-slashed_bytes (v ∷ vs), slashed_len-cons v vs);
          bytes = f ∙ ap (λ s. s ++ drop end (slash ∷ out)) each;
        }

-- if the bytes of `new` from `start` on are a slash, the bytes of the component v, and then the
-- bytes of `out` from `end` on, `Puts` is true of v
pub puts_value : {end start : ℕ} {out new : List ℕ} (v : Value)
    → start + (1 + length (value_bytes v)) ≡ end
    → drop start (slash ∷ new) ≡ slash ∷ value_bytes v ++ drop end (slash ∷ out)
    → Puts (v ∷ []) end out start new
puts_value v e f = puts_verbatim (record { some = omega arith; is = refl }) e f

-- if components are written to all of a buffer, its bytes are these components with slashes between
-- them
pub puts_all : {vs : List Value} {out new : List ℕ} → Puts vs (1 + length out) out 0 new
    → new ≡ slashed_bytes vs
puts_all {vs} {out} {new} h =
    by vs h.size (h.bytes ∙ ap (λ s. slash_each vs ++ s) none ∙ append-nil (slash_each vs))
  where
    none : drop (1 + length out) (slash ∷ out) ≡ []
    none = ap (λ n. drop n (slash ∷ out)) {x = 1 + length out} {y = length (slash ∷ out)}
        (omega arith)
        ∙ drop-length (slash ∷ out)

    by : (vs : List Value) → 0 + slashed_len vs ≡ 1 + length out
        → slash ∷ new ≡ slash_each vs → new ≡ slashed_bytes vs
    by [] size e = absurd (omega (arith, size))
    by (v ∷ vs) size e =
        let whole = e ∙ ap (λ s. slash ∷ s) (sym (slashed_bytes-cons v vs)) in cc
