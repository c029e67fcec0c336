-- Testing at once whether 16 bytes are slashes, or dots next to slashes.
use Rattle.std.proofs.Common.{◌≡◌, ℕ, ◌<◌, Bool, true, false, not, eqb, ◌&&◌, ◌||◌, List, length}
use Rattle.std.proofs.Common.{get_or, refl, sym}
use Rattle.unix_bytes.proofs.lemmas.vectors.TestLaneLemmas.{tested, both, either, Tells}
use Rattle.unix_bytes.proofs.lemmas.vectors.TestLaneLemmas.{Tells-tested, Tells-both, Tells-either}

-- byte x is neither a slash, nor a dot whose neighbour y is a slash
abbrev pub stops : ℕ → ℕ → Bool
stops x y = not (eqb x 47) && (not (eqb x 46) || not (eqb y 47))

-- if `stops` is false for byte x and its neighbour y, then x is a slash, or x is a dot and y is a
-- slash
pub goes_on : (x y : ℕ) → stops x y ≡ false → (eqb x 47 || (eqb x 46 && eqb y 47)) ≡ true
goes_on x y = by (eqb x 47) (eqb x 46) (eqb y 47)
  where
    by : (a b c : Bool) → (not a && (not b || not c)) ≡ false → (a || (b && c)) ≡ true
    by true b c h = refl
    by false true true h = refl
    by false true false h = sym h
    by false false c h = sym h

-- the lanes that show which of the 16 bytes of xs differ from y
abbrev others : List ℕ → ℕ → List ℕ
others xs y = tested (λ a b. not (eqb a b)) 16 xs y

-- the lanes that show which of the 16 bytes of `here` are neither slashes, nor dots next to
-- slashes; byte i of `beside` is the neighbour of byte i of `here`
abbrev pub stop_lanes : List ℕ → List ℕ → List ℕ
stop_lanes here beside = both (others here 47) (either (others here 46) (others beside 47))

-- if `here` and `beside` have 16 bytes each, lane i of `stop_lanes` shows whether `stops` is true
-- for byte i of `here` and its neighbour, byte i of `beside`
pub Tells-stop : (here beside : List ℕ) (i : ℕ) → length here ≡ 16 → length beside ≡ 16 → i < 16
    → Tells 16 (stop_lanes here beside) i (stops (get_or here i 0) (get_or beside i 0))
Tells-stop here beside i m n few =
    let other = Tells-tested (λ a b. not (eqb a b)) 16 in
    Tells-both few (other here 47 i m few)
    (Tells-either few (other here 46 i m few) (other beside 47 i n few))
