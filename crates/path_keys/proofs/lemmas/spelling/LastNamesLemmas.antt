-- The key of names is as long as their text, which is the key with each byte decoded. Each `..`
-- makes the text longer than the key.
use Rattle.std.proofs.Common.{◌≡◌, ◌<◌, ◌≤◌, ◌-◌, ℕ, false, List, [], ◌∷◌}
use Rattle.std.proofs.Common.{◌++◌, length, take, map, refl, sym, ap, ap₂, ◌∙◌}
use Rattle.std.proofs.Common.{subst, arith, append_assoc, append-nil, length-append}
use Rattle.std.proofs.lemmas.Bool.{true≢false}
use Rattle.std.proofs.lemmas.List.{drop_all, length-map, map-append, take_at}
use Rattle.std.specs.Borrow.{Bor}
use Rattle.std.specs.List.{AllByRecursion}
use Rattle.unix_path.specs.Parts.{slash, Value, RootDir, CurDir, ParentDir, Normal}
use Rattle.path_keys.specs.Keys.{code, key_of, raised}
use Rattle.path_keys.proofs.lemmas.values.Fitting.{AllFit, Fits, IsName}
use Rattle.path_keys.proofs.lemmas.reading.TextLemmas.{slashed, text_of}
use Rattle.path_keys.specs.NameBytes.{decoded}
use Rattle.path_keys.specs.Runs.{TakesRun}
use Rattle.path_runs.specs.Spelling.{slash_each}
use Rattle.unix_path.specs.CommonDir.{inner_values}
use Rattle.path_keys.proofs.lemmas.reading.FitLemmas.{inner-fit}
use Rattle.path_keys.proofs.lemmas.spelling.RunTextLemmas.{run_told, ReadsRun}
use Rattle.path_keys.specs.declared.runs.Run.TheVariants.{Names}
use Rattle.path_keys.proofs.lemmas.values.KeyLemmas.{key_of-nil, key_of-cons, key_of-one}
use Rattle.path_keys.proofs.lemmas.spelling.KeyRunLemmas.{map-decoded-raised, names_fit}
use Rattle.path_keys.proofs.lemmas.reading.TextLemmas.{text_of-nil, text_of-cons, text_of-each}

-- if v is not the root, its code is at most as long as its text
code_shorter : (v : Value) → (v ≡ RootDir → ⊥) → length (code v) ≤ length (slashed v)
code_shorter RootDir h = absurd (h refl)
code_shorter CurDir h = omega arith
code_shorter ParentDir h = omega arith
code_shorter (Normal name) h = omega (
  arith,
  length-append name (slash ∷ []),
  length-append (map raised name) (0 ∷ []),
  length-map name raised,
)

-- if ws may follow other components, their key is at most as long as their text
key_shorter : (ws : List Value) → AllFit false ws → length (key_of ws) ≤ length (text_of ws)
key_shorter [] h = omega (arith, ap length key_of-nil)
key_shorter (w ∷ ws) h = omega (
  arith,
  code_shorter w (λ e. let d = subst (λ v. Fits false v) e h.0 in true≢false (sym d)),
  key_shorter ws h.1,
  ap length (key_of-cons w ws),
  ap length (text_of-cons w ws),
  length-append (code w) (key_of ws),
  length-append (slashed w) (text_of ws),
)

-- all components of ws are names
record AreNames (ws : List Value) : Type 0 where
  names : List (List ℕ)
  is : ws ≡ map Normal names
  hold : AllByRecursion IsName names

-- if ws may follow other components, and their text is at most as long as their key, all components
-- of ws are names
are_names : (ws : List Value) → AllFit false ws → length (text_of ws) ≤ length (key_of ws)
    → AreNames ws
are_names [] h l = record { names = []; is = refl; hold = tt }
are_names (RootDir ∷ ws) h l = absurd (true≢false (sym h.0))
are_names (CurDir ∷ ws) h l = absurd (true≢false (sym h.0))
are_names (ParentDir ∷ ws) h l = absurd (omega (
  arith,
  key_shorter ws h.1,
  ap length (key_of-cons ParentDir ws),
  ap length (text_of-cons ParentDir ws),
))
are_names (Normal name ∷ ws) h l =
    let more = are_names ws h.1 (omega (
      arith,
      ap length (key_of-cons (Normal name) ws),
      ap length (text_of-cons (Normal name) ws),
      length-append (map raised name ++ 0 ∷ []) (key_of ws),
      length-append (name ++ slash ∷ []) (text_of ws),
      length-append (map raised name) (0 ∷ []),
      length-append name (slash ∷ []),
      length-map name raised,
    )) in
    record {
      names = name ∷ more.names;
      is = ap (λ us. Normal name ∷ us) more.is;
      hold = (h.0, more.hold);
    }

-- if ps are names, their text is their key with each byte decoded
text_of-key : (ps : List (List ℕ)) → AllByRecursion IsName ps
    → text_of (map Normal ps) ≡ map decoded (key_of (map Normal ps))
text_of-key [] h = text_of-nil ∙ ap (map decoded) (sym key_of-nil)
text_of-key (p ∷ ps) h =
    let rest = map Normal ps in
    text_of-cons (Normal p) rest
    ∙ ap₂ (λ s t. (s ++ slash ∷ []) ++ t) (sym (map-decoded-raised p h.0.no_slash))
    (text_of-key ps h.1)
    ∙ sym (ap (map decoded) (key_of-cons (Normal p) rest)
    ∙ map-append decoded (map raised p ++ 0 ∷ []) (key_of rest)
    ∙ ap (λ c. c ++ map decoded (key_of rest)) (map-append decoded (map raised p) (0 ∷ [])))

-- the last byte of the key is an end mark
record EndsInMark (key : List ℕ) : Type 0 where
  front : List ℕ
  is : key ≡ front ++ 0 ∷ []

-- the last byte in the key of the name p and the names ps is an end mark
ends_in_mark : (p : List ℕ) (ps : List (List ℕ)) → EndsInMark (key_of (map Normal (p ∷ ps)))
ends_in_mark p [] = record {
  front = map raised p;
  is = key_of-one (Normal p);
}
ends_in_mark p (q ∷ ps) =
    let more = ends_in_mark q ps in
    record {
      front = (map raised p ++ 0 ∷ []) ++ more.front;
      is = key_of-cons (Normal p) (map Normal (q ∷ ps))
          ∙ ap (λ k. (map raised p ++ 0 ∷ []) ++ k) more.is
          ∙ sym (append_assoc (map raised p ++ 0 ∷ []) more.front (0 ∷ []));
    }

-- if s is not empty, and is the key of names, s begins with the run of these names, whose bytes are
-- all bytes of s except the last end mark
all_names : (bytes : Bor (List ℕ)) (s : List ℕ) (ws : List Value) → AreNames ws
    → s ≡ key_of ws → 0 < length s → bytes.now ≡ take (length s - 1) s → ReadsRun s (Names bytes)
all_names bytes s ws h e l is = by h.names h.is h.hold
  where
    by : (ps : List (List ℕ)) → ws ≡ map Normal ps → AllByRecursion IsName ps
        → ReadsRun s (Names bytes)
    by [] same hold = absurd (omega (arith, ap length (e ∙ ap key_of same ∙ key_of-nil)))
    by (p ∷ ps) same hold =
        let vs = map Normal (p ∷ ps) in
        let key_is : s ≡ key_of vs = e ∙ ap key_of same in
        let mark = ends_in_mark p ps in
        let whole : s ≡ mark.front ++ 0 ∷ [] = key_is ∙ mark.is in
        let size : length s - 1 ≡ length mark.front =
        omega (arith, ap length whole, length-append mark.front (0 ∷ [])) in
        let front : bytes.now ≡ mark.front =
        is ∙ ap (take (length s - 1)) whole
        ∙ take_at mark.front (0 ∷ []) (length s - 1) (sym size) in
        let code : s ≡ bytes.now ++ 0 ∷ [] = whole ∙ ap (λ b. b ++ 0 ∷ []) (sym front) in
        record {
          vs = vs;
          some = omega arith;
          fit = names_fit false (p ∷ ps) hold;
          code_is = sym key_is ∙ code;
          text_is = text_of-key (p ∷ ps) hold ∙ ap (map decoded) (sym key_is ∙ code)
              ∙ map-append decoded bytes.now (0 ∷ []);
          is = code ∙ sym (ap (λ r. (bytes.now ++ 0 ∷ []) ++ r)
              (drop_all (length (bytes.now ++ 0 ∷ [])) s (omega (arith, ap length code)))
              ∙ append-nil (bytes.now ++ 0 ∷ []));
        }

-- if s is the key of inner components, which have at most `max_len` bytes with a slash each, and s
-- itself has `max_len` bytes, which is more than 0, then s begins with the run of the names
-- `bytes`, which are all bytes of s except the last end mark
pub names_remain : (bytes : Bor (List ℕ)) (s : List ℕ) (max_len : ℕ)
    → (t : List ℕ) × (key_of (inner_values t) ≡ s)
    × (length (slash_each (inner_values t)) ≤ max_len)
    → length s ≡ max_len → 0 < length s → bytes.now ≡ take (length s - 1) s
    → TakesRun s (Names bytes)
names_remain bytes s max_len (t, key_is, short) long l is =
    let ws = inner_values t in
    let fit : AllFit false ws = inner-fit t in
    run_told (all_names bytes s ws
    (are_names ws fit (omega (
      arith,
      short,
      long,
      ap length key_is,
      ap length (text_of-each ws fit),
      length-append (slash_each ws) (slash ∷ []),
    ))) (sym key_is) l is)
