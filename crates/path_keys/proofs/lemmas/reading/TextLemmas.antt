-- The text of components: their bytes, each with a slash after it, except that the root is one
-- slash. It is their canonical form and a slash, except for a lone root and for no components.
use Rattle.std.proofs.lemmas.Grind.{common_steps}
use Rattle.std.proofs.Common.{◌≡◌, ◌<◌, ◌≤◌, ◌-◌, ◌+◌, ℕ}
use Rattle.std.proofs.Common.{false, true, List, [], ◌∷◌, ◌++◌}
use Rattle.std.proofs.Common.{length, take, map, refl, sym, ap, ◌∙◌, arith, append_assoc}
use Rattle.std.proofs.Common.{length-append, append-nil, ap₂, subst}
use Rattle.std.proofs.lemmas.List.{take_at, length-map}
use Rattle.std.proofs.lemmas.List.Concat.{flat_map-append}
use Rattle.std.specs.List.{flat_map}
use Rattle.unix_path.specs.Parts.{Value, RootDir, CurDir, ParentDir, Normal, slash, value_bytes}
use Rattle.unix_path.specs.Parts.{cur_dir, parent_dir}
use Rattle.path_runs.specs.Spelling.{slash_each, slashed_bytes, spelling_of}
use Rattle.path_runs.proofs.lemmas.spelling.SpellLemmas.{spelling_of-nil, spelling_of-root}
use Rattle.path_runs.proofs.lemmas.spelling.SpellLemmas.{spelling_of-cons}
use Rattle.path_keys.specs.Keys.{raised, code}
use Rattle.path_keys.proofs.lemmas.values.Fitting.{Fits, AllFit}
use Rattle.path_keys.proofs.lemmas.reading.NameLemmas.{some_bytes}

-- the text of a component, its bytes before other components in a path: a slash for the root, and
-- otherwise the component's bytes and a slash
abbrev pub slashed : Value → List ℕ
slashed RootDir = slash ∷ []
slashed CurDir = cur_dir ++ slash ∷ []
slashed ParentDir = parent_dir ++ slash ∷ []
slashed (Normal name) = name ++ slash ∷ []

-- the text of these components, their bytes before other components in a path, one after the other
unfoldable pub text_of : List Value → List ℕ
text_of vs = flat_map slashed vs

-- the text of no components is empty
pub text_of-nil : text_of [] ≡ []
unfolding text_of
text_of-nil = refl

-- the text of v and vs is the text of v followed by the text of vs
pub text_of-cons : (v : Value) (vs : List Value) → text_of (v ∷ vs) ≡ slashed v ++ text_of vs
unfolding text_of
text_of-cons v vs = refl

-- the text of v as the only component is `slashed v`
pub text_of-one : (v : Value) → text_of (v ∷ []) ≡ slashed v
unfolding text_of
text_of-one v = append-nil (slashed v)

-- the text of vs and ws together is the text of vs followed by the text of ws
pub text_of-append : (vs ws : List Value) → text_of (vs ++ ws) ≡ text_of vs ++ text_of ws
unfolding text_of
text_of-append vs ws = flat_map-append slashed vs ws

-- the text of v has at most one byte more than the code of v
pub length-slashed : (v : Value) → length (slashed v) ≤ length (code v) + 1
length-slashed RootDir = omega arith
length-slashed CurDir = omega arith
length-slashed ParentDir = omega arith
length-slashed (Normal name) = omega (
  arith,
  length-append name (slash ∷ []),
  length-append (map raised name) (0 ∷ []),
  length-map name raised,
)

-- if v is not the root, its text is its bytes and a slash
slashed-inner : (v : Value) → (v ≡ RootDir → ⊥) → slashed v ≡ value_bytes v ++ slash ∷ []
slashed-inner RootDir h = absurd (h refl)
slashed-inner CurDir h = refl
slashed-inner ParentDir h = refl
slashed-inner (Normal name) h = refl

-- if v may follow other components, it is not the root
pub no_root : (v : Value) → Fits false v → v ≡ RootDir → ⊥
no_root v h e = let d : false ≡ true = subst (Fits false) e h in cc

-- if v is not the root, and vs may follow other components, the text of v and vs is their bytes
-- joined by slashes, and a slash at the end
pub text_of-slashed : (v : Value) (vs : List Value) → (v ≡ RootDir → ⊥) → AllFit false vs
    → text_of (v ∷ vs) ≡ slashed_bytes (v ∷ vs) ++ slash ∷ []
text_of-slashed v [] n h =
    text_of-one v ∙ slashed-inner v n
text_of-slashed v (w ∷ vs) n h =
    let more = slashed_bytes (w ∷ vs) in
    text_of-cons v (w ∷ vs)
    ∙ ap₂ (λ s t. s ++ t) (slashed-inner v n) (text_of-slashed w vs (no_root w h.0) h.1)
    ∙ append_assoc (value_bytes v) (slash ∷ []) (more ++ slash ∷ [])
    ∙ sym (append_assoc (value_bytes v) (slash ∷ more) (slash ∷ []))

-- if ws may follow other components, a slash before their text is each component after a slash, and
-- a slash at the end
pub text_of-each : (ws : List Value) → AllFit false ws
    → slash ∷ text_of ws ≡ slash_each ws ++ slash ∷ []
text_of-each [] h = ap (λ t. slash ∷ t) text_of-nil
text_of-each (w ∷ ws) h =
    let front = slash ∷ value_bytes w in
    ap (λ t. slash ∷ t) (text_of-cons w ws
    ∙ ap (λ t. t ++ text_of ws) (slashed-inner w (no_root w h.0))
    ∙ append_assoc (value_bytes w) (slash ∷ []) (text_of ws))
    ∙ ap (λ t. front ++ t) (text_of-each ws h.1)
    ∙ sym (append_assoc front (slash_each ws) (slash ∷ []))

-- `text` has at most one byte and is `spelled`, or it is `spelled`, which is not empty, and a slash
pub data IsText (text spelled : List ℕ) : Type 0 where
  lone : length text ≤ 1 → text ≡ spelled → IsText text spelled
  longer : 0 < length spelled → text ≡ spelled ++ slash ∷ [] → IsText text spelled

-- if v has at least one byte, v and vs joined by slashes have at least one byte
spelled_some : (v : Value) (vs : List Value) → 0 < length (value_bytes v)
    → 0 < length (slashed_bytes (v ∷ vs))
spelled_some v [] l = l
spelled_some v (w ∷ vs) l =
    omega (arith, length-append (value_bytes v) (slash ∷ slashed_bytes (w ∷ vs)))

-- if v is not the root and has a byte, and vs may follow other components, the text of v and vs is
-- their canonical form and a slash
text_longer : (v : Value) (vs : List Value) → (v ≡ RootDir → ⊥) → 0 < length (value_bytes v)
    → AllFit false vs → IsText (text_of (v ∷ vs)) (spelling_of (v ∷ vs))
text_longer v vs n l h =
    grind (arith, common_steps, spelling_of-cons, longer, spelled_some, text_of-slashed)

-- if v may follow other components, it has at least one byte
value_some : (v : Value) → Fits false v → 0 < length (value_bytes v)
value_some RootDir h = absurd (cc)
value_some CurDir h = absurd (cc)
value_some ParentDir h = omega arith
value_some (Normal name) h = some_bytes name h.some

-- if vs may follow other components, the text of the root and vs is their canonical form, with a
-- slash after it if vs is not empty
text_rooted : (vs : List Value) → AllFit false vs
    → IsText (text_of (RootDir ∷ vs)) (spelling_of (RootDir ∷ vs))
text_rooted [] h =
    lone (omega (arith, ap length (text_of-one RootDir)))
    (text_of-one RootDir ∙ sym (spelling_of-root []))
text_rooted (v ∷ vs) h =
    let e = spelling_of-root (v ∷ vs) in
    longer (omega (arith, ap length e))
    (text_of-cons RootDir (v ∷ vs)
    ∙ ap (λ t. slash ∷ t) (text_of-slashed v vs (no_root v h.0) h.1)
    ∙ ap (λ s. s ++ slash ∷ []) (sym e))

-- if vs may be all components of a path, their text is their canonical form, with a slash after it
-- unless there is no component or only the root
pub text_is : (vs : List Value) → AllFit true vs → IsText (text_of vs) (spelling_of vs)
text_is [] h = lone (omega (arith, ap length text_of-nil)) (text_of-nil ∙ sym spelling_of-nil)
text_is (RootDir ∷ vs) h = text_rooted vs h.1
text_is (CurDir ∷ vs) h = text_longer CurDir vs (λ e. cc) (omega arith) h.1
text_is (ParentDir ∷ vs) h = text_longer ParentDir vs (λ e. cc) (omega arith) h.1
text_is (Normal name ∷ vs) h =
    text_longer (Normal name) vs (λ e. cc) (value_some (Normal name) h.0) h.1

-- `spelled` is the text without its last byte if the text has more than one byte, and otherwise the
-- text
trimmed_text : {text spelled : List ℕ} → IsText text spelled
    → (1 < length text → take (length text - 1) text ≡ spelled)
    × (length text ≤ 1 → text ≡ spelled)
trimmed_text {text} {spelled} (lone l e) = (λ more. absurd (omega arith), λ _. e)
trimmed_text {text} {spelled} (longer l e) =
    let count : length text ≡ length spelled + 1 =
    omega (arith, ap length e, length-append spelled (slash ∷ [])) in (
      λ more. ap (take (length text - 1)) e
          ∙ take_at spelled (slash ∷ []) (length text - 1) (omega (arith, count)),
      λ few. absurd (omega (arith, count)),
    )

-- if vs may be all components of a path, their canonical form is their text without its last byte
-- if the text has more than one byte, and otherwise their text
pub text_of-spelled : (vs : List Value) → AllFit true vs → (text : List ℕ) → text ≡ text_of vs
    → (1 < length text → take (length text - 1) text ≡ spelling_of vs)
    × (length text ≤ 1 → text ≡ spelling_of vs)
text_of-spelled vs h text e =
    trimmed_text (subst (λ t. IsText t (spelling_of vs)) (sym e) (text_is vs h))
